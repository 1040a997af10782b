pub mod LeftLaws
pub mod TouchedLaws
pub mod GhostLaws
pub mod SuspectLaws
pub mod PossibleLaws
pub mod WholeLaws
