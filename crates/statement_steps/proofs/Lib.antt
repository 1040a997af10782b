pub mod Additions
pub mod NameLaws
pub mod NeedLaws
pub mod Repeats
pub mod Settled
pub mod StepLaws
