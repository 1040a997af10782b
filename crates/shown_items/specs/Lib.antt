pub mod Candidates
pub mod Faces
pub mod FixedNames
pub mod Looks
pub mod Own
pub mod Reads
pub mod RightsOn
pub mod Viewers
