pub mod GrownMarks
pub mod MarkSums
pub mod Places
pub mod Reaching
