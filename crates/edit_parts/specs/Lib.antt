pub mod Possible
pub mod Touched
pub mod Parts
pub mod Whole
