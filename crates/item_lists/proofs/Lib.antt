pub mod Fronts
pub mod Merges
pub mod Steps
