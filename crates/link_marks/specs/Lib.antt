pub mod Marked
pub mod Reached
