pub mod Edges
pub mod Reached
