pub mod Walks
pub mod Merges
