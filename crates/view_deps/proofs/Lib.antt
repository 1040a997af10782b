pub mod Described
pub mod Joined
pub mod Ranges
pub mod Sorts
