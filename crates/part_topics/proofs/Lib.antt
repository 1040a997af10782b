pub mod More
pub mod Kept
pub mod Found
