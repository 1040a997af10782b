pub mod Arrivals
pub mod Ends
pub mod Leaving
pub mod Planning
pub mod Spent
