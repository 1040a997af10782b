pub mod Answers
pub mod Queries
pub mod Views
