pub mod Aggregates
pub mod Grouping
pub mod Types
pub mod Whole
