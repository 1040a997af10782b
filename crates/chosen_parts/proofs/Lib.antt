pub mod Covering
pub mod Lying
pub mod Passing
pub mod Skipping
pub mod Steps
pub mod TableLemmas
