pub mod Mentioned
pub mod Ordered
pub mod Views
