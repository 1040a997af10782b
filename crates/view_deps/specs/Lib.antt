pub mod ByName
pub mod Described
pub mod Views
