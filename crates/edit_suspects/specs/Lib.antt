pub mod Helpers
pub mod Seeds
pub mod Suspects
