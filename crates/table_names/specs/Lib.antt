pub mod Given
pub mod Named
pub mod Refusals
pub mod Taken
