pub mod Suspects
pub mod Steps
