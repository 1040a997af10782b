pub mod Repeated
pub mod Resolving
pub mod Steps
