pub mod Equations
pub mod Selected
pub mod Steps
