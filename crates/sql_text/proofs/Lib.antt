pub mod Appends
pub mod Equations
