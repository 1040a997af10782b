pub mod AloneEquations
pub mod BaseEquations
pub mod Columns
pub mod Plainness
