pub mod Kept
pub mod OwnNames
pub mod ReferenceEquations
pub mod Replaced
