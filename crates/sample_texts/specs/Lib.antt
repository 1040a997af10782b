pub mod Draws
pub mod Laws
pub mod Statements
pub mod Sample
