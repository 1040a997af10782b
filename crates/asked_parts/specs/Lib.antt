pub mod Parts
pub mod Rounds
pub mod Schemas
pub mod Under
