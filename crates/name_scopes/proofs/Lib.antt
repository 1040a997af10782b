pub mod PositionNames
pub mod Seeks
pub mod Tails
pub mod Turns
