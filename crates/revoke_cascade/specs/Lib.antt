pub mod Boards
pub mod Effects
pub mod Outcomes
pub mod Prepared
