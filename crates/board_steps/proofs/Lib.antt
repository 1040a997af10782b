pub mod Apart
pub mod Edited
pub mod Holding
pub mod Planned
pub mod Room
pub mod TakenBack
