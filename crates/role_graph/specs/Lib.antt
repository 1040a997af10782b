pub mod Actors
pub mod Cycles
pub mod Judges
pub mod Loops
pub mod Marked
pub mod Needs
pub mod Roles
pub mod Trails
