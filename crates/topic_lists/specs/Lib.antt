pub mod Actors
pub mod Beside
pub mod Granted
pub mod Needs
pub mod RightNames
pub mod Sought
