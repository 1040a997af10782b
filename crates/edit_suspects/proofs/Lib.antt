pub mod GhostKeys
pub mod Alikes
pub mod Standing
pub mod Fresh
pub mod Finding
pub mod Spreads
