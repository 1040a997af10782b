pub mod Monotone
pub mod Ordinary
pub mod Local
pub mod Decisions
pub mod Goodness
pub mod Settled
