pub mod Known
pub mod Rights
pub mod Judged
pub mod Making
pub mod Effecting
pub mod Openings
pub mod Boarding
pub mod Spending
