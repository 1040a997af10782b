pub mod Keys
pub mod Lengths
pub mod Outcomes
pub mod Firsts
pub mod Arriving
pub mod Changed
pub mod Widths
