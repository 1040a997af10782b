pub mod Effects
pub mod Changes
pub mod Parts
pub mod Widths
