pub mod Frames
pub mod Known
pub mod Look
pub mod Outcomes
pub mod Single
