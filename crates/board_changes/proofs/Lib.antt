mod Backward
mod Counting
pub mod Following
mod Forward
mod Going
mod Settling
mod Still
