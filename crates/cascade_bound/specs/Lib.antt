pub mod Granted
pub mod Judging
pub mod Marked
pub mod Missing
