pub mod Commands
pub mod Finish
pub mod Top
pub mod Users
