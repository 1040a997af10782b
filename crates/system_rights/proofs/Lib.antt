pub mod Added
pub mod Rows
pub mod RightKeys
