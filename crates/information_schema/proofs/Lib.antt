pub mod Alike
pub mod Selecting
pub mod Worth
