pub mod Histories
pub mod Joining
pub mod Rows
pub mod Steps
pub mod Answering
pub mod Closing
