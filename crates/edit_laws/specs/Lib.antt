pub mod Additions
pub mod Columns
pub mod Forms
pub mod Kinds
pub mod Proper
pub mod PutBack
pub mod Sound
pub mod Users
