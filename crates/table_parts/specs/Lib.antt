pub mod Classes
pub mod Columns
pub mod Forms
pub mod Marks
pub mod Parts
