pub mod Extending
pub mod Missing
