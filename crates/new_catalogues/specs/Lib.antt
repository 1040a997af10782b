pub mod Further
pub mod Joining
pub mod Width
