pub mod Inserting
pub mod Linking
pub mod Numbers
pub mod Removing
