pub mod Bodies
pub mod Printing
