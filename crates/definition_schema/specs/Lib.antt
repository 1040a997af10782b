pub mod Keys
pub mod Tables
pub mod Constraints
pub mod Definition
