pub mod Keys
pub mod Lists
pub mod Homes
pub mod Names
