pub mod Chosen
pub mod First
pub mod Grantors
pub mod Names
pub mod Owners
pub mod Privileges
