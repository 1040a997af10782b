pub mod AlteredDomains
pub mod Checks
pub mod CreatedDomains
pub mod Found
pub mod Made
