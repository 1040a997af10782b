pub mod Creating
pub mod GrantPlaces
pub mod Granting
pub mod Options
pub mod RoleLists
pub mod Settled
pub mod Taking
