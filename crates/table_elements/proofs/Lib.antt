pub mod DomainNames
pub mod FoundKinds
pub mod FoundLists
pub mod OwnColumns
pub mod Settled
