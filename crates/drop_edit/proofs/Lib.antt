pub mod Settled
pub mod ObjectLemmas
pub mod RoleLemmas
pub mod PartLemmas
