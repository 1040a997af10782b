pub mod Outcomes
pub mod Plans
pub mod Settled
pub mod SoundEdits
pub mod Stored
pub use Rattle.revoke_cascade.proofs.Openings
