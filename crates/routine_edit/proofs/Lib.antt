pub mod RoutineLemmas
pub mod Settled
pub mod SoundRoutines
