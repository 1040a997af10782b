pub mod PartLemmas
pub mod Settled
pub mod SoundDefaults
pub mod SoundDrops
pub mod Taking
pub mod WrittenDefaults
