pub mod CopyLemmas
pub mod CopiesSettled
pub mod DomainDrops
pub mod FreedLemmas
pub mod SchemaDrops
pub mod SoundFreeing
