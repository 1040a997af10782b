pub mod DomainTypes
pub mod NamedKinds
pub mod NewColumns
pub mod NewTables
pub mod SoundTables
pub mod TableItems
pub mod TestedTables
pub mod WrittenTables
