pub mod ForeignKeys
pub mod Types
