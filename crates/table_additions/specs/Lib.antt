pub mod Additions
pub mod Alterations
pub mod Lists
pub use Rattle.table_creation.specs.Tables
