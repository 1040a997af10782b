pub mod Dictionary
pub mod ReservedWords
