pub mod Adding
pub mod HomeLaws
pub mod NameLaws
pub mod OrderLaws
