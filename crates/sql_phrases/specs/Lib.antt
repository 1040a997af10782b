pub mod Reading
pub mod Shapes
pub mod Parsers
pub mod NameRules
pub mod NameParsers
pub mod TypeRules
pub mod TypeParsers
