pub mod Keywords
pub mod Kinds
pub mod KeywordLaws
pub mod Sections
pub mod Texts
