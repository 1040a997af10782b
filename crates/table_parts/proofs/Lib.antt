pub mod Differing
pub mod ListMembers
pub mod MarkLemmas
pub mod Pairs
pub mod Repeats
pub mod Searches
