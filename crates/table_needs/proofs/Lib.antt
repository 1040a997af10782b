pub mod NeedLemmas
pub mod Searches
