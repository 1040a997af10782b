pub mod Joins
pub mod FurtherLemmas
pub mod WidthLemmas
