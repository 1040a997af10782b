pub mod AssertionLemmas
pub mod NewAssertions
