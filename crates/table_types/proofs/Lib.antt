pub mod ClassLemmas
pub mod ForeignLemmas
