pub mod RoundLemmas
pub mod SystemLemmas
