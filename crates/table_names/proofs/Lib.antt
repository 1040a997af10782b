pub mod DigitLemmas
pub mod NamedLemmas
pub mod NamesSettled
pub mod OwnNames
pub mod PassedLemmas
pub mod RepeatLemmas
pub mod TakenLemmas
