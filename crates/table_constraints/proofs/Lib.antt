pub mod ColumnLaws
pub mod ConstraintLaws
pub mod FoundPlaces
pub mod KeysSeen
pub mod MadeLemmas
pub mod PutLemmas
pub mod Settled
