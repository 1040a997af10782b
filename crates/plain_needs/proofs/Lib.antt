pub mod BaseNeeds
pub mod ColumnNeeds
pub mod FlatMembers
