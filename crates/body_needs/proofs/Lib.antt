pub mod Gained
pub mod OtherNeeds
