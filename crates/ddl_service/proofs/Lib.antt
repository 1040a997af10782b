pub mod CommandLaws
pub mod Openings
pub mod UserLists
pub mod UserNames
