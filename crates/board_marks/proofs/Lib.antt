pub mod OwnTopics
pub mod Spreads
