pub mod LookUps
pub mod PossibleRights
pub mod TopicParts
pub mod Touched
