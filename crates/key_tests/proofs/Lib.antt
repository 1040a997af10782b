pub mod HelperKeys
pub mod PossibleRights
pub mod TopicKeys
