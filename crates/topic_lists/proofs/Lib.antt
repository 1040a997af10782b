pub mod ActorLaws
pub mod BesideLaws
pub mod GrantLaws
pub mod NameLaws
pub mod NeedLaws
pub mod Runs
pub mod TopicLaws
