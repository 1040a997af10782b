pub mod MentionEquations
pub mod NeedKeys
pub mod NeedMembers
pub mod NeedOrder
pub mod Outside
