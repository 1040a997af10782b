pub mod Bodies
pub mod BodyNames
pub mod BodyTypes
