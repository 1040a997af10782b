pub mod Formed
pub mod Made
pub mod OneMade
pub mod Rules
