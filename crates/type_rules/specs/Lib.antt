pub mod Rules
pub mod TypeParts
