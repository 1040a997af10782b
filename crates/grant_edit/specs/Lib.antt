pub mod Grants
pub mod Named
pub mod Revokes
pub mod RightParts
pub mod Statements
pub mod Targets
