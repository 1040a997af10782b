pub mod InOrder
pub mod ResolvedBodies
