pub mod DroppedObjects
pub mod DroppedRoles
pub mod Drops
pub mod Parts
