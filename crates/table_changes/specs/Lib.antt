pub mod Changes
pub mod Defaults
pub mod DroppedColumns
pub mod DroppedConstraints
