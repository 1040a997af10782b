pub mod Filing
pub mod Graphs
pub mod Shelves
pub mod Spans
pub mod Undo
