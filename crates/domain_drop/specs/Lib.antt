pub mod CheckCopies
pub mod Drops
pub mod FreedColumns
pub mod Gone
pub mod Lists
