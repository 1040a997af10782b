pub mod CreatedRoutines
pub mod Making
