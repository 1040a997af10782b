pub mod CreatedAssertions
pub mod Making
