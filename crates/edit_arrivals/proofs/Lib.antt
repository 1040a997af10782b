pub mod Standing
pub mod Options
pub mod Steps
pub mod Walking
