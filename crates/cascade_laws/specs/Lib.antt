pub mod Alike
pub mod Asks
pub mod Concerns
pub mod Found
pub mod Spreading
pub mod Topics
