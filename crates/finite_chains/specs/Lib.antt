pub mod Chains
pub mod Changes
pub mod Growth
pub mod LinkSums
pub mod StrictOrder
