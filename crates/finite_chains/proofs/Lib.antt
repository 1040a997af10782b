pub mod Cascades
pub mod Chains
pub mod Growths
pub mod Members
pub mod StrictOrders
pub mod SumsOverLinks
