pub mod Binding
pub mod QueryProofs
pub mod ExpressionProofs
pub mod WithinProofs
pub mod Depths
pub mod DepthProofs
