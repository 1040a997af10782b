pub mod QueryRules
pub mod ExpressionRules
pub mod QueryParsers
pub mod ExpressionParsers
pub mod Nests
pub mod Depth
pub mod Laws
