pub mod Columns
pub mod KnownTypes
pub mod RuleTypes
pub mod TypedParts
pub mod TypedTrees
pub mod TypingEquations
