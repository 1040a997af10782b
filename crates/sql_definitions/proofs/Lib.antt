pub mod Continuing
pub mod ConditionProofs
pub mod TableProofs
pub mod BodyProofs
pub mod RoutineProofs
pub mod DefinitionDepths
