pub mod CheckRules
pub mod CheckParsers
pub mod TableRules
pub mod TableParsers
pub mod BodyRules
pub mod BodyParsers
pub mod RoutineRules
pub mod RoutineParsers
