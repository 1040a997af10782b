pub mod GroupingEquations
pub mod TypesEquations
