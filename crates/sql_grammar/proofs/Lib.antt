pub mod InformationProofs
pub mod AlterProofs
pub mod RightsProofs
pub mod CreateProofs
pub mod StatementProofs
pub mod StatementDepths
