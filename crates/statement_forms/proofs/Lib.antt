pub mod DefaultForms
pub mod FormedTrees
pub mod Forms
pub mod KeptWords
pub mod NumberForms
pub mod TreePieces
pub mod TypeForms
