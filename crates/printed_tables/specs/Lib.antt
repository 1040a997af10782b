pub mod TableTexts
pub mod Written
