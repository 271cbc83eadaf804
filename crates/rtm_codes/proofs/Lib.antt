pub mod Codes
pub mod Spellings
pub mod Written
