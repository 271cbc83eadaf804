pub mod Names
pub mod Loops
pub mod ValueTexts
pub mod SlotTexts
pub mod SlotReading
pub mod Written
pub mod Numerals
pub mod CanonTexts
