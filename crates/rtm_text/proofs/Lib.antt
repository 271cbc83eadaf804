pub mod DigitLaws
pub mod NumeralLaws
