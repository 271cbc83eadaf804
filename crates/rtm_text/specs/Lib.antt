pub mod NoMemory
pub mod Digits
pub mod Numeral
pub mod Cutting
