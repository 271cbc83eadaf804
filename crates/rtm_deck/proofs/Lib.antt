pub mod Cards
pub mod Faults
pub mod Decks
pub mod Inputs
pub mod Calls
