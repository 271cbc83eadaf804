-- The deck that the reader makes is one that the cards spell.
pub mod Operations
pub mod Walk
pub mod Laid
pub mod Counts
pub mod Labels
pub mod Places
pub mod Items
pub mod AllCards
pub mod SpelledDeck
