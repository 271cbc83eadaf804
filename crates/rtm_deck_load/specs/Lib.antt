pub mod Counts
pub mod Deck
pub mod Text
pub use Rattle.rtm_cards.specs.Spelling
