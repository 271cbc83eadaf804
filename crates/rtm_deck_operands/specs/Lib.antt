pub mod Name
pub mod Numeral
pub mod Value
pub mod Slot
pub mod inner
pub use Rattle.rtm_codes.specs.Code
pub use Rattle.rtm_cards.specs.Span
