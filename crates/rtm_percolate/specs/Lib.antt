pub mod Choices
pub mod Nested
pub use Rattle.rtm_deck_operands.specs.Value
pub use Rattle.rtm_model.specs.Cards
pub use Rattle.rtm_model.specs.Levels
pub use Rattle.rtm_model.specs.Limits
pub use Rattle.rtm_model.specs.Record
pub use Rattle.rtm_model.specs.SetrpCard
