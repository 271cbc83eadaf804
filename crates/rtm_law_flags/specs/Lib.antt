pub mod Said
pub mod Flags
pub mod Births
pub mod Brackets
pub use Rattle.rtm_deck_items.specs.View
pub use Rattle.rtm_deck_items.specs.WellFormed
pub use Rattle.rtm_model.specs.Legal
