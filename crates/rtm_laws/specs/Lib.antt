pub mod Laws
pub use Rattle.rtm_deck_items.specs.View
pub use Rattle.rtm_deck_items.specs.WellFormed
pub use Rattle.rtm_model.specs.Legal
pub use Rattle.rtm_trace_judge.specs.Judged
pub use Rattle.rtm_top_answers.specs.Run
