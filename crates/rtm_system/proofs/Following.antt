-- A unit's next entry may follow.
pub use Rattle.rtm_law_turns.proofs.Following.{next_follows}
