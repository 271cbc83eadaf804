-- Lists that have the oldest first, read from their newest end.
pub use Rattle.rtm_model.proofs.Backwards.{reverse_filter}
