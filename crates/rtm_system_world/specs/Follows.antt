-- An entry that may stand after n entries, after which a sound world lives (this profile).
use Rattle.std.specs.Prelude.{ℕ}
use Rattle.rtm_deck_items.specs.View.{DeckView}
use Rattle.rtm_model.specs.declared.entry.Entry.{Entry}
use Rattle.rtm_model.specs.Legal.{MayFollow}
use Rattle.rtm_model.specs.inner.Soundness.{IsSound}
use Rattle.rtm_model.specs.World.{World}

pub record Follows (d : DeckView) (n : ℕ) (w : World) (e : Entry) : Type 0 where
  pub sound : IsSound d n w
  pub may : MayFollow d w n e e.what
