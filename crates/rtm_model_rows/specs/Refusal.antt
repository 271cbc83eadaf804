-- A history that may not be made, and why.
use Rattle.std.specs.Prelude.{List, Option, [], ◌++◌, ◌∷◌, ◌≡◌}
use Rattle.std.specs.Option.{option_map}
use Rattle.rtm_deck_items.specs.View.{DeckView}
use Rattle.rtm_model.specs.declared.entry.Entry.{Entry}
use Rattle.rtm_model.specs.Advance.{world}
use Rattle.rtm_model.specs.Legal.{Legal}
use Rattle.rtm_model.specs.NextEntry.{next}

-- After the legal entries before it, the entry `changed` is refused: what its unit may make next is `wanted`, if
-- anything.
pub record IsRefused (d : DeckView) (before : List Entry) (changed : Entry) (wanted : Option Entry) : Type 0 where
  pub legal : Legal d before
  pub next_is : next d (world d before) changed.unit ≡ option_map (λ e. e.what) wanted
  pub refused : Legal d (before ++ changed ∷ []) → ⊥
