-- Which legal histories of a deck a run makes (this profile).
use Rattle.std.specs.Prelude.{List, ◌≡◌}
use Rattle.rtm_deck_items.specs.View.{DeckView}
use Rattle.rtm_model.specs.declared.entry.Entry.{Entry}
use Rattle.rtm_model.specs.Turns.{seq}

-- in turns, on one thread: one of them
abbrev pub in_turns : DeckView → List Entry → Type 0
in_turns d history = history ≡ seq d

-- in whatever order its threads come to: any of them
abbrev pub in_any_order : DeckView → List Entry → Type 0
in_any_order d history = Unit {0}
