-- What contracts see of a system, and what it keeps.
use Rattle.std.specs.Prelude.{List, length, ℕ, ◌≡◌, ◌≤◌}
use Rattle.rtm_deck_items.specs.View.{DeckView}
use Rattle.rtm_model.specs.declared.entry.Entry.{Entry}
use Rattle.rtm_model.specs.Advance.{world}
use Rattle.rtm_model.specs.Legal.{Legal}
use Rattle.rtm_model.specs.World.{World}

-- its deck, and the trace that it has made
pub record SystemView : Type 0 where
  pub deck : DeckView
  pub trace : List Entry

-- The control blocks are those that live after the trace, the trace is legal, and there is room for the longest. The
-- unit that went on last is one of the deck's, or the master.
pub record StandsFor (d : DeckView) (machine : World) (trace : List Entry) (room last : ℕ) : Type 0 where
  pub world_is : world d trace ≡ machine
  pub legal : Legal d trace
  pub room_is : d.limit ≤ room
  pub last_in : last ≤ length d.units
