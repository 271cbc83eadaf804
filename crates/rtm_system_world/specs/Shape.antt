-- What code has to know of the world that it runs a deck in (this profile).
use Rattle.std.specs.Prelude.{length, ◌+◌, ◌≡◌, ◌≤◌}
use Rattle.rtm_deck_items.specs.View.{DeckView}
use Rattle.rtm_cards.specs.Limits.{most_units}
use Rattle.rtm_model.specs.Tasks.{Tree}
use Rattle.rtm_model.specs.World.{World}

-- a world has a unit for each card of the deck, and the master
pub record IsShaped (d : DeckView) (w : World) : Type 0 where
  pub units : length w.units ≡ length d.units + 1
  pub lives : length (Tree.lives w.tree) ≡ length d.units
  pub few : length d.units ≤ most_units
