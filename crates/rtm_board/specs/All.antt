-- The notes of all commands of a deck (this profile).
use Rattle.std.specs.Prelude.{length, true, ℕ, ◌<◌, ◌≡◌}
use Rattle.rtm_deck_items.specs.View.{DeckView}
use Rattle.rtm_board.specs.Commands.{has}

-- each command of the deck is among them
abbrev pub AreAll : DeckView → ℕ → Type 0
AreAll d notes = (cmd : ℕ) → cmd < length d.commands → has cmd notes ≡ true
