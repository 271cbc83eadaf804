-- How often the cards of the deck stand (this profile).
use Rattle.std.specs.Prelude.{ℕ, List}
use Rattle.std.specs.List.{range_with_len}

-- the numbers from 1 to that one
unfoldable pub one_to : ℕ → List ℕ
one_to most = range_with_len 1 most

-- how many recovery routines each task makes, one after the other
abbrev pub routines : ℕ
routines = 40
