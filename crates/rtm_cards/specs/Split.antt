-- The input of `verify`: a deck, and the trace that follows it (this profile).
use Rattle.std.specs.Prelude.{Bool, List, [], bytes_eq, codes, drop, if◌then◌else◌, length, take, ℕ, ◌&&◌, ◌+◌, ◌==◌, ◌∷◌}
use Rattle.rtm_cards.specs.Fields.{name_of, op_of}
use Rattle.rtm_cards.specs.Lines.{lines_of}

-- the line ends a deck: it has no name, and its operation is END
abbrev pub ends_deck : List ℕ → Bool
ends_deck line = (length (name_of line) == 0) && bytes_eq (op_of line) (codes "END")

-- how many bytes the lines have, with their line feeds, up to the first that ends a deck and with it; all if none does
abbrev pub front_in : List (List ℕ) → ℕ
front_in [] = 0
front_in (line ∷ lines) = length line + 1 + (if ends_deck line then 0 else front_in lines)

-- the deck, and what follows it
abbrev pub deck_part : List ℕ → List ℕ
deck_part bytes = take (front_in (lines_of bytes)) bytes

abbrev pub trace_part : List ℕ → List ℕ
trace_part bytes = drop (front_in (lines_of bytes)) bytes
