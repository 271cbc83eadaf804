-- The cards of an input are its lines, numbered from 1 (this profile).
use Rattle.std.specs.Prelude.{ℕ, ◌+◌, ◌-◌, ◌==◌, List, [], ◌∷◌, length, take, sum_by, count_by, slice_index_or, if◌then◌else◌}
use Rattle.std.specs.List.{onto_first}
use Rattle.rtm_cards.specs.Text.{line_feed}

-- A line feed ends a card, and the last card may have none.
unfoldable pub lines_of : List ℕ → List (List ℕ)
lines_of [] = []
lines_of (b ∷ bs) = if b == line_feed then [] ∷ lines_of bs else onto_first b (lines_of bs)

-- the card of that number
abbrev pub line_at : List (List ℕ) → ℕ → List ℕ
line_at lines number = slice_index_or lines (number - 1) []

-- the index of the first byte of the card of that number: each card before it is ended by one line feed
abbrev pub start_of : List (List ℕ) → ℕ → ℕ
start_of lines number = sum_by (λ line. length line + 1) (take (number - 1) lines)

-- the number of the card that holds the byte of that index; a line feed is held by the card that it ends
unfoldable pub number_at : List ℕ → ℕ → ℕ
number_at bytes i = count_by (λ b. b == line_feed) (take i bytes) + 1
