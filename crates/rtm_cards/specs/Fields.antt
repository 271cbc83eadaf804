-- The fields of a card (this profile).
use Rattle.std.specs.Prelude.{ℕ, ◌==◌, List, [], ◌∷◌}
use Rattle.std.specs.List.{slice_split}
use Rattle.rtm_cards.specs.Text.{blank, comma, before, from_first, skip_blanks}

-- the name field: what stands before the first blank
abbrev pub name_of : List ℕ → List ℕ
name_of card = before blank card

-- the card from its operation on, which blanks part from the name field
abbrev pub from_op : List ℕ → List ℕ
from_op card = skip_blanks (from_first blank card)

abbrev pub op_of : List ℕ → List ℕ
op_of card = before blank (from_op card)

-- the card from its operand field on, which blanks part from the operation
abbrev pub from_operands : List ℕ → List ℕ
from_operands card = skip_blanks (from_first blank (from_op card))

-- the parts of a text between its commas
abbrev pub split_at_commas : List ℕ → List (List ℕ)
split_at_commas text = slice_split (λ b. b == comma) text

-- the parts of a field; a field of no bytes has none
abbrev pub parts_of : List ℕ → List (List ℕ)
parts_of [] = []
parts_of (b ∷ bs) = split_at_commas (b ∷ bs)

-- The operand field ends at the next blank, and what follows is a remark.
abbrev pub operands_of : List ℕ → List (List ℕ)
operands_of card = parts_of (before blank (from_operands card))
