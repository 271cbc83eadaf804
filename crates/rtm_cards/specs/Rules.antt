-- What a card may be, and which rule it breaks first (this profile).
use Rattle.std.specs.Prelude.{ℕ, Bool, false, not, ◌&&◌, ◌||◌, ◌==◌, nat_lt, nat_le, List, [], ◌∷◌, length, Option, Some, None, if◌then◌else◌}
use Rattle.std.specs.List.{list_all}
use Rattle.rtm_cards.specs.declared.fault.CutWhy.{CutWhy}
use Rattle.rtm_cards.specs.declared.fault.CutWhy.TheVariants.{OverLimit, BadByte, BadCard}
use Rattle.rtm_cards.specs.Limits.{most_cards, most_card_bytes}
use Rattle.rtm_cards.specs.Text.{blank, asterisk}
use Rattle.rtm_cards.specs.Name.{is_name_field}
use Rattle.rtm_cards.specs.Fields.{name_of, op_of}

-- The first byte of a comment is an asterisk.
abbrev pub is_comment : List ℕ → Bool
is_comment [] = false
is_comment (b ∷ _) = b == asterisk

-- A blank card has only blanks, or nothing.
abbrev pub is_blank_card : List ℕ → Bool
is_blank_card card = list_all (λ b. b == blank) card

-- a card that says nothing
abbrev pub is_ignored : List ℕ → Bool
is_ignored card = is_comment card || is_blank_card card

-- a byte that may stand on a card
abbrev pub is_printable : ℕ → Bool
is_printable b = nat_le 32 b && nat_le b 126

-- There is a name in the name field or nothing, and there is an operation.
abbrev pub has_good_fields : List ℕ → Bool
has_good_fields card = is_name_field (name_of card) && not (length (op_of card) == 0)

-- The card is too long, or its fields are bad, which those of comments and blank cards can't be.
abbrev pub is_bad_card : List ℕ → Bool
is_bad_card card = nat_lt most_card_bytes (length card) || not (is_ignored card || has_good_fields card)

-- the first rule that the card of that number breaks
unfoldable pub fault_of : ℕ → List ℕ → Option CutWhy
fault_of number card =
    if nat_lt most_cards number then Some OverLimit
    else (if not (list_all is_printable card) then Some BadByte
    else (if is_bad_card card then Some BadCard
    else None))
