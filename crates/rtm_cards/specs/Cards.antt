-- What the cards of an input say.
use Rattle.std.specs.Prelude.{◌≡◌, ℕ, ◌+◌, ◌-◌, ◌<◌, ◌≤◌, IsTrue, List, [], ◌∷◌, length, map, if◌then◌else◌}
use Rattle.std.specs.List.{AllByRecursion}
use Rattle.rtm_cards.specs.View.{CardSpans}
use Rattle.rtm_cards.specs.Span.{IsWithin, text_of, StandInRow}
use Rattle.rtm_cards.specs.Lines.{lines_of, line_at, start_of}
use Rattle.rtm_cards.specs.Name.{is_name_field}
use Rattle.rtm_cards.specs.Fields.{name_of, from_op, op_of, from_operands, operands_of}
use Rattle.rtm_cards.specs.Rules.{is_ignored}

-- a card as data: its number and the bytes of its fields, with no bytes for a name that is left out
pub record CardText : Type 0 where
  pub number : ℕ
  pub name : List ℕ
  pub op : List ℕ
  pub operands : List (List ℕ)

-- the card of that number
abbrev pub card_of : ℕ → List ℕ → CardText
card_of number card =
    record { number = number; name = name_of card; op = op_of card; operands = operands_of card }

-- the cards of some lines, of which the first has that number, without comments and blank cards
abbrev pub cards_from : ℕ → List (List ℕ) → List CardText
cards_from number [] = []
cards_from number (line ∷ lines) =
    if is_ignored line then cards_from (number + 1) lines
    else card_of number line ∷ cards_from (number + 1) lines

-- the data of a card whose spans lie in these bytes
abbrev pub card_text : List ℕ → CardSpans → CardText
card_text bytes c = record {
  number = c.number;
  name = text_of bytes c.name;
  op = text_of bytes c.op;
  operands = map (text_of bytes) c.operands;
}

-- Each span of the card is a span of these bytes.
pub record HasSpansIn (bytes : List ℕ) (c : CardSpans) : Type 0 where
  pub name : IsWithin bytes c.name
  pub op : IsWithin bytes c.op
  pub operands : AllByRecursion (IsWithin bytes) c.operands

-- The card's fields begin where they begin on that line, whose first byte has the index `start`.
pub record LiesOn (start : ℕ) (line : List ℕ) (c : CardSpans) : Type 0 where
  pub name : c.name.from ≡ start
  pub op : c.op.from ≡ start + (length line - length (from_op line))
  pub operands : StandInRow (start + (length line - length (from_operands line))) c.operands

-- The name is left out or a name, of 8 bytes at most, and there is an operation.
pub record IsWellFormed (c : CardText) : Type 0 where
  pub name : IsTrue (is_name_field c.name)
  pub short : length c.name ≤ 8
  pub op : 0 < length c.op

-- what holds of each card that is cut from these bytes
pub record IsCardOf (bytes : List ℕ) (c : CardSpans) : Type 0 where
  pub spans : HasSpansIn bytes c
  pub place : LiesOn (start_of (lines_of bytes) c.number) (line_at (lines_of bytes) c.number) c
  pub form : IsWellFormed (card_text bytes c)
