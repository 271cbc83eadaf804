-- How lines and cards are spelled, said apart from how they are cut (this profile).
use Rattle.std.specs.Prelude.{◌≡◌, ℕ, ◌<◌, ◌==◌, ◌⊎◌, not, IsTrue, List, [], ◌∷◌, ◌++◌, length, replicate}
use Rattle.std.specs.List.{list_all, join_with_byte, AllByRecursion}
use Rattle.rtm_cards.specs.Text.{blank, comma, line_feed}
use Rattle.rtm_cards.specs.Cards.{CardText}

-- No byte of the text is that one.
abbrev pub Lacks : ℕ → List ℕ → Type 0
Lacks byte text = IsTrue (list_all (λ b. not (b == byte)) text)

-- a line with the line feed that ends it
abbrev pub line_with_feed : List ℕ → List ℕ
line_with_feed line = line ++ line_feed ∷ []

-- The bytes are these lines. Each ends at its line feed; the last may have none, where it has bytes.
abbrev pub SpellLines : List ℕ → List (List ℕ) → Type 0
SpellLines bytes [] = bytes ≡ []
SpellLines bytes (line ∷ lines) = Lacks line_feed line
    × (((rest : List ℕ) × (bytes ≡ line ++ line_feed ∷ rest) × SpellLines rest lines)
    ⊎ ((bytes ≡ line) × (0 < length line) × (lines ≡ [])))

-- What follows has no bytes, or begins with that byte.
abbrev pub BeginsAt : ℕ → List ℕ → Type 0
BeginsAt byte [] = Unit {0}
BeginsAt byte (b ∷ _) = b ≡ byte

-- The text is blanks, an operand field of these parts with commas between them, and perhaps a remark behind a blank.
pub record SpellsField (text : List ℕ) (parts : List (List ℕ)) : Type 0 where
  pub blanks : ℕ
  pub remark : List ℕ
  pub whole : text ≡ blank ∷ replicate blanks blank ++ (join_with_byte comma parts ++ remark)
  pub behind : BeginsAt blank remark
  pub stands : 0 < length (join_with_byte comma parts)
  pub no_blanks : AllByRecursion (Lacks blank) parts
  pub no_commas : AllByRecursion (Lacks comma) parts

-- what follows an operation: blanks alone where there are no operands
abbrev pub SpellsOperands : List ℕ → List (List ℕ) → Type 0
SpellsOperands text [] = (blanks : ℕ) × (text ≡ replicate blanks blank)
SpellsOperands text (part ∷ parts) = SpellsField text (part ∷ parts)

-- The line spells the card: its name or nothing, blanks, its operation, and the rest.
pub record SpellsCard (line : List ℕ) (c : CardText) : Type 0 where
  pub blanks : ℕ
  pub rest : List ℕ
  pub whole : line ≡ c.name ++ (blank ∷ replicate blanks blank ++ (c.op ++ rest))
  pub name : Lacks blank c.name
  pub op : Lacks blank c.op
  pub op_stands : 0 < length c.op
  pub operands : SpellsOperands rest c.operands
