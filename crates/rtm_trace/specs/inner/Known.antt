-- What lines said that were read lately. This keeps the reader from reading anew what it knows: nobody has to believe
-- it.
use Rattle.std.specs.Prelude.{◌≡◌, ◌≤◌, ℕ, List, ◌++◌, Option, IfSome, codes, decimal, length}
use Rattle.std.specs.List.{AllByRecursion}
use Rattle.rtm_deck_items.specs.View.{DeckView}
use Rattle.rtm_model.specs.declared.entry.What.{What}
use Rattle.rtm_model.specs.Fits.{WhatFits}
use Rattle.rtm_trace.specs.declared.known.Known.{Known}
use Rattle.rtm_trace.specs.Text.{unit_text, what_text}

-- the parts of a line: its index and a blank, its unit and a blank, and what the entry says
abbrev pub index_part : ℕ → List ℕ
index_part n = decimal n ++ codes " "

abbrev pub unit_part : DeckView → ℕ → List ℕ
unit_part d u = unit_text d u ++ codes " "

abbrev pub what_part : DeckView → What → List ℕ
what_part d what = what_text d what ++ codes "\n"

-- what stands behind the unit of that number, which is one of the deck's or the master
abbrev pub IsBehindUnit : DeckView → List ℕ → ℕ → List ℕ → Type 0
IsBehindUnit d line u rest = (u ≤ length d.units) × (line ≡ unit_part d u ++ rest)

-- These bytes say that, which fits the deck.
pub record IsSaid (d : DeckView) (bytes : List ℕ) (what : What) : Type 0 where
  pub fit : WhatFits d what
  pub text : bytes ≡ what_part d what

-- what is remembered was read
abbrev pub IsKnown : DeckView → Option Known → Type 0
IsKnown d place = IfSome place (λ known. IsSaid d known.bytes.now known.what)

abbrev pub AreKnown : DeckView → List (Option Known) → Type 0
AreKnown d places = AllByRecursion (IsKnown d) places
