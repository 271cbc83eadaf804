-- Parts of the input, by where they begin and end.
use Rattle.std.specs.Prelude.{◌≡◌, ℕ, ◌+◌, ◌≤◌, List, [], ◌∷◌, length, slice_range}
use Rattle.rtm_cards.specs.declared.span.Span.{Span}

-- a span of these bytes
pub record IsWithin (bytes : List ℕ) (s : Span) : Type 0 where
  pub ordered : s.from ≤ s.to
  pub within : s.to ≤ length bytes

-- the bytes of a span
abbrev pub text_of : List ℕ → Span → List ℕ
text_of bytes s = slice_range bytes s.from s.to

-- The first span begins at that byte, and each other one byte behind the end of the one before it.
abbrev pub StandInRow : ℕ → List Span → Type 0
StandInRow at [] = Unit {0}
StandInRow at (s ∷ ss) = (s.from ≡ at) × StandInRow (s.to + 1) ss
