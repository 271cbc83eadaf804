-- Cutting a text at a byte (this profile).
use Rattle.std.specs.Prelude.{ℕ, ◌==◌, List, [], ◌∷◌, if◌then◌else◌}

abbrev pub blank : ℕ
blank = 32

-- the bytes before the first that is `stop`, or all of them
abbrev pub before : ℕ → List ℕ → List ℕ
before stop [] = []
before stop (b ∷ bs) = if b == stop then [] else b ∷ before stop bs

-- what is left from the first byte on that is `stop`, or nothing
abbrev pub from_first : ℕ → List ℕ → List ℕ
from_first stop [] = []
from_first stop (b ∷ bs) = if b == stop then b ∷ bs else from_first stop bs

-- the text without the blanks at its front
abbrev pub skip_blanks : List ℕ → List ℕ
skip_blanks [] = []
skip_blanks (b ∷ bs) = if b == blank then skip_blanks bs else b ∷ bs
