-- What reads take off a source and what writes add to a sink (this profile). A source may tell the bytes that are
-- left in it, and a sink those that were written to it; `None` stands for one that tells nothing.
use Rattle.std.specs.Prelude.{◌≡◌, ℕ, ◌<◌, ◌≤◌, List, [], ◌++◌, length, take, drop, Option, IfSome}
use Rattle.std.specs.Option.{option_map}

-- the source gave these bytes: what was left is these bytes, and then what is left now
abbrev pub Gives : Option (List ℕ) → Option (List ℕ) → List ℕ → Type 0
Gives old new bytes = old ≡ option_map (λ rest. bytes ++ rest) new

-- so many bytes, or all where there were fewer, were taken off the front of what was left
abbrev pub Takes : ℕ → Option (List ℕ) → Option (List ℕ) → Type 0
Takes count old new = new ≡ option_map (λ bytes. drop count bytes) old

-- at most so many bytes were taken off the front of what was left
abbrev pub TakesAtMost : ℕ → Option (List ℕ) → Option (List ℕ) → Type 0
TakesAtMost most old new = (count : ℕ) × (count ≤ most) × Takes count old new

-- no byte is left in the source, as far as it tells
abbrev pub IsAtEnd : Option (List ℕ) → Type 0
IsAtEnd left = IfSome left (λ bytes. bytes ≡ [])

-- the sink took these bytes: what is written is what was, and then these bytes
abbrev pub Appends : Option (List ℕ) → Option (List ℕ) → List ℕ → Type 0
Appends old new bytes = new ≡ option_map (λ written. written ++ bytes) old

-- the sink took a prefix of these bytes, short of the whole
abbrev pub AppendsPrefix : Option (List ℕ) → Option (List ℕ) → List ℕ → Type 0
AppendsPrefix old new bytes = (count : ℕ) × (count < length bytes) × Appends old new (take count bytes)
