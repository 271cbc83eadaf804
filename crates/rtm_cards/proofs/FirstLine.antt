-- The first card of some bytes.
use Rattle.std.proofs.Common.{◌≡◌, ℕ, ◌<◌, Bool, true, false, eqb, List, [], ◌∷◌, length, drop, refl, arith}
use Rattle.rtm_cards.specs.Text.{line_feed, before, from_first}
use Rattle.rtm_cards.specs.Lines.{lines_of}

-- the line of one byte
one_byte : (b : ℕ) (t : Bool) → eqb b line_feed ≡ t → lines_of (b ∷ []) ≡ before line_feed (b ∷ []) ∷ lines_of (drop 1 (from_first line_feed (b ∷ [])))
unfolding lines_of
one_byte b true e = rw e refl
one_byte b false e = rw e refl

-- a byte more in front
more_bytes : (b : ℕ) (bs : List ℕ) (t : Bool) → eqb b line_feed ≡ t → lines_of bs ≡ before line_feed bs ∷ lines_of (drop 1 (from_first line_feed bs))
    → lines_of (b ∷ bs) ≡ before line_feed (b ∷ bs) ∷ lines_of (drop 1 (from_first line_feed (b ∷ bs)))
unfolding lines_of
more_bytes b bs true e ih = rw e refl
more_bytes b bs false e ih = rw (e, ih) refl

-- the first line, and those of what stands behind its line feed
pub lines_of_first : (text : List ℕ) → 0 < length text → lines_of text ≡ before line_feed text ∷ lines_of (drop 1 (from_first line_feed text))
lines_of_first [] h = absurd (omega arith)
lines_of_first (b ∷ []) h = one_byte b (eqb b line_feed) refl
lines_of_first (b ∷ c ∷ cs) h = more_bytes b (c ∷ cs) (eqb b line_feed) refl (lines_of_first (c ∷ cs) (omega arith))

-- the same, for what was cut off and what is left
pub first_of : (whole first behind : List ℕ) → 0 < length whole → first ≡ before line_feed whole → behind ≡ drop 1 (from_first line_feed whole) → lines_of whole ≡ first ∷ lines_of behind
first_of whole first behind h e f = rw (e, f) (lines_of_first whole h)
