-- The first line of a text.
use Rattle.std.proofs.Common.{◌≡◌, ℕ, ◌+◌, ◌<◌, Bool, true, false, eqb, List, [], ◌∷◌, length, refl, Err, arith}
use Rattle.rtm_model.specs.declared.entry.Entry.{Entry}
use Rattle.rtm_model.specs.declared.entry.End.{End}
use Rattle.rtm_trace.specs.Lines.{text_lines}
use Rattle.rtm_trace.specs.inner.Reading.{trace_at_end}
use Rattle.rtm_trace.specs.inner.Words.{first_of, after_of}

-- the lines where the first byte ends one or not
one_byte : (b : ℕ) (t : Bool) → eqb b 10 ≡ t → text_lines (b ∷ []) ≡ first_of (b ∷ []) ∷ text_lines (after_of (b ∷ []))
one_byte b true e = rw e refl
one_byte b false e = rw e refl

more_bytes : (b : ℕ) (bs : List ℕ) (t : Bool) → eqb b 10 ≡ t → text_lines bs ≡ first_of bs ∷ text_lines (after_of bs)
    → text_lines (b ∷ bs) ≡ first_of (b ∷ bs) ∷ text_lines (after_of (b ∷ bs))
more_bytes b bs true e ih = rw e refl
more_bytes b bs false e ih = rw (e, ih) refl

pub lines_first : (text : List ℕ) → 0 < length text → text_lines text ≡ first_of text ∷ text_lines (after_of text)
lines_first [] h = absurd (omega arith)
lines_first (b ∷ []) h = one_byte b (eqb b 10) refl
lines_first (b ∷ c ∷ cs) h = more_bytes b (c ∷ cs) (eqb b 10) refl (lines_first (c ∷ cs) (omega arith))

-- the same, cut off
pub lines_cut : (text line rest : List ℕ) → 0 < length text → line ≡ first_of text → rest ≡ after_of text → text_lines text ≡ line ∷ text_lines rest
lines_cut text line rest h e f = rw (e, f) (lines_first text h)

-- a line behind the end
pub ended_more : (entries : List Entry) (end : End) (text : List ℕ) → 0 < length text → trace_at_end entries end (text_lines text) ≡ Err (length entries + 3)
ended_more entries end text h = rw (lines_first text h) refl
