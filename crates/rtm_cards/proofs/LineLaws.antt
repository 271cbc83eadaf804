-- The lines of some bytes are those that spell them.
use Rattle.std.proofs.Common.{◌≡◌, ℕ, ◌+◌, ◌<◌, Bool, true, false, cond, eqb, List, [], ◌∷◌, ◌++◌, length, take, get_or, refl, sym, ap, ◌∙◌, inl, inr, append_assoc, arith}
use Rattle.std.specs.Prelude.{◌⊎◌, count_by, if◌then◌else◌}
use Rattle.std.specs.List.{onto_first, flat_map, AllByRecursion}
use Rattle.std.proofs.lemmas.Bool.{and_parts, not-true, eqb-true}
use Rattle.std.proofs.lemmas.List.{take_more}
use Rattle.std.proofs.lemmas.List.Sums.{sum_by-cons}
use Rattle.rtm_cards.specs.Text.{line_feed}
use Rattle.rtm_cards.specs.Lines.{lines_of, number_at}
use Rattle.rtm_cards.specs.Spelling.{Lacks, line_with_feed, SpellLines}

-- a byte more in front of the first line
spelled_more : (b : ℕ) (bs : List ℕ) (lines : List (List ℕ)) → eqb b line_feed ≡ false → SpellLines bs lines → SpellLines (b ∷ bs) (onto_first b lines)
spelled_more b bs [] e h = (rw e refl, inr (ap (λ (t : List ℕ). b ∷ t) h, omega arith, refl))
spelled_more b bs (line ∷ lines) e h = (rw e h.0, more h.1)
  where
    more : ((rest : List ℕ) × (bs ≡ line ++ line_feed ∷ rest) × SpellLines rest lines) ⊎ ((bs ≡ line) × (0 < length line) × (lines ≡ []))
        → ((rest : List ℕ) × (b ∷ bs ≡ b ∷ line ++ line_feed ∷ rest) × SpellLines rest lines) ⊎ ((b ∷ bs ≡ b ∷ line) × (0 < length (b ∷ line)) × (lines ≡ []))
    more (inl p) = inl (p.0, ap (λ (t : List ℕ). b ∷ t) p.1, p.2)
    more (inr p) = inr (ap (λ (t : List ℕ). b ∷ t) p.0, omega arith, p.2)

-- the lines of some bytes spell them
pub lines_spelled : (bytes : List ℕ) → SpellLines bytes (lines_of bytes)
unfolding lines_of
lines_spelled [] = refl
lines_spelled (b ∷ bs) = go (eqb b line_feed) refl (lines_spelled bs)
  where
    go : (t : Bool) → eqb b line_feed ≡ t → SpellLines bs (lines_of bs) → SpellLines (b ∷ bs) (lines_of (b ∷ bs))
    go true e h = rw e (refl, inl (bs, ap (λ (x : ℕ). x ∷ bs) (eqb-true b line_feed e), h))
    go false e h = rw e (spelled_more b bs (lines_of bs) e h)

-- a first line with its line feed, and a last one without
pub line_ended : (line rest : List ℕ) → Lacks line_feed line → lines_of (line ++ line_feed ∷ rest) ≡ line ∷ lines_of rest
unfolding lines_of
line_ended [] rest h = refl
line_ended (b ∷ line) rest h =
    let p = and_parts _ _ h in
    rw (not-true (eqb b line_feed) p.0, line_ended line rest p.1) refl

pub line_open : (line : List ℕ) → Lacks line_feed line → 0 < length line → lines_of line ≡ line ∷ []
unfolding lines_of
line_open [] h some = absurd (omega arith)
line_open (b ∷ []) h some = rw (not-true (eqb b line_feed) (and_parts _ _ h).0) refl
line_open (b ∷ c ∷ line) h some =
    let p = and_parts _ _ h in
    rw (not-true (eqb b line_feed) p.0, line_open (c ∷ line) p.1 (omega arith)) refl

-- what spells some bytes are their lines
pub spelled_lines : (bytes : List ℕ) (lines : List (List ℕ)) → SpellLines bytes lines → lines_of bytes ≡ lines
unfolding lines_of
spelled_lines bytes [] h = ap lines_of h
spelled_lines bytes (line ∷ lines) h = elim h.1 [
  | inl p ↦ ap lines_of p.1 ∙ line_ended line p.0 h.0 ∙ ap (λ (ls : List (List ℕ)). line ∷ ls) (spelled_lines p.0 lines p.2)
  | inr p ↦ ap lines_of p.0 ∙ line_open line h.0 p.1 ∙ ap (λ (ls : List (List ℕ)). line ∷ ls) (sym p.2)
]

-- lines that are written with a line feed each are read again
pub ended_lines : (lines : List (List ℕ)) → AllByRecursion (Lacks line_feed) lines → lines_of (flat_map line_with_feed lines) ≡ lines
unfolding lines_of
ended_lines [] h = refl
ended_lines (line ∷ lines) h =
    ap lines_of (append_assoc line (line_feed ∷ []) (flat_map line_with_feed lines)) ∙ line_ended line (flat_map line_with_feed lines) h.0
    ∙ ap (λ (ls : List (List ℕ)). line ∷ ls) (ended_lines lines h.1)

-- a byte more in front is a line more where it is a line feed
length-more : (t : Bool) (x : ℕ) (lines : List (List ℕ)) → 0 < length lines → length (if t then [] ∷ lines else onto_first x lines) ≡ cond t 1 0 + length lines
length-more t x [] h = absurd (omega arith)
length-more true x (line ∷ lines) h = omega arith
length-more false x (line ∷ lines) h = omega arith

-- how many lines there are up to a byte
count_lines : (front : List ℕ) (y : ℕ) → length (lines_of (front ++ y ∷ [])) ≡ count_by (λ b. eqb b line_feed) front + 1
unfolding lines_of
count_lines [] y = one (eqb y line_feed) refl
  where
    one : (t : Bool) → eqb y line_feed ≡ t → length (lines_of (y ∷ [])) ≡ 1
    one true e = rw e refl
    one false e = rw e refl
count_lines (x ∷ front) y =
    let lines = lines_of (front ++ y ∷ []) in
    let before : length lines ≡ count_by (λ b. eqb b line_feed) front + 1 = count_lines front y in
    let all = sum_by-cons (λ (b : ℕ). cond (eqb b line_feed) 1 0) x front in
    length-more (eqb x line_feed) x lines (omega (arith, before)) ∙ omega (arith, before, all)

-- the card that holds a byte is the last up to that byte
pub number_of_line : (bytes : List ℕ) (i : ℕ) → i < length bytes → number_at bytes i ≡ length (lines_of (take (i + 1) bytes))
unfolding lines_of number_at
number_of_line bytes i h =
    sym (ap (λ (t : List ℕ). length (lines_of t)) (take_more bytes i 0 h) ∙ count_lines (take i bytes) (get_or bytes i 0))
