-- The first line feed of a text ends its first line.
use Rattle.std.proofs.Common.{◌≡◌, ℕ, zero, suc, ◌+◌, ◌<◌, ◌≤◌, Bool, true, false, eqb, List, [], ◌∷◌, length, take, drop, Option, Some, None, refl, ap, subst, arith}
use Rattle.std.proofs.lemmas.Bool.{eqb-true}
use Rattle.memchr.specs.Find.{IsFirstByte, NoneBefore, Nowhere, Passes, is_byte}
use Rattle.rtm_trace.specs.inner.Words.{first_of, after_of}

-- so many bytes are the first line
pub record IsFirstLine (text : List ℕ) (n : ℕ) : Type 0 where
  pub within : n ≤ length text
  pub some : 0 < length text → 0 < n
  pub first : take n text ≡ first_of text
  pub after : drop n text ≡ after_of text

unlike : (t : Bool) → (t ≡ true → ⊥) → t ≡ false
unlike true h = absurd (h refl)
unlike false h = refl

-- a byte more in front that ends no line
longer : (b : ℕ) (bs : List ℕ) (n : ℕ) → eqb b 10 ≡ false → IsFirstLine bs n → IsFirstLine (b ∷ bs) (suc n)
longer b bs n e line =
    let within = line.within in record {
      within = omega (arith, within);
      some = λ h. omega arith;
      first = rw e (ap (λ (l : List ℕ). b ∷ l) line.first);
      after = rw e line.after;
    }

-- a byte that ends one
shortest : (b : ℕ) (bs : List ℕ) → eqb b 10 ≡ true → IsFirstLine (b ∷ bs) 1
shortest b bs e = record {
  within = omega arith;
  some = λ h. omega arith;
  first = rw e (ap (λ (x : ℕ). x ∷ []) (eqb-true b 10 e));
  after = rw e refl;
}

no_feed : (text : List ℕ) → Nowhere (Passes (is_byte 10) text) 0 (length text) → IsFirstLine text (length text)
no_feed [] none = record { within = omega arith; some = λ h. h; first = refl; after = refl }
no_feed (b ∷ bs) none =
    longer b bs (length bs) (unlike (eqb b 10) (none zero (omega arith) (omega arith)))
    (no_feed bs (λ k low high passes. none (suc k) (omega arith) (omega (arith, high)) passes))

feed_at : (text : List ℕ) (k : ℕ) → NoneBefore (Passes (is_byte 10) text) 0 (length text) k → Passes (is_byte 10) text k → IsFirstLine text (k + 1)
feed_at [] k none is = let high = none.high in absurd (omega (arith, high))
feed_at (b ∷ bs) zero none is = shortest b bs is
feed_at (b ∷ bs) (suc k) none is =
    let high = none.high in
    let before : NoneBefore (Passes (is_byte 10) bs) 0 (length bs) k = record {
      low = omega arith;
      high = omega (arith, high);
      before = λ j low less passes. none.before (suc j) (omega arith) (omega (arith, less)) passes;
    } in
    let step : suc (k + 1) ≡ suc k + 1 = omega arith in
    subst (λ (n : ℕ). IsFirstLine (b ∷ bs) n) step
    (longer b bs (k + 1) (unlike (eqb b 10) (none.before zero (omega arith) (omega arith))) (feed_at bs k before is))

pub of_none : (text : List ℕ) (r : Option ℕ) → IsFirstByte (is_byte 10) text r → r ≡ None → IsFirstLine text (length text)
of_none text None is e = no_feed text is
of_none text (Some k) is e = absurd cc

pub of_some : (text : List ℕ) (r : Option ℕ) (k : ℕ) → IsFirstByte (is_byte 10) text r → r ≡ Some k → IsFirstLine text (k + 1)
of_some text None k is e = absurd cc
of_some text (Some j) k is e = let same : j ≡ k = cc in subst (λ (n : ℕ). IsFirstLine text (n + 1)) same (feed_at text j is.0 is.1)
