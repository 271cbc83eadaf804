-- What a test computes for each number of a range, and for two texts.
use Rattle.std.proofs.Common.{◌≡◌, ℕ, zero, suc, ◌+◌, ◌<◌, ◌≤◌, Bool, List, subst, arith, inl, inr}
use Rattle.std.specs.Prelude.{IsTrue, bytes_eq}
use Rattle.std.specs.List.{list_all, range_with_len}
use Rattle.std.proofs.lemmas.Bool.{and_parts, cases_lt}
use Rattle.std.proofs.lemmas.Slice.Eq.{bytes_eq-Decides}

-- the number is in the range, so it passes the test
pub each_number : (p : ℕ → Bool) (least count n : ℕ) → least ≤ n → n < least + count → IsTrue (list_all p (range_with_len least count)) → IsTrue (p n)
each_number p least zero n from below all = absurd (omega arith)
each_number p least (suc count) n from below all =
    let parts = and_parts (p least) (list_all p (range_with_len (least + 1) count)) all in
    elim (cases_lt least n) [
      | inl above ↦ each_number p (least + 1) count n (omega arith) (omega arith) parts.1
      | inr first ↦ let same : least ≡ n = omega arith in subst (λ (k : ℕ). IsTrue (p k)) same parts.0
    ]

-- texts that pass the test are the same
pub equal : (xs ys : List ℕ) → IsTrue (bytes_eq xs ys) → xs ≡ ys
equal xs ys h = (bytes_eq-Decides xs ys).0 h
