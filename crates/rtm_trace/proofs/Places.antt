-- Places in a list of lines.
use Rattle.std.proofs.Common.{◌≡◌, ℕ, zero, suc, ◌-◌, ◌<◌, ◌≤◌, List, [], ◌∷◌, length, drop, Some, None, ap, sym, subst, ◌∙◌, inl, inr, arith}
use Rattle.std.specs.Prelude.{slice_get, ◌⊎◌}
use Rattle.std.proofs.lemmas.Bool.{cases_lt}
use Rattle.std.proofs.lemmas.Option.{slice_get_within, same_Some}
use Rattle.rtm_deck_items.specs.View.{DeckView}
use Rattle.rtm_trace.specs.Text.{end_line}
use Rattle.rtm_trace.specs.Lines.{IsEndLine, MayStand, HasEnd, IsBadLine, IsFirstBadLine}

-- the line where those that are left begin
pub line_at : {X : Type 0} (all : List X) (m : ℕ) (x : X) (xs : List X) → drop m all ≡ x ∷ xs → slice_get all m ≡ Some x
line_at [] zero x xs e = absurd cc
line_at [] (suc m) x xs e = absurd cc
line_at {X} (y ∷ ys) zero x xs e = let same : y ≡ x = cc in ap Some same
line_at (y ∷ ys) (suc m) x xs e = line_at ys m x xs e

pub left_behind : {X : Type 0} (all : List X) (m : ℕ) (x : X) (xs : List X) → drop m all ≡ x ∷ xs → drop (suc m) all ≡ xs
left_behind [] zero x xs e = absurd cc
left_behind [] (suc m) x xs e = absurd cc
left_behind (y ∷ ys) zero x xs e = let same : ys ≡ xs = cc in same
left_behind (y ∷ ys) (suc m) x xs e = left_behind ys m x xs e

pub none_left : {X : Type 0} (all : List X) (m : ℕ) → drop m all ≡ [] → length all ≤ m
none_left [] m e = omega arith
none_left (y ∷ ys) zero e = absurd cc
none_left (y ∷ ys) (suc m) e = let ih = none_left ys m e in omega (arith, ih)

-- a line that is there is bad where it may not stand there, or an end stands before
pub bad_there : (d : DeckView) (lines : List (List ℕ)) (k : ℕ) (line : List ℕ) → slice_get lines k ≡ Some line → IsBadLine d lines k → (MayStand d k line → ⊥) ⊎ HasEnd lines k
bad_there d lines k line e h = rw e at h

pub there_bad : (d : DeckView) (lines : List (List ℕ)) (k : ℕ) (line : List ℕ) → slice_get lines k ≡ Some line → (MayStand d k line → ⊥) ⊎ HasEnd lines k → IsBadLine d lines k
there_bad d lines k line e h = rw e h

pub bad_behind : (d : DeckView) (lines : List (List ℕ)) (k : ℕ) → slice_get lines k ≡ None → IsBadLine d lines k → (k ≡ length lines) × (HasEnd lines k → ⊥)
bad_behind d lines k e h = rw e at h

pub behind_bad : (d : DeckView) (lines : List (List ℕ)) (k : ℕ) → slice_get lines k ≡ None → (k ≡ length lines) × (HasEnd lines k → ⊥) → IsBadLine d lines k
behind_bad d lines k e h = rw e h

-- what is known where the lines before a place were read: none of them is bad, and there is no end among them
pub record Reached (d : DeckView) (all : List (List ℕ)) (m : ℕ) (lines : List (List ℕ)) : Type 0 where
  pub left : drop m all ≡ lines
  pub within : m ≤ length all
  pub good : (k : ℕ) → k < m → IsBadLine d all k → ⊥
  pub unended : HasEnd all m → ⊥

-- a line that may stand where no end stands before isn't bad
pub fine_there : (d : DeckView) (all : List (List ℕ)) (m : ℕ) (line : List ℕ) → slice_get all m ≡ Some line → MayStand d m line → (HasEnd all m → ⊥) → IsBadLine d all m → ⊥
fine_there d all m line e may none bad = elim (bad_there d all m line e bad) [ inl never ↦ never may | inr end ↦ none end ]

pub lines_within : (d : DeckView) (all : List (List ℕ)) (m : ℕ) (line : List ℕ) (lines : List (List ℕ)) → Reached d all m (line ∷ lines) → suc m ≤ length all
lines_within d all m line lines r = let within = slice_get_within all m line (line_at all m line lines r.left) in omega (arith, within)

-- one line more that may stand there and is no end
pub reached_more : (d : DeckView) (all : List (List ℕ)) (m : ℕ) (line : List ℕ) (lines : List (List ℕ)) → Reached d all m (line ∷ lines) → MayStand d m line → (IsEndLine line → ⊥) → Reached d all (suc m) lines
reached_more d all m line lines r may other = record {
  left = left_behind all m line lines r.left;
  within = lines_within d all m line lines r;
  good = good;
  unended = unended;
}
  where
    good : (k : ℕ) → k < suc m → IsBadLine d all k → ⊥
    good k less bad = elim (cases_lt k m) [
      | inl before ↦ r.good k before bad
      | inr behind ↦
          let same : k ≡ m = omega (arith, less) in
          fine_there d all m line (line_at all m line lines r.left) may r.unended (subst (λ (i : ℕ). IsBadLine d all i) same bad)
    ]

    unended : HasEnd all (suc m) → ⊥
    unended h = elim (cases_lt h.0 m) [
      | inl before ↦ r.unended (h.0, h.1, before, h.3)
      | inr behind ↦
          let less = h.2 in
          let same : h.0 ≡ m = omega (arith, less) in
          let end : slice_get all m ≡ Some (end_line h.1) = subst (λ (i : ℕ). slice_get all i ≡ Some (end_line h.1)) same h.3 in
          other (h.1, same_Some line (end_line h.1) (sym (line_at all m line lines r.left) ∙ end))
    ]

-- two first bad lines are one
pub one_first : (d : DeckView) (bytes : List ℕ) (a b : ℕ) → IsFirstBadLine d bytes a → IsFirstBadLine d bytes b → a ≡ b
one_first d bytes a b x y = elim (cases_lt a b) [
  | inl less ↦ let some = x.counted in absurd (y.least (a - 1) (omega (arith, some)) x.bad)
  | inr more ↦ elim (cases_lt b a) [
    | inl less ↦ let some = y.counted in absurd (x.least (b - 1) (omega (arith, some)) y.bad)
    | inr other ↦ let same : a ≡ b = omega arith in same
  ]
]
