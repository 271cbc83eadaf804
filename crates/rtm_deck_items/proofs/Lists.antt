-- Tests, and what passes one in a list.
use Rattle.std.proofs.Common.{◌≡◌, ℕ, zero, suc, ◌<◌, Bool, true, false, ◌&&◌, cond, List, [], ◌∷◌, length, Some, None, refl, subst}
use Rattle.std.specs.Prelude.{slice_get, IsTrue, IfSome, nat_lt, position}
use Rattle.std.specs.List.{list_all, position_or_len}
use Rattle.std.proofs.lemmas.Bool.{ltb-true}

-- both of two tests
pub both_true : (a b : Bool) → IsTrue (a && b) → IsTrue a × IsTrue b
both_true true true h = (refl, refl)
both_true true false h = absurd cc
both_true false b h = absurd cc

-- a test passes each element, so one that is there
pub at_from_list_all : {X : Type 0} (p : X → Bool) (xs : List X) (i : ℕ) (x : X) → IsTrue (list_all p xs) → slice_get xs i ≡ Some x → IsTrue (p x)
at_from_list_all p [] i x h e = absurd cc
at_from_list_all {X} p (y ∷ ys) zero x h e = let same : y ≡ x = cc in subst (λ (z : X). IsTrue (p z)) same (both_true (p y) (list_all p ys) h).0
at_from_list_all p (y ∷ ys) (suc i) x h e = at_from_list_all p ys i x (both_true (p y) (list_all p ys) h).1 e

-- the first index at which a test passes is one of the list
pub position_below : {X : Type 0} (p : X → Bool) (xs : List X) → IfSome (position p xs) (λ i. i < length xs)
position_below p xs = go (nat_lt (position_or_len p xs) (length xs)) refl
  where
    go : (b : Bool) → nat_lt (position_or_len p xs) (length xs) ≡ b → IfSome (cond b (Some (position_or_len p xs)) None) (λ i. i < length xs)
    go true e = ltb-true (position_or_len p xs) (length xs) e
    go false e = tt
