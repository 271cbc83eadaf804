-- Elements of two lists that are read by number, after one of each was written.
use Rattle.std.proofs.Common.{◌≡◌, ℕ, zero, suc, ◌<◌, List, [], ◌∷◌, length, get_or, set, refl, sym, ap, subst, arith}

-- what holds of the two elements that are read, and of what is written where those are the ones, holds after the
-- writing at a number that both have
pub both_set : {X Y : Type 0} (P : X → Y → Type 0) (d : X) (e : Y) (xs : List X) (ys : List Y) (u v : ℕ) (x : X) (y : Y) → u < length xs → u < length ys → P (get_or xs v d) (get_or ys v e) → (v ≡ u → P x y) → P (get_or (set xs u x) v d) (get_or (set ys u y) v e)
both_set P d e [] ys u v x y lt le h here = absurd (omega arith)
both_set P d e (a ∷ xs) [] u v x y lt le h here = absurd (omega arith)
both_set P d e (a ∷ xs) (b ∷ ys) zero zero x y lt le h here = here refl
both_set P d e (a ∷ xs) (b ∷ ys) zero (suc v) x y lt le h here = h
both_set P d e (a ∷ xs) (b ∷ ys) (suc u) zero x y lt le h here = h
both_set P d e (a ∷ xs) (b ∷ ys) (suc u) (suc v) x y lt le h here = both_set P d e xs ys u v x y (omega arith) (omega arith) h (λ q. here (ap suc q))

pub both_each_set : {X Y : Type 0} (P : ℕ → X → Y → Type 0) (d : X) (e : Y) (xs : List X) (ys : List Y) (u : ℕ) (x : X) (y : Y) → u < length xs → u < length ys → ((v : ℕ) → P v (get_or xs v d) (get_or ys v e)) → P u x y → (v : ℕ) → P v (get_or (set xs u x) v d) (get_or (set ys u y) v e)
both_each_set {X} {Y} P d e xs ys u x y lt le all here v = both_set (P v) d e xs ys u v x y lt le (all v) (λ q. subst (λ (k : ℕ). P k x y) (sym q) here)
