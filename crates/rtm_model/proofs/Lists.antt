-- What holds of each element of a list, also after some are taken away, or one is written.
pub use Rattle.rtm_deck_items.proofs.Lists.{at_from_list_all, both_true}
pub use Rattle.std.proofs.lemmas.Option.{slice_get_within as below_length}
use Rattle.std.proofs.Common.{◌≡◌, ℕ, zero, suc, ◌≤◌, Bool, true, false, cond, List, [], ◌∷◌, length, get_or, set, refl, sym, ap, subst, arith}
use Rattle.std.specs.Prelude.{filter}
use Rattle.std.specs.List.{AllByRecursion}
use Rattle.rtm_model.specs.Chains.{without_first}

-- what follows of each element
pub all_by : {X : Type 0} (P Q : X → Type 0) → ((x : X) → P x → Q x) → (xs : List X) → AllByRecursion P xs → AllByRecursion Q xs
all_by P Q f [] all = tt
all_by P Q f (x ∷ xs) all = (f x all.0, all_by P Q f xs all.1)

-- what passes a test, of elements that all have P
kept_if : {X : Type 0} (P : X → Type 0) (b : Bool) (x : X) (xs : List X) → P x → AllByRecursion P xs → AllByRecursion P (cond b (x ∷ xs) xs)
kept_if P true x xs here more = (here, more)
kept_if P false x xs here more = more

pub AllByRecursion-filter : {X : Type 0} (P : X → Type 0) (p : X → Bool) (xs : List X) → AllByRecursion P xs → AllByRecursion P (filter p xs)
AllByRecursion-filter P p [] all = tt
AllByRecursion-filter P p (x ∷ xs) all = kept_if P (p x) x (filter p xs) all.0 (AllByRecursion-filter P p xs all.1)

length_if : {X : Type 0} (b : Bool) (x : X) (ys : List X) (n : ℕ) → length ys ≤ n → length (cond b (x ∷ ys) ys) ≤ suc n
length_if true x ys n h = omega arith
length_if false x ys n h = omega arith

pub length-filter-le : {X : Type 0} (p : X → Bool) (xs : List X) → length (filter p xs) ≤ length xs
length-filter-le p [] = omega arith
length-filter-le p (x ∷ xs) = length_if (p x) x (filter p xs) (length xs) (length-filter-le p xs)

-- without the first that passes a test, each of the others still has what all had
first_if : {X : Type 0} (P : X → Type 0) (b : Bool) (x : X) (xs ys : List X) → P x → AllByRecursion P xs → AllByRecursion P ys → AllByRecursion P (cond b xs (x ∷ ys))
first_if P true x xs ys here all rest = all
first_if P false x xs ys here all rest = (here, rest)

pub all_without_first : {X : Type 0} (P : X → Type 0) (p : X → Bool) (xs : List X) → AllByRecursion P xs → AllByRecursion P (without_first p xs)
all_without_first P p [] all = tt
all_without_first P p (x ∷ xs) all = first_if P (p x) x xs (without_first p xs) all.0 all.1 (all_without_first P p xs all.1)

-- and there are no more of them
fewer_if : {X : Type 0} (b : Bool) (x : X) (xs ys : List X) → length ys ≤ length xs → length (cond b xs (x ∷ ys)) ≤ suc (length xs)
fewer_if true x xs ys h = omega arith
fewer_if false x xs ys h = omega arith

pub length-without_first-le : {X : Type 0} (p : X → Bool) (xs : List X) → length (without_first p xs) ≤ length xs
length-without_first-le p [] = omega arith
length-without_first-le p (x ∷ xs) = fewer_if (p x) x xs (without_first p xs) (length-without_first-le p xs)

-- what holds of the element that is read, and of what is written where that is the one, holds after the writing
pub set_kept : {X : Type 0} (P : X → Type 0) (d : X) (xs : List X) (u v : ℕ) (y : X) → P (get_or xs v d) → (v ≡ u → P y) → P (get_or (set xs u y) v d)
set_kept P d [] u v y h here = h
set_kept P d (x ∷ xs) zero zero y h here = here refl
set_kept P d (x ∷ xs) zero (suc v) y h here = h
set_kept P d (x ∷ xs) (suc u) zero y h here = h
set_kept P d (x ∷ xs) (suc u) (suc v) y h here = set_kept P d xs u v y h (λ e. here (ap suc e))

-- what holds at each number, and of what is written at its own, holds at each number after the writing
pub each_set : {X : Type 0} (P : ℕ → X → Type 0) (d : X) (xs : List X) (u : ℕ) (y : X) → ((v : ℕ) → P v (get_or xs v d)) → P u y → (v : ℕ) → P v (get_or (set xs u y) v d)
each_set {X} P d xs u y all here v = set_kept (P v) d xs u v y (all v) (λ e. subst (λ (k : ℕ). P k y) (sym e) here)
