-- Elements of lists from which some are taken away, or in which one is replaced.
use Rattle.std.proofs.Common.{◌≡◌, ℕ, ◌<◌, Bool, true, false, cond, List, [], ◌∷◌, ◌++◌, Some, refl, sym, ap, subst, arith, inl, inr, ◌⊎◌}
use Rattle.std.specs.List.{AllByRecursion}
use Rattle.std.specs.Prelude.{IsSome, filter, find, if◌then◌else◌}
use Rattle.rtm_model.specs.Chains.{with_in_place, without_first}
use Rattle.rtm_model.specs.Moments.{IsIn}

-- the births of a list fall, from below that number
abbrev pub Falls : {X : Type 0} → (X → ℕ) → ℕ → List X → Type 0
Falls born n [] = Unit {0}
Falls born n (x ∷ xs) = (born x < n) × Falls born (born x) xs

-- a filter keeps what passes its test, and nothing else
kept : {X : Type 0} (p : X → Bool) (y : X) (zs : List X) (x : X) (b : Bool) → p y ≡ b → IsIn x (cond b (y ∷ zs) zs) → ((x ≡ y) × (p x ≡ true)) ⊎ IsIn x zs
kept p y zs x true e (inl same) = inl (same, subst (λ z. p z ≡ true) (sym same) e)
kept p y zs x true e (inr h) = inr h
kept p y zs x false e h = inr h

pub in_filter : {X : Type 0} (p : X → Bool) (xs : List X) (x : X) → IsIn x (filter p xs) → IsIn x xs × (p x ≡ true)
in_filter p [] x h = absurd h
in_filter p (y ∷ ys) x h = elim (kept p y (filter p ys) x (p y) refl h) [
  | inl here ↦ (inl here.0, here.1)
  | inr more ↦ let rest = in_filter p ys x more in (inr rest.0, rest.1)
]

keep_here : {X : Type 0} (y : X) (zs : List X) (x : X) (b : Bool) → b ≡ true → x ≡ y → IsIn x (cond b (y ∷ zs) zs)
keep_here y zs x true e same = inl same
keep_here y zs x false e same = absurd cc

keep_more : {X : Type 0} (y : X) (zs : List X) (x : X) (b : Bool) → IsIn x zs → IsIn x (cond b (y ∷ zs) zs)
keep_more y zs x true h = inr h
keep_more y zs x false h = h

pub filter_in : {X : Type 0} (p : X → Bool) (xs : List X) (x : X) → IsIn x xs → p x ≡ true → IsIn x (filter p xs)
filter_in p [] x h e = absurd h
filter_in p (y ∷ ys) x (inl same) e = keep_here y (filter p ys) x (p y) (subst (λ z. p z ≡ true) same e) same
filter_in p (y ∷ ys) x (inr h) e = keep_more y (filter p ys) x (p y) (filter_in p ys x h e)

-- an element is born below the number
pub falls_in : {X : Type 0} (born : X → ℕ) (n : ℕ) (xs : List X) (x : X) → Falls born n xs → IsIn x xs → born x < n
falls_in born n [] x f h = absurd h
falls_in born n (y ∷ ys) x f (inl same) = subst (λ z. born z < n) (sym same) f.0
falls_in born n (y ∷ ys) x f (inr h) = omega (arith, f.0, falls_in born (born y) ys x f.1 h)

-- what is found is an element
found_if : {X : Type 0} (p : X → Bool) (y : X) (ys : List X) (x : X) (b : Bool) → cond b (Some y) (find p ys) ≡ Some x → (y ≡ x) ⊎ (find p ys ≡ Some x)
found_if p y ys x true e = let same : y ≡ x = cc in inl same
found_if p y ys x false e = inr e

pub found_in : {X : Type 0} (p : X → Bool) (xs : List X) (x : X) → find p xs ≡ Some x → IsIn x xs
found_in p [] x e = absurd cc
found_in p (y ∷ ys) x e = elim (found_if p y ys x (p y) e) [
  | inl same ↦ inl (sym same)
  | inr more ↦ inr (found_in p ys x more)
]

-- the list without the first that passes a test
module _ {X : Type 0} (born : X → ℕ) (p : X → Bool) (y : X) (ys : List X) (n : ℕ) (f : Falls born n (y ∷ ys)) (x : X) where
  -- the first isn't among the others
  pub apart : IsIn x ys → x ≡ y → ⊥
  apart h same = let less = falls_in born (born y) ys x f.1 h in omega (arith, less, ap born same)

  first_if : (b : Bool) → IsIn x (if b then ys else y ∷ without_first p ys)
      → (IsIn x (without_first p ys) → IsIn x ys × (find p ys ≡ Some x → ⊥))
      → IsIn x (y ∷ ys) × (cond b (Some y) (find p ys) ≡ Some x → ⊥)
  first_if true h rest = (inr h, λ e. let same : y ≡ x = cc in apart h (sym same))
  first_if false (inl same) rest = (inl same, λ e. apart (found_in p ys x e) same)
  first_if false (inr h) rest = let more = rest h in (inr more.0, more.1)

  place_if : (z : X) (b : Bool) → IsIn x (if b then z ∷ ys else y ∷ with_in_place p z ys)
      → (IsIn x (with_in_place p z ys) → ((x ≡ z) × IsSome (find p ys)) ⊎ (IsIn x ys × (find p ys ≡ Some x → ⊥)))
      → ((x ≡ z) × IsSome (cond b (Some y) (find p ys))) ⊎ (IsIn x (y ∷ ys) × (cond b (Some y) (find p ys) ≡ Some x → ⊥))
  place_if z true (inl same) rest = inl (same, refl)
  place_if z true (inr h) rest = inr (inr h, λ e. let same : y ≡ x = cc in apart h (sym same))
  place_if z false (inl same) rest = inr (inl same, λ e. apart (found_in p ys x e) same)
  place_if z false (inr h) rest = elim (rest h) [ inl here ↦ inl here | inr more ↦ inr (inr more.0, more.1) ]

pub in_without_first : {X : Type 0} (born : X → ℕ) (p : X → Bool) (xs : List X) (n : ℕ) → Falls born n xs → (x : X) → IsIn x (without_first p xs) → IsIn x xs × (find p xs ≡ Some x → ⊥)
in_without_first born p [] n f x h = absurd h
in_without_first born p (y ∷ ys) n f x h = first_if born p y ys n f x (p y) h (in_without_first born p ys (born y) f.1 x)

without_if : {X : Type 0} (p : X → Bool) (y : X) (ys : List X) (x : X) (b : Bool) → IsIn x (y ∷ ys) → (cond b (Some y) (find p ys) ≡ Some x → ⊥)
    → (IsIn x ys → (find p ys ≡ Some x → ⊥) → IsIn x (without_first p ys)) → IsIn x (if b then ys else y ∷ without_first p ys)
without_if p y ys x true (inl same) other rest = absurd (other (ap Some (sym same)))
without_if p y ys x true (inr h) other rest = h
without_if p y ys x false (inl same) other rest = inl same
without_if p y ys x false (inr h) other rest = inr (rest h other)

pub without_first_in : {X : Type 0} (p : X → Bool) (xs : List X) (x : X) → IsIn x xs → (find p xs ≡ Some x → ⊥) → IsIn x (without_first p xs)
without_first_in p [] x h other = absurd h
without_first_in p (y ∷ ys) x h other = without_if p y ys x (p y) h other (without_first_in p ys x)

-- the list with another in the place of the first that passes a test
pub in_with_in_place : {X : Type 0} (born : X → ℕ) (p : X → Bool) (z : X) (xs : List X) (n : ℕ) → Falls born n xs → (x : X) → IsIn x (with_in_place p z xs)
    → ((x ≡ z) × IsSome (find p xs)) ⊎ (IsIn x xs × (find p xs ≡ Some x → ⊥))
in_with_in_place born p z [] n f x h = absurd h
in_with_in_place born p z (y ∷ ys) n f x h = place_if born p y ys n f x z (p y) h (in_with_in_place born p z ys (born y) f.1 x)

within_if : {X : Type 0} (p : X → Bool) (z y : X) (ys : List X) (x : X) (b : Bool) → IsIn x (y ∷ ys) → (cond b (Some y) (find p ys) ≡ Some x → ⊥)
    → (IsIn x ys → (find p ys ≡ Some x → ⊥) → IsIn x (with_in_place p z ys)) → IsIn x (if b then z ∷ ys else y ∷ with_in_place p z ys)
within_if p z y ys x true (inl same) other rest = absurd (other (ap Some (sym same)))
within_if p z y ys x true (inr h) other rest = inr h
within_if p z y ys x false (inl same) other rest = inl same
within_if p z y ys x false (inr h) other rest = inr (rest h other)

pub with_in_place_in : {X : Type 0} (p : X → Bool) (z : X) (xs : List X) (x : X) → IsIn x xs → (find p xs ≡ Some x → ⊥) → IsIn x (with_in_place p z xs)
with_in_place_in p z [] x h other = absurd h
with_in_place_in p z (y ∷ ys) x h other = within_if p z y ys x (p y) h other (with_in_place_in p z ys x)

-- the new one is there, where there was one in whose place it comes
placed_if : {X : Type 0} (p : X → Bool) (z y : X) (ys : List X) (b : Bool) → IsSome (cond b (Some y) (find p ys)) → (IsSome (find p ys) → IsIn z (with_in_place p z ys))
    → IsIn z (if b then z ∷ ys else y ∷ with_in_place p z ys)
placed_if p z y ys true some rest = inl refl
placed_if p z y ys false some rest = inr (rest some)

pub placed_in : {X : Type 0} (p : X → Bool) (z : X) (xs : List X) → IsSome (find p xs) → IsIn z (with_in_place p z xs)
placed_in p z [] some = absurd cc
placed_in p z (y ∷ ys) some = placed_if p z y ys (p y) some (placed_in p z ys)

-- an element of two lists joined is one of either
pub in_append : {X : Type 0} (xs ys : List X) (x : X) → IsIn x (xs ++ ys) → IsIn x xs ⊎ IsIn x ys
in_append [] ys x h = inr h
in_append (y ∷ xs) ys x (inl same) = inl (inl same)
in_append (y ∷ xs) ys x (inr h) = elim (in_append xs ys x h) [ inl here ↦ inl (inr here) | inr there ↦ inr there ]

pub append_left : {X : Type 0} (xs ys : List X) (x : X) → IsIn x xs → IsIn x (xs ++ ys)
append_left [] ys x h = absurd h
append_left (y ∷ xs) ys x (inl same) = inl same
append_left (y ∷ xs) ys x (inr h) = inr (append_left xs ys x h)

pub append_right : {X : Type 0} (xs ys : List X) (x : X) → IsIn x ys → IsIn x (xs ++ ys)
append_right [] ys x h = h
append_right (y ∷ xs) ys x h = inr (append_right xs ys x h)

-- what holds of each element
pub all_in : {X : Type 0} (P : X → Type 0) (xs : List X) → AllByRecursion P xs → (x : X) → IsIn x xs → P x
all_in P [] h x there = absurd there
all_in P (y ∷ ys) h x (inl same) = subst P (sym same) h.0
all_in P (y ∷ ys) h x (inr there) = all_in P ys h.1 x there
