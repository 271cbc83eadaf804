-- Lists from which the first that passes a test is taken away.
use Rattle.std.proofs.Common.{◌≡◌, ℕ, suc, zero, ◌<◌, ◌≤◌, ◌+◌, Bool, true, false, cond, ◌&&◌, List, [], ◌∷◌, length, take, Some, None, refl, sym, ap, subst, arith, inl, inr, ◌⊎◌, ◌∙◌}
use Rattle.std.proofs.lemmas.Bool.{ne_eqb, or_cases}
use Rattle.std.specs.List.{list_any}
use Rattle.std.specs.Prelude.{filter, find, if◌then◌else◌, slice_get, ◌==◌}
use Rattle.rtm_model.specs.Chains.{without_first}
use Rattle.rtm_model.specs.Moments.{IsIn}
use Rattle.rtm_law_births.proofs.Lists.{Falls, falls_in, filter_in, found_in, in_filter}

-- one step of each
first_is : {X : Type 0} (p : X → Bool) (y : X) (ys : List X) (b : Bool) → p y ≡ b → without_first p (y ∷ ys) ≡ (if b then ys else y ∷ without_first p ys)
first_is p y ys b e = ap (λ (t : Bool). if t then ys else y ∷ without_first p ys) e

filter_is : {X : Type 0} (p : X → Bool) (y : X) (ys : List X) (b : Bool) → p y ≡ b → filter p (y ∷ ys) ≡ cond b (y ∷ filter p ys) (filter p ys)
filter_is p y ys b e = ap (λ (t : Bool). cond t (y ∷ filter p ys) (filter p ys)) e

find_is : {X : Type 0} (p : X → Bool) (y : X) (ys : List X) (b : Bool) → p y ≡ b → find p (y ∷ ys) ≡ cond b (Some y) (find p ys)
find_is p y ys b e = ap (λ (t : Bool). cond t (Some y) (find p ys)) e

-- a test that is two at once
module _ {X : Type 0} (p q r : X → Bool) (both : (x : X) → q x ≡ (p x && r x)) where
  of_both : (y : X) (b c : Bool) → p y ≡ b → r y ≡ c → q y ≡ (b && c)
  of_both y b c e f = both y ∙ ap (λ (t : Bool). t && r y) e ∙ ap (λ (t : Bool). b && t) f

  here_if : (y : X) (ys : List X) (b c : Bool) → p y ≡ b → r y ≡ c → filter p (without_first q ys) ≡ without_first r (filter p ys)
      → filter p (without_first q (y ∷ ys)) ≡ without_first r (filter p (y ∷ ys))
  here_if y ys true true e f rest =
      ap (filter p) (first_is q y ys true (of_both y true true e f))
      ∙ sym (ap (without_first r) (filter_is p y ys true e) ∙ first_is r y (filter p ys) true f)
  here_if y ys true false e f rest =
      ap (filter p) (first_is q y ys false (of_both y true false e f))
      ∙ filter_is p y (without_first q ys) true e
      ∙ ap (λ (zs : List X). y ∷ zs) rest
      ∙ sym (ap (without_first r) (filter_is p y ys true e) ∙ first_is r y (filter p ys) false f)
  here_if y ys false c e f rest =
      ap (filter p) (first_is q y ys false (of_both y false c e f))
      ∙ filter_is p y (without_first q ys) false e
      ∙ rest
      ∙ sym (ap (without_first r) (filter_is p y ys false e))

  -- the first of those that pass one is the first that passes both
  pub filter_here : (xs : List X) → filter p (without_first q xs) ≡ without_first r (filter p xs)
  filter_here [] = refl
  filter_here (y ∷ ys) = here_if y ys (p y) (r y) refl refl (filter_here ys)

  find_if : (y : X) (ys : List X) (b c : Bool) → p y ≡ b → r y ≡ c → find q ys ≡ find r (filter p ys) → find q (y ∷ ys) ≡ find r (filter p (y ∷ ys))
  find_if y ys true true e f rest =
      find_is q y ys true (of_both y true true e f) ∙ sym (ap (find r) (filter_is p y ys true e) ∙ find_is r y (filter p ys) true f)
  find_if y ys true false e f rest =
      find_is q y ys false (of_both y true false e f) ∙ rest ∙ sym (ap (find r) (filter_is p y ys true e) ∙ find_is r y (filter p ys) false f)
  find_if y ys false c e f rest =
      find_is q y ys false (of_both y false c e f) ∙ rest ∙ sym (ap (find r) (filter_is p y ys false e))

  pub find_both : (xs : List X) → find q xs ≡ find r (filter p xs)
  find_both [] = refl
  find_both (y ∷ ys) = find_if y ys (p y) (r y) refl refl (find_both ys)

-- two tests that nothing passes at once
module _ {X : Type 0} (p q : X → Bool) (apart : (x : X) → q x ≡ true → p x ≡ false) where
  there_if : (y : X) (ys : List X) (b c : Bool) → q y ≡ b → p y ≡ c → filter p (without_first q ys) ≡ filter p ys → filter p (without_first q (y ∷ ys)) ≡ filter p (y ∷ ys)
  there_if y ys true c e f rest = ap (filter p) (first_is q y ys true e) ∙ sym (filter_is p y ys false (apart y e))
  there_if y ys false true e f rest =
      ap (filter p) (first_is q y ys false e) ∙ filter_is p y (without_first q ys) true f ∙ ap (λ (zs : List X). y ∷ zs) rest ∙ sym (filter_is p y ys true f)
  there_if y ys false false e f rest =
      ap (filter p) (first_is q y ys false e) ∙ filter_is p y (without_first q ys) false f ∙ rest ∙ sym (filter_is p y ys false f)

  pub filter_there : (xs : List X) → filter p (without_first q xs) ≡ filter p xs
  filter_there [] = refl
  filter_there (y ∷ ys) = there_if y ys (q y) (p y) refl refl (filter_there ys)

-- what is found passes
passes_if : {X : Type 0} (p : X → Bool) (y : X) (ys : List X) (x : X) (b : Bool) → p y ≡ b → cond b (Some y) (find p ys) ≡ Some x → (find p ys ≡ Some x → p x ≡ true) → p x ≡ true
passes_if p y ys x true e h rest = let same : y ≡ x = cc in subst (λ z. p z ≡ true) same e
passes_if p y ys x false e h rest = rest h

pub found_passes : {X : Type 0} (p : X → Bool) (xs : List X) (x : X) → find p xs ≡ Some x → p x ≡ true
found_passes p [] x e = absurd cc
found_passes p (y ∷ ys) x e = passes_if p y ys x (p y) refl e (found_passes p ys x)

-- what isn't there any more was the first
lost_if : {X : Type 0} (p : X → Bool) (y : X) (ys : List X) (x : X) (b : Bool) → IsIn x (y ∷ ys) → (IsIn x (if b then ys else y ∷ without_first p ys) → ⊥)
    → (IsIn x ys → (IsIn x (without_first p ys) → ⊥) → find p ys ≡ Some x) → cond b (Some y) (find p ys) ≡ Some x
lost_if p y ys x true (inl same) gone rest = ap Some (sym same)
lost_if p y ys x true (inr h) gone rest = absurd (gone h)
lost_if p y ys x false (inl same) gone rest = absurd (gone (inl same))
lost_if p y ys x false (inr h) gone rest = rest h (λ k. gone (inr k))

pub lost : {X : Type 0} (p : X → Bool) (xs : List X) (x : X) → IsIn x xs → (IsIn x (without_first p xs) → ⊥) → find p xs ≡ Some x
lost p [] x h gone = absurd h
lost p (y ∷ ys) x h gone = lost_if p y ys x (p y) h gone (lost p ys x)

-- what is left was there
left_if : {X : Type 0} (p : X → Bool) (y : X) (ys : List X) (x : X) (b : Bool) → IsIn x (if b then ys else y ∷ without_first p ys) → (IsIn x (without_first p ys) → IsIn x ys) → IsIn x (y ∷ ys)
left_if p y ys x true h rest = inr h
left_if p y ys x false (inl same) rest = inl same
left_if p y ys x false (inr h) rest = inr (rest h)

pub left_in : {X : Type 0} (p : X → Bool) (xs : List X) (x : X) → IsIn x (without_first p xs) → IsIn x xs
left_in p [] x h = h
left_in p (y ∷ ys) x h = left_if p y ys x (p y) h (left_in p ys x)

-- births still fall
pub falls_below : {X : Type 0} (born : X → ℕ) (n m : ℕ) (xs : List X) → n ≤ m → Falls born n xs → Falls born m xs
falls_below born n m [] le f = tt
falls_below born n m (x ∷ xs) le f = (omega (arith, le, f.0), f.1)

fewer_if : {X : Type 0} (born : X → ℕ) (n : ℕ) (p : X → Bool) (y : X) (ys : List X) (b : Bool) → Falls born n (y ∷ ys) → Falls born (born y) (without_first p ys) → Falls born n (if b then ys else y ∷ without_first p ys)
fewer_if born n p y ys true f rest = falls_below born (born y) n ys (omega (arith, f.0)) f.1
fewer_if born n p y ys false f rest = (f.0, rest)

pub falls_without : {X : Type 0} (born : X → ℕ) (n : ℕ) (p : X → Bool) (xs : List X) → Falls born n xs → Falls born n (without_first p xs)
falls_without born n p [] f = tt
falls_without born n p (y ∷ ys) f = fewer_if born n p y ys (p y) f (falls_without born (born y) p ys f.1)

-- what is found is the newest that passes
newest_if : {X : Type 0} (born : X → ℕ) (p : X → Bool) (y : X) (ys : List X) (x z : X) (b : Bool) → p y ≡ b → Falls born (born y) ys → cond b (Some y) (find p ys) ≡ Some x → IsIn z (y ∷ ys) → p z ≡ true
    → (find p ys ≡ Some x → IsIn z ys → born z ≤ born x) → born z ≤ born x
newest_if born p y ys x z true e f h (inl same) passes rest = let one : y ≡ x = cc in omega (arith, ap born same, ap born one)
newest_if born p y ys x z true e f h (inr there) passes rest = let one : y ≡ x = cc in omega (arith, falls_in born (born y) ys z f there, ap born one)
newest_if born p y ys x z false e f h (inl same) passes rest = let not_so : p y ≡ true = subst (λ t. p t ≡ true) same passes in absurd cc
newest_if born p y ys x z false e f h (inr there) passes rest = rest h there

pub newest_found : {X : Type 0} (born : X → ℕ) (p : X → Bool) (n : ℕ) (xs : List X) (x z : X) → Falls born n xs → find p xs ≡ Some x → IsIn z xs → p z ≡ true → born z ≤ born x
newest_found born p n [] x z f h there passes = absurd there
newest_found born p n (y ∷ ys) x z f h there passes =
    newest_if born p y ys x z (p y) refl f.1 h there passes (λ found more. newest_found born p (born y) ys x z f.1 found more passes)

-- where nothing passes, nothing is taken away
none_if : {X : Type 0} (p : X → Bool) (y : X) (ys : List X) (b : Bool) → cond b (Some y) (find p ys) ≡ None → (find p ys ≡ None → without_first p ys ≡ ys) → (if b then ys else y ∷ without_first p ys) ≡ y ∷ ys
none_if p y ys true h rest = absurd cc
none_if p y ys false h rest = ap (λ (zs : List _). y ∷ zs) (rest h)

pub without_none : {X : Type 0} (p : X → Bool) (xs : List X) → find p xs ≡ None → without_first p xs ≡ xs
without_none p [] h = refl
without_none p (y ∷ ys) h = none_if p y ys (p y) h (without_none p ys)

-- a list that has no element is empty
pub nothing_in : {X : Type 0} (xs : List X) → ((x : X) → IsIn x xs → ⊥) → xs ≡ []
nothing_in [] h = refl
nothing_in (x ∷ xs) h = absurd (h x (inl refl))

pub none_pass : {X : Type 0} (p : X → Bool) (xs : List X) → ((x : X) → IsIn x xs → p x ≡ true → ⊥) → filter p xs ≡ []
none_pass p xs h = nothing_in (filter p xs) (λ x there. let k = in_filter p xs x there in h x k.0 k.1)

-- where something passes it is found
some_if : {X : Type 0} (p : X → Bool) (y : X) (ys : List X) (x : X) (b : Bool) → p y ≡ b → IsIn x (y ∷ ys) → p x ≡ true → (IsIn x ys → (z : X) × (find p ys ≡ Some z)) → (z : X) × (cond b (Some y) (find p ys) ≡ Some z)
some_if p y ys x true e h passes rest = (y, refl)
some_if p y ys x false e (inl same) passes rest = let not_so : p y ≡ true = subst (λ t. p t ≡ true) same passes in absurd cc
some_if p y ys x false e (inr h) passes rest = rest h

pub find_some : {X : Type 0} (p : X → Bool) (xs : List X) (x : X) → IsIn x xs → p x ≡ true → (z : X) × (find p xs ≡ Some z)
find_some p [] x h passes = absurd h
find_some p (y ∷ ys) x h passes = some_if p y ys x (p y) refl h passes (λ more. find_some p ys x more passes)

-- and they can be counted
pub not_empty : {X : Type 0} (xs : List X) (x : X) → IsIn x xs → (length xs == 0) ≡ false
not_empty [] x h = absurd h
not_empty (y ∷ ys) x h = ne_eqb (suc (length ys)) 0 (λ e. omega (arith, e))

pub found_counts : {X : Type 0} (p : X → Bool) (xs : List X) (x : X) → find p xs ≡ Some x → (length (filter p xs) == 0) ≡ false
found_counts p xs x e = not_empty (filter p xs) x (filter_in p xs x (found_in p xs x e) (found_passes p xs x e))

-- an element below an index, of those that pass
pub any_at : {X : Type 0} (p : X → Bool) (xs : List X) (k : ℕ) → list_any p (take k xs) ≡ true → (j : ℕ) × (j < k) × ((x : X) × (slice_get xs j ≡ Some x) × (p x ≡ true))
any_at p xs zero h = absurd cc
any_at p [] (suc k) h = absurd cc
any_at p (x ∷ xs) (suc k) h = elim (or_cases (p x) (list_any p (take k xs)) h) [
  | inl here ↦ (0, omega arith, (x, refl, here))
  | inr more ↦ let rest = any_at p xs k more in (suc rest.0, omega (arith, rest.1), rest.2)
]

-- the next element, or none is left
pub next_or_none : {X : Type 0} (xs : List X) (k : ℕ) → ((x : X) × (slice_get xs k ≡ Some x)) ⊎ (take (k + 1) xs ≡ take k xs)
next_or_none [] zero = inr refl
next_or_none [] (suc k) = inr (let m : suc k + 1 ≡ suc (k + 1) = omega arith in rw m refl)
next_or_none (x ∷ xs) zero = inl (x, refl)
next_or_none (x ∷ xs) (suc k) = elim (next_or_none xs k) [
  | inl there ↦ inl there
  | inr none ↦ inr (let m : suc k + 1 ≡ suc (k + 1) = omega arith in rw m (ap (λ ys. x ∷ ys) none))
]
