-- A list that has the oldest first, read from its newest end.
use Rattle.std.proofs.Common.{◌≡◌, ℕ, zero, suc, ◌+◌, ◌-◌, ◌<◌, ◌≤◌, Bool, true, false, cond, List, [], ◌∷◌, ◌++◌, length, drop, Some, None, refl, sym, ap, subst, ◌∙◌, arith}
use Rattle.std.specs.Prelude.{reverse, filter, find, position, remove, slice_index_or, slice_set, nat_lt}
use Rattle.std.specs.List.{position_or_len}
use Rattle.std.proofs.lemmas.Bool.{cond-false, cond-true}
use Rattle.std.proofs.lemmas.Bool.Decides.{nat_tests}
use Rattle.std.proofs.lemmas.List.{reverse-append, reverse-reverse, append-nil, length-reverse, length_push, take_at, drop_all, set_at, set-append_left, get_or-reverse}
use Rattle.std.proofs.lemmas.List.Elements.{filter-append}
use Rattle.std.proofs.lemmas.List.Edits.{remove-append_left}
use Rattle.std.proofs.lemmas.List.Sums.{fails_before_first}
use Rattle.std.proofs.lemmas.List.Quantifiers.{position-Some}
use Rattle.rtm_model.specs.Chains.{without_first, with_in_place}
use Rattle.rtm_model.specs.inner.Newest.{IsNewest, IsAbsent}

-- one more element at the front, backwards
reverse-cons : {A : Type 0} (y : A) (ys : List A) → reverse (y ∷ ys) ≡ reverse ys ++ y ∷ []
reverse-cons y ys = reverse-append (y ∷ []) ys

-- the last element taken away
removed_last : {A : Type 0} (xs : List A) (y : A) (i : ℕ) → length xs ≡ i → remove (xs ++ y ∷ []) i ≡ xs
removed_last xs y i e =
    let past : length (xs ++ y ∷ []) ≤ suc i = omega (arith, length_push xs y) in
    ap (λ front. front ++ drop (suc i) (xs ++ y ∷ [])) (take_at xs (y ∷ []) i e) ∙ ap (λ back. xs ++ back) (drop_all (suc i) (xs ++ y ∷ []) past) ∙ append-nil xs

module _ {A : Type 0} (p : A → Bool) where
  -- the element at k is the first that passes
  record IsFirst (ys : List A) (k : ℕ) (d : A) : Type 0 where
    within : k < length ys
    passes : p (slice_index_or ys k d) ≡ true
    others : (j : ℕ) → j < k → p (slice_index_or ys j d) ≡ false

  later : (y : A) (ys : List A) (k : ℕ) (d : A) → IsFirst (y ∷ ys) (suc k) d → IsFirst ys k d
  later y ys k d h = record { within = omega arith; passes = h.passes; others = λ j below. h.others (suc j) (omega arith) }

  found : (ys : List A) (k : ℕ) (d : A) → IsFirst ys k d → find p ys ≡ Some (slice_index_or ys k d)
  found [] k d h = absurd (omega arith)
  found (y ∷ ys) zero d h = cond-true (p y) (Some y) (find p ys) h.passes
  found (y ∷ ys) (suc k) d h = cond-false (p y) (Some y) (find p ys) (h.others 0 (omega arith)) ∙ found ys k d (later y ys k d h)

  -- that element from the other end: without it
  removes : (ys : List A) (k i : ℕ) (d : A) → IsFirst ys k d → i + k + 1 ≡ length ys → remove (reverse ys) i ≡ reverse (without_first p ys)
  removes [] k i d h e = absurd (omega arith)
  removes (y ∷ ys) zero i d h e =
      let last : length (reverse ys) ≡ i = omega (arith, length-reverse ys) in
      ap (λ l. remove l i) (reverse-cons y ys) ∙ removed_last (reverse ys) y i last ∙ sym (ap reverse (cond-true (p y) ys (y ∷ without_first p ys) h.passes))
  removes (y ∷ ys) (suc k) i d h e =
      let inside : i < length (reverse ys) = omega (arith, length-reverse ys, later y ys k d h) in
      ap (λ l. remove l i) (reverse-cons y ys) ∙ remove-append_left (reverse ys) (y ∷ []) i inside
      ∙ ap (λ l. l ++ y ∷ []) (removes ys k i d (later y ys k d h) (omega arith))
      ∙ sym (reverse-cons y (without_first p ys)) ∙ sym (ap reverse (cond-false (p y) ys (y ∷ without_first p ys) (h.others 0 (omega arith))))

  -- and with another in its place
  replaces : (r : A) (ys : List A) (k i : ℕ) (d : A) → IsFirst ys k d → i + k + 1 ≡ length ys → slice_set (reverse ys) i r ≡ reverse (with_in_place p r ys)
  replaces r [] k i d h e = absurd (omega arith)
  replaces r (y ∷ ys) zero i d h e =
      let last : length (reverse ys) ≡ i = omega (arith, length-reverse ys) in
      ap (λ l. slice_set l i r) (reverse-cons y ys) ∙ set_at (reverse ys) y [] r i last ∙ sym (reverse-cons r ys) ∙ sym (ap reverse (cond-true (p y) (r ∷ ys) (y ∷ with_in_place p r ys) h.passes))
  replaces r (y ∷ ys) (suc k) i d h e =
      let inside : i < length (reverse ys) = omega (arith, length-reverse ys, later y ys k d h) in
      ap (λ l. slice_set l i r) (reverse-cons y ys) ∙ set-append_left (reverse ys) (y ∷ []) i r inside
      ∙ ap (λ l. l ++ y ∷ []) (replaces r ys k i d (later y ys k d h) (omega arith))
      ∙ sym (reverse-cons y (with_in_place p r ys)) ∙ sym (ap reverse (cond-false (p y) (r ∷ ys) (y ∷ with_in_place p r ys) (h.others 0 (omega arith))))

  first_at : (ys : List A) (k : ℕ) (d : A) → position p ys ≡ Some k → IsFirst ys k d
  first_at ys k d e = let at : (k < length ys) × (p (slice_index_or ys k d) ≡ true) × ((j : ℕ) → j < k → p (slice_index_or ys j d) ≡ false) = position-Some p ys k d e in record { within = at.0; passes = at.1; others = at.2 }

  position_within : (ys : List A) (k : ℕ) → position p ys ≡ Some k → k < length ys
  position_within [] k e = absurd cc
  position_within (y ∷ ys) k e = (first_at (y ∷ ys) k y e).within

  -- the place that was found, counted from the oldest
  newest_reversed : (ys : List A) (k i : ℕ) → position p ys ≡ Some k → i + k + 1 ≡ length ys → IsNewest p (reverse ys) i
  newest_reversed [] k i e h = absurd (omega arith)
  newest_reversed (y ∷ ys) k i e h =
      let zs : List A = y ∷ ys in
      let back : reverse (reverse zs) ≡ zs = reverse-reverse zs in
      record {
        within = omega (arith, length-reverse zs);
        is = λ d.
            let place : length zs - 1 - i ≡ k = omega arith in
            ap (find p) back ∙ found zs k d (first_at zs k d e)
            ∙ sym (ap Some (get_or-reverse zs i d (omega arith) ∙ ap (λ (n : ℕ). slice_index_or zs n d) place));
        removed = ap reverse (removes zs k i y (first_at zs k y e) h) ∙ reverse-reverse (without_first p zs) ∙ sym (ap (without_first p) back);
        replaced = λ r. ap reverse (replaces r zs k i y (first_at zs k y e) h) ∙ reverse-reverse (with_in_place p r zs) ∙ sym (ap (with_in_place p r) back);
      }

  pub newest_at : (xs : List A) (k : ℕ) → position p (reverse xs) ≡ Some k → IsNewest p xs (length xs - 1 - k)
  newest_at xs k e =
      let below : k < length (reverse xs) = position_within (reverse xs) k e in
      let at : IsNewest p (reverse (reverse xs)) (length xs - 1 - k) = newest_reversed (reverse xs) k (length xs - 1 - k) e (omega (arith, length-reverse xs)) in
      subst (λ (l : List A). IsNewest p l (length xs - 1 - k)) (reverse-reverse xs) at

  -- where no element passes
  record IsNowhere (ys : List A) : Type 0 where
    fails : (k : ℕ) (d : A) → k < length ys → p (slice_index_or ys k d) ≡ false

  rest_nowhere : (y : A) (ys : List A) → IsNowhere (y ∷ ys) → IsNowhere ys
  rest_nowhere y ys h = record { fails = λ k d below. h.fails (suc k) d (omega arith) }

  finds_nothing : (ys : List A) → IsNowhere ys → find p ys ≡ None
  finds_nothing [] h = refl
  finds_nothing (y ∷ ys) h = cond-false (p y) (Some y) (find p ys) (h.fails 0 y (omega arith)) ∙ finds_nothing ys (rest_nowhere y ys h)

  removes_nothing : (ys : List A) → IsNowhere ys → without_first p ys ≡ ys
  removes_nothing [] h = refl
  removes_nothing (y ∷ ys) h = cond-false (p y) ys (y ∷ without_first p ys) (h.fails 0 y (omega arith)) ∙ ap (λ l. y ∷ l) (removes_nothing ys (rest_nowhere y ys h))

  replaces_nothing : (r : A) (ys : List A) → IsNowhere ys → with_in_place p r ys ≡ ys
  replaces_nothing r [] h = refl
  replaces_nothing r (y ∷ ys) h = cond-false (p y) (r ∷ ys) (y ∷ with_in_place p r ys) (h.fails 0 y (omega arith)) ∙ ap (λ l. y ∷ l) (replaces_nothing r ys (rest_nowhere y ys h))

  none_below : (n m : ℕ) → cond (nat_lt n m) (Some n) None ≡ None → m ≤ n
  none_below n m e = grind (arith, nat_tests)

  nowhere : (ys : List A) → position p ys ≡ None → IsNowhere ys
  nowhere ys e =
      let past : length ys ≤ position_or_len p ys = none_below (position_or_len p ys) (length ys) e in
      record { fails = λ k d below. fails_before_first p ys k d (omega arith) }

  pub absent_from : (xs : List A) → position p (reverse xs) ≡ None → IsAbsent p xs
  absent_from xs e =
      let none : IsNowhere (reverse xs) = nowhere (reverse xs) e in
      record { is = finds_nothing (reverse xs) none; removed = removes_nothing (reverse xs) none; replaced = λ r. replaces_nothing r (reverse xs) none }

-- one more element at the front, where it passes, backwards
reverse-cond : {A : Type 0} (b : Bool) (x : A) (ys zs : List A) → reverse ys ≡ zs → reverse (cond b (x ∷ ys) ys) ≡ zs ++ cond b (x ∷ []) []
reverse-cond true x ys zs h = reverse-cons x ys ∙ ap (λ l. l ++ x ∷ []) h
reverse-cond false x ys zs h = h ∙ sym (append-nil zs)

-- what passes a test, backwards, is what passes it of the list backwards
pub reverse_filter : {A : Type 0} (p : A → Bool) (xs : List A) → reverse (filter p xs) ≡ filter p (reverse xs)
reverse_filter p [] = refl
reverse_filter p (x ∷ xs) =
    reverse-cond (p x) x (filter p xs) (filter p (reverse xs)) (reverse_filter p xs)
    ∙ sym (ap (filter p) (reverse-cons x xs) ∙ filter-append p (reverse xs) (x ∷ []))
