-- Lists whose births fall.
use Rattle.std.proofs.Common.{◌≡◌, ℕ, ◌<◌, ◌≤◌, Bool, true, false, cond, List, [], ◌∷◌, ◌++◌, Option, Some, None, refl, sym, ap, arith, inl, inr, ◌∙◌}
use Rattle.std.specs.Prelude.{filter, find}
use Rattle.rtm_model.specs.Blocks.{newest}
use Rattle.rtm_model.specs.Moments.{IsIn}
use Rattle.rtm_model.specs.Record.{value_or}
use Rattle.rtm_law_births.proofs.Lists.{Falls, falls_in}

-- below a later number too
falls_later : {X : Type 0} (born : X → ℕ) (n m : ℕ) (xs : List X) → n ≤ m → Falls born n xs → Falls born m xs
falls_later born n m [] h f = tt
falls_later born n m (x ∷ xs) h f = (omega (arith, f.0, h), f.1)

-- without those that fail a test
kept_if : {X : Type 0} (born : X → ℕ) (n : ℕ) (x : X) (xs : List X) (b : Bool) → born x < n → Falls born (born x) xs → Falls born n (cond b (x ∷ xs) xs)
kept_if born n x xs true h f = (h, f)
kept_if born n x xs false h f = falls_later born (born x) n xs (omega (arith, h)) f

pub falls_filter : {X : Type 0} (born : X → ℕ) (p : X → Bool) (n : ℕ) (xs : List X) → Falls born n xs → Falls born n (filter p xs)
falls_filter born p n [] f = tt
falls_filter born p n (x ∷ xs) f = kept_if born n x (filter p xs) (p x) f.0 (falls_filter born p (born x) xs f.1)

-- two such lists with the same elements are the same
module _ {X : Type 0} (born : X → ℕ) where
  newest_same : (n m : ℕ) (x y : X) (xs ys : List X) → Falls born n (x ∷ xs) → Falls born m (y ∷ ys) → IsIn x (y ∷ ys) → IsIn y (x ∷ xs) → x ≡ y
  newest_same n m x y xs ys f g (inl same) back = same
  newest_same n m x y xs ys f g (inr there) (inl same) = sym same
  newest_same n m x y xs ys f g (inr there) (inr here) =
      let a = falls_in born (born y) ys x g.1 there in
      let b = falls_in born (born x) xs y f.1 here in
      absurd (omega (arith, a, b))

  rest_in : (n m : ℕ) (x y : X) (xs ys : List X) → Falls born n (x ∷ xs) → x ≡ y → (z : X) → IsIn z xs → IsIn z (y ∷ ys) → IsIn z ys
  rest_in n m x y xs ys f same z there (inr more) = more
  rest_in n m x y xs ys f same z there (inl here) =
      let less = falls_in born (born x) xs z f.1 there in
      absurd (omega (arith, less, ap born here, ap born same))

  pub same_elements : (n m : ℕ) (xs ys : List X) → Falls born n xs → Falls born m ys → ((z : X) → IsIn z xs → IsIn z ys) → ((z : X) → IsIn z ys → IsIn z xs) → xs ≡ ys
  same_elements n m [] [] f g forth back = refl
  same_elements n m [] (y ∷ ys) f g forth back = absurd (back y (inl refl))
  same_elements n m (x ∷ xs) [] f g forth back = absurd (forth x (inl refl))
  same_elements n m (x ∷ xs) (y ∷ ys) f g forth back =
      let same : x ≡ y = newest_same n m x y xs ys f g (forth x (inl refl)) (back y (inl refl)) in
      let rest : xs ≡ ys = same_elements (born x) (born y) xs ys f.1 g.1
      (λ z there. rest_in n m x y xs ys f same z there (forth z (inr there)))
      (λ z there. rest_in m n y x ys xs g (sym same) z there (back z (inr there))) in
      ap (λ (k : X). k ∷ xs) same ∙ ap (λ (zs : List X). y ∷ zs) rest

-- What is found is the first that passes

found_if : {X : Type 0} (b : Bool) (x : X) (xs : List X) (o : Option X) → o ≡ newest xs → cond b (Some x) o ≡ newest (cond b (x ∷ xs) xs)
found_if true x xs o e = refl
found_if false x xs o e = e

pub find_first : {X : Type 0} (p : X → Bool) (xs : List X) → find p xs ≡ newest (filter p xs)
find_first p [] = refl
find_first p (x ∷ xs) = found_if (p x) x (filter p xs) (find p xs) (find_first p xs)

pub first_joined : {X : Type 0} (xs ys : List X) → newest (xs ++ ys) ≡ value_or (newest xs) (newest ys)
first_joined [] ys = refl
first_joined (x ∷ xs) ys = refl

pub value_or-assoc : {X : Type 0} (a b c : Option X) → value_or a (value_or b c) ≡ value_or (value_or a b) c
value_or-assoc (Some x) b c = refl
value_or-assoc None b c = refl
