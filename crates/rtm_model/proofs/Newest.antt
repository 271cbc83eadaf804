-- A list that is kept the other way round, its newest last: a change of that one in place.
use Rattle.std.proofs.Common.{◌≡◌, ℕ, zero, suc, ◌+◌, ◌<◌, List, [], ◌∷◌, ◌++◌, length, refl, sym, ap, ◌∙◌, arith}
use Rattle.std.specs.Prelude.{reverse, slice_index_or, slice_set}
use Rattle.std.proofs.lemmas.List.{reverse-append, length-reverse, set-get_or}
use Rattle.rtm_model.specs.Blocks.{without_newest}

in_front : {A : Type 0} (ys : List A) (x : A) → 0 < length ys → without_newest (ys ++ x ∷ []) ≡ without_newest ys ++ x ∷ []
in_front [] x h = absurd (omega arith)
in_front (y ∷ ys) x h = refl

-- the newest is another, the older ones are the same
last_set : {A : Type 0} (xs : List A) (i : ℕ) (y : A) → i + 1 ≡ length xs → reverse (slice_set xs i y) ≡ y ∷ without_newest (reverse xs)
last_set [] i y h = absurd (omega arith)
last_set (x ∷ []) zero y h = refl
last_set (x ∷ z ∷ xs) zero y h = absurd (omega arith)
last_set {A} (x ∷ xs) (suc i) y h =
    reverse-append (x ∷ []) (slice_set xs i y)
    ∙ ap (λ (zs : List A). zs ++ x ∷ []) (last_set xs i y (omega arith))
    ∙ ap (λ (zs : List A). y ∷ zs) (sym (in_front (reverse xs) x (omega (arith, length-reverse xs))) ∙ ap without_newest (sym (reverse-append (x ∷ []) xs)))

-- F changes the newest alone, by f
pub newest_changed : {A : Type 0} (F : List A → List A) (f : A → A) → ((x : A) (xs : List A) → F (x ∷ xs) ≡ f x ∷ xs) → (xs : List A) (i : ℕ) (x : A) → i + 1 ≡ length xs → x ≡ slice_index_or xs i x
    → reverse (slice_set xs i (f x)) ≡ F (reverse xs)
newest_changed {A} F f h xs i x len is =
    let newest : reverse xs ≡ x ∷ without_newest (reverse xs) =
    ap (λ (zs : List A). reverse zs) (sym (set-get_or xs i x)) ∙ ap (λ (y : A). reverse (slice_set xs i y)) (sym is) ∙ last_set xs i x len in
    last_set xs i (f x) len ∙ sym (h x (without_newest (reverse xs))) ∙ ap F (sym newest)
