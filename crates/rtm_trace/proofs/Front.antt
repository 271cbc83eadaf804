-- The front of a list up to the first element that fails a test.
use Rattle.std.proofs.Common.{◌≡◌, Bool, true, false, cond, List, [], ◌∷◌, length, take, refl, ap}
use Rattle.std.specs.Prelude.{take_while}
use Rattle.std.proofs.lemmas.List.Sums.{take_while-cons}

front_if : {X : Type 0} (b : Bool) (x : X) (xs ys : List X) → take (length ys) xs ≡ ys → take (length (cond b (x ∷ ys) [])) (x ∷ xs) ≡ cond b (x ∷ ys) []
front_if true x xs ys h = ap (λ zs. x ∷ zs) h
front_if false x xs ys h = refl

pub take_front : {X : Type 0} (p : X → Bool) (xs : List X) → take (length (take_while p xs)) xs ≡ take_while p xs
take_front p [] = refl
take_front p (x ∷ xs) = rw take_while-cons (front_if (p x) x xs (take_while p xs) (take_front p xs))
