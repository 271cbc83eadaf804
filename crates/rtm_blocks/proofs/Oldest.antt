-- The oldest of a list that has the newest first, where the list is kept the other way round.
use Rattle.std.proofs.Common.{◌≡◌, List, [], ◌∷◌, ◌++◌, Option, Some, None, refl, ap, ◌∙◌}
use Rattle.std.specs.Prelude.{reverse, slice_get}
use Rattle.std.specs.List.{last_or}
use Rattle.std.proofs.lemmas.List.{reverse-append}

last_or-append : {A : Type 0} (o : Option A) (xs : List A) (y : A) → last_or o (xs ++ y ∷ []) ≡ Some y
last_or-append o [] y = refl
last_or-append o (x ∷ xs) y = last_or-append (Some x) xs y

pub oldest_reverse : {A : Type 0} (xs : List A) → last_or None (reverse xs) ≡ slice_get xs 0
oldest_reverse [] = refl
oldest_reverse (x ∷ xs) = ap (last_or None) (reverse-append (x ∷ []) xs) ∙ last_or-append None (reverse xs) x
