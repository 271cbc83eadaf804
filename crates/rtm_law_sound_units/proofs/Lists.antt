-- What holds of each element of a list.
use Rattle.std.proofs.Common.{◌≡◌, ℕ, zero, suc, Bool, true, false, cond, List, [], ◌∷◌, Option, Some, None, refl, get_or}
use Rattle.std.specs.Prelude.{IfSome, filter, find}
use Rattle.std.specs.List.{AllByRecursion}

-- what holds of each element, by two facts of it
pub all_by2 : {X : Type 0} (P Q R : X → Type 0) → ((x : X) → P x → Q x → R x) → (xs : List X) → AllByRecursion P xs → AllByRecursion Q xs → AllByRecursion R xs
all_by2 P Q R f [] h i = tt
all_by2 P Q R f (x ∷ xs) h i = (f x h.0 i.0, all_by2 P Q R f xs h.1 i.1)

pub some_by : {X : Type 0} (P Q : X → Type 0) → ((x : X) → P x → Q x) → (o : Option X) → IfSome o P → IfSome o Q
some_by P Q f None h = tt
some_by P Q f (Some x) h = f x h

kept_if : {X : Type 0} (P Q : X → Type 0) (p : X → Bool) (x : X) (xs : List X) (b : Bool) → p x ≡ b → ((x : X) → P x → p x ≡ true → Q x) → P x → AllByRecursion Q xs → AllByRecursion Q (cond b (x ∷ xs) xs)
kept_if P Q p x xs true e f here more = (f x here e, more)
kept_if P Q p x xs false e f here more = more

-- of what a filter keeps each element passes the test
pub all_kept : {X : Type 0} (P Q : X → Type 0) (p : X → Bool) → ((x : X) → P x → p x ≡ true → Q x) → (xs : List X) → AllByRecursion P xs → AllByRecursion Q (filter p xs)
all_kept P Q p f [] h = tt
all_kept P Q p f (x ∷ xs) h = kept_if P Q p x (filter p xs) (p x) refl f h.0 (all_kept P Q p f xs h.1)

found_in : {X : Type 0} (P : X → Type 0) (p : X → Bool) (y : X) (ys : List X) (b : Bool) → p y ≡ b → P y → IfSome (find p ys) (λ x. P x × (p x ≡ true)) → IfSome (cond b (Some y) (find p ys)) (λ x. P x × (p x ≡ true))
found_in P p y ys true e here more = (here, e)
found_in P p y ys false e here more = more

-- what is found is an element that passes the test
pub all_found : {X : Type 0} (P : X → Type 0) (p : X → Bool) (xs : List X) → AllByRecursion P xs → IfSome (find p xs) (λ x. P x × (p x ≡ true))
all_found P p [] h = tt
all_found P p (x ∷ xs) h = found_in P p x xs (p x) refl h.0 (all_found P p xs h.1)

-- what holds of each element, and of the default, holds at each index
pub all_at : {X : Type 0} (P : X → Type 0) (xs : List X) (i : ℕ) (d : X) → P d → AllByRecursion P xs → P (get_or xs i d)
all_at P [] i d other h = other
all_at P (x ∷ xs) zero d other h = h.0
all_at P (x ∷ xs) (suc i) d other h = all_at P xs i d other h.1
