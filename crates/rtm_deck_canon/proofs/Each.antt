-- What holds of each element of a list.
use Rattle.std.proofs.Common.{ℕ, zero, suc, ◌<◌, Bool, List, [], ◌∷◌, ◌++◌, length, map, get_or, refl, arith}
use Rattle.std.specs.Prelude.{IsTrue}
use Rattle.std.specs.List.{list_all, AllByRecursion}
use Rattle.std.proofs.lemmas.Bool.{and_parts, and_from}

-- what passes one test and so another, each in a list
pub each_test : {X : Type 0} (p q : X → Bool) → ((x : X) → IsTrue (p x) → IsTrue (q x)) → (xs : List X) → IsTrue (list_all p xs) → IsTrue (list_all q xs)
each_test p q h [] all = refl
each_test p q h (x ∷ xs) all =
    let parts = and_parts (p x) (list_all p xs) all in
    and_from (q x) (list_all q xs) (h x parts.0) (each_test p q h xs parts.1)

pub test_append : {X : Type 0} (p : X → Bool) (xs ys : List X) → IsTrue (list_all p xs) → IsTrue (list_all p ys) → IsTrue (list_all p (xs ++ ys))
test_append p [] ys a b = b
test_append p (x ∷ xs) ys a b =
    let parts = and_parts (p x) (list_all p xs) a in
    and_from (p x) (list_all p (xs ++ ys)) parts.0 (test_append p xs ys parts.1 b)

pub test_parts : {X : Type 0} (p : X → Bool) (xs ys : List X) → IsTrue (list_all p (xs ++ ys)) → IsTrue (list_all p xs) × IsTrue (list_all p ys)
test_parts p [] ys h = (refl, h)
test_parts p (x ∷ xs) ys h =
    let parts = and_parts (p x) (list_all p (xs ++ ys)) h in
    let more = test_parts p xs ys parts.1 in
    (and_from (p x) (list_all p xs) parts.0 more.0, more.1)

pub each : {X : Type 0} (P Q : X → Type 0) → ((x : X) → P x → Q x) → (xs : List X) → AllByRecursion P xs → AllByRecursion Q xs
each P Q h [] all = tt
each P Q h (x ∷ xs) all = (h x all.0, each P Q h xs all.1)

pub each_tested : {X : Type 0} (p : X → Bool) (Q : X → Type 0) → ((x : X) → IsTrue (p x) → Q x) → (xs : List X) → IsTrue (list_all p xs) → AllByRecursion Q xs
each_tested p Q h [] all = tt
each_tested p Q h (x ∷ xs) all =
    let parts = and_parts (p x) (list_all p xs) all in
    (h x parts.0, each_tested p Q h xs parts.1)

pub both_lists : {X : Type 0} (P : X → Type 0) (xs ys : List X) → AllByRecursion P xs → AllByRecursion P ys → AllByRecursion P (xs ++ ys)
both_lists P [] ys a b = b
both_lists P (x ∷ xs) ys a b = (a.0, both_lists P xs ys a.1 b)

pub parts_of_all : {X : Type 0} (P : X → Type 0) (xs ys : List X) → AllByRecursion P (xs ++ ys) → AllByRecursion P xs × AllByRecursion P ys
parts_of_all P [] ys h = (tt, h)
parts_of_all P (x ∷ xs) ys h = let more = parts_of_all P xs ys h.1 in ((h.0, more.0), more.1)

pub mapped : {X Y : Type 0} (P : Y → Type 0) (f : X → Y) (xs : List X) → AllByRecursion (λ (x : X). P (f x)) xs → AllByRecursion P (map f xs)
mapped P f [] h = tt
mapped P f (x ∷ xs) h = (h.0, mapped P f xs h.1)

pub unmapped : {X Y : Type 0} (P : Y → Type 0) (f : X → Y) (xs : List X) → AllByRecursion P (map f xs) → AllByRecursion (λ (x : X). P (f x)) xs
unmapped P f [] h = tt
unmapped P f (x ∷ xs) h = (h.0, unmapped P f xs h.1)

-- what holds of each holds at each index, and the other way around
pub at : {X : Type 0} (P : X → Type 0) (x : X) (xs : List X) (i : ℕ) → i < length xs → AllByRecursion P xs → P (get_or xs i x)
at P x [] i h all = absurd (omega arith)
at P x (y ∷ ys) zero h all = all.0
at P x (y ∷ ys) (suc i) h all = at P x ys i (omega arith) all.1

pub from_each_index : {X : Type 0} (P : X → Type 0) (x : X) (xs : List X) → ((i : ℕ) → i < length xs → P (get_or xs i x)) → AllByRecursion P xs
from_each_index P x [] h = tt
from_each_index P x (y ∷ ys) h = (h 0 (omega arith), from_each_index P x ys (λ i less. h (suc i) (omega arith)))
