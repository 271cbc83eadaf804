-- A list of aborts with at most one of a class has at most six.
use Rattle.std.proofs.Common.{◌≡◌, ℕ, ◌+◌, ◌<◌, ◌≤◌, Bool, true, false, cond, ◌||◌, List, [], ◌∷◌, ◌++◌, length, refl, ap, ◌∙◌, arith}
use Rattle.std.proofs.lemmas.Bool.{or_parts}
use Rattle.rtm_model.specs.declared.abort.Abort.{Abort}
use Rattle.rtm_model.specs.declared.entry.Class.{Class}
use Rattle.rtm_model.specs.declared.entry.Class.TheVariants.{Cancel, Detach, Mother, Step, Abterm, Srb}
use Rattle.rtm_model.specs.Aborts.{is_same_class, has_class, HasDistinctClasses}

abbrev bit : Bool → ℕ
bit b = cond b 1 0

at_most_one : (b : Bool) → bit b ≤ 1
at_most_one true = omega arith
at_most_one false = omega arith

-- one, if an abort of the class is there
abbrev there : Class → List Abort → ℕ
there class aborts = bit (has_class class aborts)

-- how many classes are there
abbrev classes : List Abort → ℕ
classes aborts = there Cancel aborts + there Detach aborts + there Mother aborts + there Step aborts + there Abterm aborts + there Srb aborts

-- how many are there with one more abort, of that class
abbrev classes_with : Class → List Abort → ℕ
classes_with class aborts =
    bit (is_same_class Cancel class || has_class Cancel aborts) + bit (is_same_class Detach class || has_class Detach aborts)
    + bit (is_same_class Mother class || has_class Mother aborts) + bit (is_same_class Step class || has_class Step aborts)
    + bit (is_same_class Abterm class || has_class Abterm aborts) + bit (is_same_class Srb class || has_class Srb aborts)

one_more : (class : Class) (aborts : List Abort) → has_class class aborts ≡ false → classes_with class aborts ≡ classes aborts + 1
one_more Cancel aborts absent = let none : there Cancel aborts ≡ 0 = ap bit absent in omega arith
one_more Detach aborts absent = let none : there Detach aborts ≡ 0 = ap bit absent in omega arith
one_more Mother aborts absent = let none : there Mother aborts ≡ 0 = ap bit absent in omega arith
one_more Step aborts absent = let none : there Step aborts ≡ 0 = ap bit absent in omega arith
one_more Abterm aborts absent = let none : there Abterm aborts ≡ 0 = ap bit absent in omega arith
one_more Srb aborts absent = let none : there Srb aborts ≡ 0 = ap bit absent in omega arith

-- each abort is of a class of its own
counted : (aborts : List Abort) → HasDistinctClasses aborts → classes aborts ≡ length aborts
counted [] h = refl
counted (abort ∷ later) h =
    let more : classes (abort ∷ later) ≡ classes later + 1 = one_more abort.class later h.0 in
    let rest : classes later ≡ length later = counted later h.1 in
    omega arith

room : (abort : Abort) (aborts : List Abort) → HasDistinctClasses aborts → has_class abort.class aborts ≡ false → length aborts < 6
room abort aborts h absent =
    let all : List Abort = abort ∷ aborts in
    let more : classes (abort ∷ aborts) ≡ classes aborts + 1 = one_more abort.class aborts absent in
    let a = at_most_one (has_class Cancel (abort ∷ aborts)) in
    let b = at_most_one (has_class Detach (abort ∷ aborts)) in
    let c = at_most_one (has_class Mother (abort ∷ aborts)) in
    let d = at_most_one (has_class Step (abort ∷ aborts)) in
    let e = at_most_one (has_class Abterm (abort ∷ aborts)) in
    let f = at_most_one (has_class Srb (abort ∷ aborts)) in
    let same : classes aborts ≡ length aborts = counted aborts h in
    omega arith

same_either_way : (one other : Class) → is_same_class one other ≡ is_same_class other one
same_either_way Cancel other = elim other as (λ o. is_same_class Cancel o ≡ is_same_class o Cancel) [ Cancel ↦ refl | Detach ↦ refl | Mother ↦ refl | Step ↦ refl | Abterm ↦ refl | Srb ↦ refl ]
same_either_way Detach other = elim other as (λ o. is_same_class Detach o ≡ is_same_class o Detach) [ Cancel ↦ refl | Detach ↦ refl | Mother ↦ refl | Step ↦ refl | Abterm ↦ refl | Srb ↦ refl ]
same_either_way Mother other = elim other as (λ o. is_same_class Mother o ≡ is_same_class o Mother) [ Cancel ↦ refl | Detach ↦ refl | Mother ↦ refl | Step ↦ refl | Abterm ↦ refl | Srb ↦ refl ]
same_either_way Step other = elim other as (λ o. is_same_class Step o ≡ is_same_class o Step) [ Cancel ↦ refl | Detach ↦ refl | Mother ↦ refl | Step ↦ refl | Abterm ↦ refl | Srb ↦ refl ]
same_either_way Abterm other = elim other as (λ o. is_same_class Abterm o ≡ is_same_class o Abterm) [ Cancel ↦ refl | Detach ↦ refl | Mother ↦ refl | Step ↦ refl | Abterm ↦ refl | Srb ↦ refl ]
same_either_way Srb other = elim other as (λ o. is_same_class Srb o ≡ is_same_class o Srb) [ Cancel ↦ refl | Detach ↦ refl | Mother ↦ refl | Step ↦ refl | Abterm ↦ refl | Srb ↦ refl ]

-- none of the class is there, nor is one at the end of the list
absent_after : (class : Class) (aborts : List Abort) (abort : Abort) → has_class class aborts ≡ false → is_same_class class abort.class ≡ false → has_class class (aborts ++ abort ∷ []) ≡ false
absent_after class [] abort absent other = ap (λ b. b || false) other
absent_after class (x ∷ xs) abort absent other =
    let parts : (is_same_class class x.class ≡ false) × (has_class class xs ≡ false) = or_parts (is_same_class class x.class) (has_class class xs) absent in
    ap (λ b. b || has_class class (xs ++ abort ∷ [])) parts.0 ∙ absent_after class xs abort parts.1 other

joined : (abort : Abort) (aborts : List Abort) → HasDistinctClasses aborts → has_class abort.class aborts ≡ false → HasDistinctClasses (aborts ++ abort ∷ [])
joined abort [] h absent = (refl, tt)
joined abort (x ∷ xs) h absent =
    let parts : (is_same_class abort.class x.class ≡ false) × (has_class abort.class xs ≡ false) = or_parts (is_same_class abort.class x.class) (has_class abort.class xs) absent in
    (absent_after x.class xs abort h.0 (same_either_way x.class abort.class ∙ parts.0), joined abort xs h.1 parts.1)

-- an abort whose class isn't there: there is room for it, and it may join the others
pub record MayJoin (abort : Abort) (aborts : List Abort) : Type 0 where
  pub room_for : length aborts < 6
  pub distinct : HasDistinctClasses (aborts ++ abort ∷ [])

pub may_join : (abort : Abort) (aborts : List Abort) → HasDistinctClasses aborts → has_class abort.class aborts ≡ false → MayJoin abort aborts
may_join abort aborts h absent = record { room_for = room abort aborts h absent; distinct = joined abort aborts h absent }
