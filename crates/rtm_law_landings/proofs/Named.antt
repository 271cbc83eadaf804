-- Aborts of a list by their names, each a class and the entry that posted it.
use Rattle.std.proofs.Common.{◌≡◌, ℕ, Bool, true, false, ◌&&◌, ◌||◌, List, [], ◌∷◌, Some, refl, sym, ap, subst, arith, inl, inr, ◌⊎◌, ◌∙◌}
use Rattle.std.proofs.lemmas.Bool.{and_from, and_parts, eq-eqb, eqb-true, ltb-true, or_right}
use Rattle.std.specs.List.{list_all, list_any}
use Rattle.std.specs.Prelude.{nat_lt, ◌==◌}
use Rattle.rtm_model.specs.declared.abort.Abort.{Abort}
use Rattle.rtm_model.specs.declared.entry.Class.{Class}
use Rattle.rtm_model.specs.declared.entry.Class.TheVariants as classes
use Rattle.rtm_model.specs.AbortLaw.{comes_first, is_abort_of, is_first}
use Rattle.rtm_model.specs.Aborts.{first_abort, has_class, is_of_class, is_same_class}
use Rattle.rtm_model.specs.Moments.{IsIn}
use Rattle.rtm_model.proofs.Landing.{same_class}
use Rattle.rtm_law_births.specs.Aborts.{ComeInTurn, ComesBefore}
use Rattle.rtm_law_births.proofs.Lists.{all_in}
use Rattle.rtm_law_landings.proofs.Booleans.{either_of}

pub same_is : (a b : Class) → is_same_class a b ≡ true → a ≡ b
same_is classes.Cancel classes.Cancel h = refl
same_is classes.Detach classes.Detach h = refl
same_is classes.Mother classes.Mother h = refl
same_is classes.Step classes.Step h = refl
same_is classes.Abterm classes.Abterm h = refl
same_is classes.Srb classes.Srb h = refl
same_is _ _ h = absurd cc

-- an abort of a list that has the name, and back
abbrev pub Named : Class → ℕ → List Abort → Type 0
Named class from p = (a : Abort) × IsIn a p × (class ≡ a.class) × (a.from ≡ from)

named_if : (class : Class) (from : ℕ) (b : Abort) (p : List Abort) → (list_any (is_abort_of class from) p ≡ true → Named class from p) → (t : Bool) → is_abort_of class from b ≡ t → (t || list_any (is_abort_of class from) p) ≡ true → Named class from (b ∷ p)
named_if class from b p behind true e h =
    let parts = and_parts (is_same_class class b.class) (b.from == from) e in
    (b, inl refl, same_is class b.class parts.0, eqb-true b.from from parts.1)
named_if class from b p behind false e h = let more = behind h in (more.0, inr more.1, more.2, more.3)

pub named_of : (class : Class) (from : ℕ) (p : List Abort) → list_any (is_abort_of class from) p ≡ true → Named class from p
named_of class from [] h = absurd cc
named_of class from (b ∷ p) h = named_if class from b p (named_of class from p) (is_abort_of class from b) refl h

named_any : (a : Abort) (p : List Abort) → IsIn a p → list_any (is_abort_of a.class a.from) p ≡ true
named_any a [] h = absurd h
named_any a (b ∷ p) (inl same) =
    let own : is_abort_of a.class a.from a ≡ true = rw (same_class a.class, eq-eqb a.from a.from refl) refl in
    let here : is_abort_of a.class a.from b ≡ true = subst (λ (x : Abort). is_abort_of a.class a.from x ≡ true) same own in
    ap (λ (t : Bool). t || list_any (is_abort_of a.class a.from) p) here
named_any a (b ∷ p) (inr more) = or_right (is_abort_of a.class a.from b) _ (named_any a p more)

pub named_in : (class : Class) (from : ℕ) (a : Abort) (p : List Abort) → a.class ≡ class → a.from ≡ from → IsIn a p → list_any (is_abort_of class from) p ≡ true
named_in class from a p class_is from_is there =
    subst (λ (c : Class). list_any (is_abort_of c from) p ≡ true) class_is (subst (λ (k : ℕ). list_any (is_abort_of a.class k) p ≡ true) from_is (named_any a p there))

-- an abort of that class
class_if : (class : Class) (b : Abort) (p : List Abort) → (has_class class p ≡ true → (a : Abort) × IsIn a p × (class ≡ a.class)) → (t : Bool) → is_of_class class b ≡ t → (t || has_class class p) ≡ true
    → (a : Abort) × IsIn a (b ∷ p) × (class ≡ a.class)
class_if class b p behind true e h = (b, inl refl, same_is class b.class e)
class_if class b p behind false e h = let more = behind h in (more.0, inr more.1, more.2)

pub class_in : (class : Class) (p : List Abort) → has_class class p ≡ true → (a : Abort) × IsIn a p × (class ≡ a.class)
class_in class [] h = absurd cc
class_in class (b ∷ p) h = class_if class b p (class_in class p) (is_of_class class b) refl h

-- a test of each abort of a list
pub each_passes : (test : Abort → Bool) (p : List Abort) → ((a : Abort) → IsIn a p → test a ≡ true) → list_all test p ≡ true
each_passes test [] h = refl
each_passes test (b ∷ p) h = and_from (test b) (list_all test p) (h b (inl refl)) (each_passes test p (λ a there. h a (inr there)))

pub passes_each : (test : Abort → Bool) (p : List Abort) → list_all test p ≡ true → (a : Abort) → IsIn a p → test a ≡ true
passes_each test [] h a there = absurd there
passes_each test (b ∷ p) h a (inl same) = subst (λ (x : Abort). test x ≡ true) (sym same) (and_parts (test b) (list_all test p) h).0
passes_each test (b ∷ p) h a (inr there) = passes_each test p (and_parts (test b) (list_all test p) h).1 a there

-- of a list that stands in turn the one that comes before all others is the first
after_srb : (class : Class) (a b : Abort) → class ≡ a.class → b.class ≡ classes.Srb → a.class ≡ classes.Step → (is_of_class class b || is_same_class class classes.Srb) ≡ true → ⊥
after_srb class a b class_is srb step e =
    let one : (is_same_class class classes.Srb || is_same_class class classes.Srb) ≡ true = subst (λ (c : Class). (is_same_class class c || is_same_class class classes.Srb) ≡ true) srb e in
    let two : (is_same_class classes.Step classes.Srb || is_same_class classes.Step classes.Srb) ≡ true =
    subst (λ (c : Class). (is_same_class c classes.Srb || is_same_class c classes.Srb) ≡ true) (class_is ∙ step) one in
    cc

not_behind : (class : Class) (from : ℕ) (a b : Abort) → class ≡ a.class → a.from ≡ from → ComesBefore b a → (nat_lt from b.from ≡ true) ⊎ (((from == b.from) && (is_of_class class b || is_same_class class classes.Srb)) ≡ true) → ⊥
not_behind class from a b class_is from_is (inl less) (inl later) = omega (arith, less, from_is, ltb-true from b.from later)
not_behind class from a b class_is from_is (inr same) (inl later) = omega (arith, same.0, from_is, ltb-true from b.from later)
not_behind class from a b class_is from_is (inl less) (inr here) =
    let at : from ≡ b.from = eqb-true from b.from (and_parts _ _ here).0 in
    omega (arith, less, from_is, at)
not_behind class from a b class_is from_is (inr same) (inr here) =
    after_srb class a b class_is same.1 same.2 (and_parts (from == b.from) (is_of_class class b || is_same_class class classes.Srb) here).1

-- the first abort of the list has that name
pub record HasFirst (class : Class) (from : ℕ) (p : List Abort) : Type 0 where
  pub first : Abort
  pub is_first : first_abort p ≡ Some first
  pub class_is : first.class ≡ class
  pub from_is : first.from ≡ from

first_if : (class : Class) (from : ℕ) (b : Abort) (later : List Abort) → ComeInTurn (b ∷ later) → comes_first class from b ≡ true → (a : Abort) → IsIn a (b ∷ later) → class ≡ a.class → a.from ≡ from → HasFirst class from (b ∷ later)
first_if class from b later turn before a (inl same) class_is from_is = record {
  first = b;
  is_first = refl;
  class_is = sym (class_is ∙ ap Abort.class same);
  from_is = sym (ap Abort.from same) ∙ from_is;
}
first_if class from b later turn before a (inr more) class_is from_is =
    absurd (not_behind class from a b class_is from_is (all_in (ComesBefore b) later turn.0 a more) (either_of (nat_lt from b.from) _ before))

pub first_is : (class : Class) (from : ℕ) (p : List Abort) → ComeInTurn p → is_first class from p ≡ true → HasFirst class from p
first_is class from [] turn h = absurd cc
first_is class from (b ∷ later) turn h =
    let parts = and_parts (list_any (is_abort_of class from) (b ∷ later)) (list_all (comes_first class from) (b ∷ later)) h in
    let one = named_of class from (b ∷ later) parts.0 in
    first_if class from b later turn (and_parts (comes_first class from b) (list_all (comes_first class from) later) parts.1).0 one.0 one.1 one.2 one.3
