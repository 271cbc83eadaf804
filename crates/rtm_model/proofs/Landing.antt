-- The abort that lands is the first that is pending, where that one has the name which the entry gives.
use Rattle.std.proofs.Common.{◌≡◌, ℕ, true, List, [], ◌∷◌, refl, sym, subst}
use Rattle.std.specs.Prelude.{IsSomeAnd, ◌==◌}
use Rattle.std.proofs.lemmas.Bool.{eq-eqb}
use Rattle.rtm_model.specs.declared.abort.Abort.{Abort}
use Rattle.rtm_model.specs.declared.entry.Class.{Class}
use Rattle.rtm_model.specs.declared.entry.Class.TheVariants.{Abterm, Cancel, Detach, Mother, Srb, Step}
use Rattle.rtm_model.specs.Aborts.{abort_named, after_landing, first_abort, is_named, is_same_class}
use Rattle.rtm_model.specs.Blocks.{without_newest}

pub same_class : (class : Class) → is_same_class class class ≡ true
same_class Cancel = refl
same_class Detach = refl
same_class Mother = refl
same_class Step = refl
same_class Abterm = refl
same_class Srb = refl

-- it passes the test of its own name
pub own_name : (class : Class) (from : ℕ) (abort : Abort) → abort.class ≡ class → abort.from ≡ from → is_named class from abort ≡ true
own_name class from abort h i =
    let same : is_same_class class abort.class ≡ true = subst (λ (c : Class). is_same_class class c ≡ true) (sym h) (same_class class) in
    let at : (abort.from == from) ≡ true = eq-eqb abort.from from i in
    rw same at

-- that the first pending abort has that name, and whatever else
abbrev pub IsFirst : Class → ℕ → (Abort → Type 0) → List Abort → Type 0
IsFirst class from Q aborts = IsSomeAnd (first_abort aborts) (λ abort. (abort.class ≡ class) × (abort.from ≡ from) × Q abort)

-- it is the one that lands
pub named_first : (class : Class) (from : ℕ) (Q : Abort → Type 0) (aborts : List Abort) → IsFirst class from Q aborts → abort_named class from aborts ≡ first_abort aborts
named_first class from Q [] h = refl
named_first class from Q (abort ∷ later) h = rw (own_name class from abort h.0 h.1) refl

-- and those behind it are left
pub behind_first : (class : Class) (from : ℕ) (Q : Abort → Type 0) (aborts : List Abort) → IsFirst class from Q aborts → after_landing class from aborts ≡ without_newest aborts
behind_first class from Q [] h = refl
behind_first class from Q (abort ∷ later) h = rw (own_name class from abort h.0 h.1) refl
