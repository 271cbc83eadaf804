-- Aborts that were posted to a unit and have not landed: a list in the order in which they came, with at most one of a
-- class (this profile).
use Rattle.std.specs.Prelude.{◌≡◌, ◌==◌, ℕ, find, Bool, true, false, not, ◌||◌, ◌&&◌, if◌then◌else◌, List, [], ◌∷◌, ◌++◌, Option, Some, None}
use Rattle.std.specs.List.{list_any}
use Rattle.rtm_model.specs.Chains.{without_first}
use Rattle.rtm_model.specs.declared.abort.Abort.{Abort}
use Rattle.rtm_model.specs.declared.entry.Class.{Class}
use Rattle.rtm_model.specs.declared.entry.Class.TheVariants.{Cancel, Detach, Mother, Step, Abterm, Srb}
use Rattle.rtm_model.specs.declared.entry.Fate.{Fate}
use Rattle.rtm_model.specs.declared.entry.Fate.TheVariants.{Queued, Merged, Late}

abbrev pub is_same_class : Class → Class → Bool
is_same_class Cancel Cancel = true
is_same_class Detach Detach = true
is_same_class Mother Mother = true
is_same_class Step Step = true
is_same_class Abterm Abterm = true
is_same_class Srb Srb = true
is_same_class _ _ = false

abbrev pub is_of_class : Class → Abort → Bool
is_of_class class abort = is_same_class class abort.class

-- an abort of the class is pending
abbrev pub has_class : Class → List Abort → Bool
has_class class aborts = list_any (is_of_class class) aborts

-- what becomes of an abort that is posted: it is late where its target can't be aborted any more, and else merged into
-- one of its class that is pending, which stays as it is (this profile)
abbrev pub fate_of : Bool → Class → List Abort → Fate
fate_of late class aborts = if late then Late else if has_class class aborts then Merged else Queued

-- it stands last where it is queued
abbrev pub with_abort : Bool → Abort → List Abort → List Abort
with_abort late abort aborts = if late || has_class abort.class aborts then aborts else aborts ++ abort ∷ []

-- the abort that lands next: that which came first
abbrev pub first_abort : List Abort → Option Abort
first_abort [] = None
first_abort (abort ∷ later) = Some abort

-- the abort of that class that was posted at that entry
abbrev pub is_named : Class → ℕ → Abort → Bool
is_named class from abort = is_of_class class abort && (abort.from == from)

-- the pending abort of that name
abbrev pub abort_named : Class → ℕ → List Abort → Option Abort
abort_named class from aborts = find (is_named class from) aborts

-- it has landed
abbrev pub after_landing : Class → ℕ → List Abort → List Abort
after_landing class from aborts = without_first (is_named class from) aborts

-- no two aborts of a class are pending
abbrev pub HasDistinctClasses : List Abort → Type 0
HasDistinctClasses [] = Unit {0}
HasDistinctClasses (abort ∷ later) = (has_class abort.class later ≡ false) × HasDistinctClasses later

-- An abort may land in a unit that has not begun to end where no FRR of it lives, no bracket of it shields it (an
-- FRR's, one of a routine with CANCEL=NO, a manager's), no abort without retry has landed in it, and no error is open
-- in its innermost bracket (the points of interruption are this profile's)
abbrev pub is_interruptible : Bool → Bool → Bool → Bool → Bool
is_interruptible frr_lives shielded doomed error_open = not frr_lives && not shielded && not doomed && not error_open
