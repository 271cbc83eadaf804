-- The law of aborts, part by part.
use Rattle.std.proofs.Common.{◌≡◌, ℕ, ◌<◌, true, false, ◌&&◌, ◌||◌, List, [], ◌∷◌, take, Option, Some, refl, sym, ap, subst, arith, inl, inr, ◌⊎◌, ◌∙◌}
use Rattle.std.proofs.lemmas.Bool.{cases_lt, eq-eqb, lt-ltb, or_left, or_right}
use Rattle.std.proofs.lemmas.List.{take-take}
use Rattle.std.specs.List.{AllByRecursion, list_all}
use Rattle.std.specs.Option.{option_map_or}
use Rattle.std.specs.Prelude.{IsTrue, is_none, nat_lt, slice_get, ◌==◌}
use Rattle.rtm_deck_items.specs.View.{DeckView}
use Rattle.rtm_deck_items.specs.WellFormed.{is_well_formed}
use Rattle.rtm_model.specs.declared.abort.Abort.{Abort}
use Rattle.rtm_model.specs.declared.entry.Class.{Class}
use Rattle.rtm_model.specs.declared.entry.Class.TheVariants as classes
use Rattle.rtm_model.specs.declared.entry.Entry.{Entry}
use Rattle.rtm_model.specs.declared.entry.What.{What}
use Rattle.rtm_model.specs.declared.entry.What.TheVariants as whats
use Rattle.rtm_model.specs.declared.mark.Mark.{Mark}
use Rattle.rtm_model.specs.AbortLaw.{IsLanding, IsRetry, MayLand, comes_first, is_abort_of, is_first, is_queued_at, queues}
use Rattle.rtm_model.specs.Aborts.{first_abort, is_of_class, is_same_class}
use Rattle.rtm_model.specs.Advance.{world}
use Rattle.rtm_model.specs.Cards.{has_frr}
use Rattle.rtm_model.specs.Entries.{ForbidsRetry, dooms, forbids_retry}
use Rattle.rtm_model.specs.Legal.{Legal}
use Rattle.rtm_model.specs.Levels.{error_here, shielded}
use Rattle.rtm_model.specs.Moments.{IsWhat}
use Rattle.rtm_model.specs.NextEntry.{interruptible}
use Rattle.rtm_model.specs.World.{Core, World, core_at}
use Rattle.rtm_model.proofs.Landing.{same_class}
use Rattle.rtm_law_births.specs.Aborts.{AreTheAborts, ComeInTurn, ComesBefore}
use Rattle.rtm_law_births.proofs.Living.{IsMade}
use Rattle.rtm_law_births.proofs.Sound.{sound_history}
use Rattle.rtm_law_births.proofs.Turns.{aborts_live}
use Rattle.rtm_law_sound.proofs.Histories.{prefix_legal}
use Rattle.rtm_law_landings.proofs.Appended.{any_from, at_shorter, front_length, front_made_last, same_taken}
use Rattle.rtm_law_landings.proofs.Clups.{doomed_no_retry, parts4}
use Rattle.rtm_law_landings.proofs.Doomed.{IsLanded, IsLandedAt, doomed_agree, forbids_taken, interrupts_agree, landed_at, lands_later}
use Rattle.rtm_law_landings.proofs.Nexts.{IsInterruption, IsMasters, IsUnits, next_is, pending_in}
use Rattle.rtm_law_landings.proofs.Posted.{IsPosted, queued_at}

-- the first comes before all of a list that stands in turn
self_first : (a : Abort) → comes_first a.class a.from a ≡ true
self_first a =
    let named : ((a.from == a.from) && (is_of_class a.class a || is_same_class a.class classes.Srb)) ≡ true = rw (eq-eqb a.from a.from refl, same_class a.class) refl in
    or_right (nat_lt a.from a.from) _ named

-- at one entry that of an SRB's error comes before any other
one_after : (a b : Abort) → ComesBefore a b → comes_first a.class a.from b ≡ true
one_after a b (inl less) = or_left _ _ (lt-ltb a.from b.from less)
one_after a b (inr same) =
    let srb : is_same_class a.class classes.Srb ≡ true = ap (λ (c : Class). is_same_class c classes.Srb) same.1 in
    let at : (a.from == b.from) ≡ true = eq-eqb a.from b.from same.0 in
    let either : ((a.from == b.from) && (is_of_class a.class b || is_same_class a.class classes.Srb)) ≡ true = rw (at, srb) (or_right (is_of_class a.class b) true refl) in
    or_right (nat_lt a.from b.from) _ either

all_after : (a : Abort) (later : List Abort) → AllByRecursion (ComesBefore a) later → list_all (comes_first a.class a.from) later ≡ true
all_after a [] h = refl
all_after a (b ∷ later) h = rw (one_after a b h.0) (all_after a later h.1)

first_own : (b : Abort) (later : List Abort) → ComeInTurn (b ∷ later) → is_first b.class b.from (b ∷ later) ≡ true
first_own b later turn =
    let named : is_abort_of b.class b.from b ≡ true = rw (same_class b.class, eq-eqb b.from b.from refl) refl in
    rw (named, self_first b, all_after b later turn.0) refl

first_by : (p : List Abort) (a : Abort) (class : Class) (from : ℕ) → first_abort p ≡ Some a → a.class ≡ class → a.from ≡ from → ComeInTurn p → is_first class from p ≡ true
first_by [] a class from e c f turn = absurd cc
first_by (b ∷ later) a class from e c f turn =
    let same : b ≡ a = cc in
    subst (λ (k : ℕ). is_first class k (b ∷ later) ≡ true) f (subst (λ (k : Class). is_first k a.from (b ∷ later) ≡ true) c
    (subst (λ (x : Abort). is_first x.class x.from (b ∷ later) ≡ true) same (first_own b later turn)))

moved_by : (d : DeckView) (h front : List Entry) (from : ℕ) (class : Class) (u : ℕ) → slice_get front from ≡ slice_get h from → take from front ≡ take from h → is_queued_at d front from class u ≡ true → is_queued_at d h from class u ≡ true
moved_by d h front from class u there taken e =
    subst (λ (o : Option Entry). option_map_or (λ (e : Entry). queues d (take from h) e.unit e.what class u) o false ≡ true) there
    (subst (λ (es : List Entry). option_map_or (λ (e : Entry). queues d es e.unit e.what class u) (slice_get front from) false ≡ true) taken e)

-- a LAND is of a unit of the deck that can be interrupted
pub landing_units : (d : DeckView) (w : World) (u : ℕ) (class : Class) (from : ℕ) (mark : Mark) → IsUnits d w u (whats.Land class from mark) ⊎ IsMasters d w u (whats.Land class from mark)
    → IsUnits d w u (whats.Land class from mark) × (interruptible (core_at u w) ≡ true)
landing_units d w u class from mark (inl units) = elim units.timely as (λ _. IsUnits d w u (whats.Land class from mark) × (interruptible (core_at u w) ≡ true)) [
  | inl lands ↦ (units, IsInterruption.can lands)
  | inr other ↦ let clash : true ≡ false = other.other in absurd cc
]
landing_units d w u class from mark (inr masters) = let clash : true ≡ false = masters.other in absurd cc

module _ (d : DeckView) (h : List Entry) (deck : IsTrue (is_well_formed d)) (legal : Legal d h) where
  land_is : (i u : ℕ) (class : Class) (from : ℕ) (mark : Mark) → IsWhat h i u (whats.Land class from mark) → IsLandedAt d (take i h) u class from mark
  land_is i u class from mark at = landed_at d (take i h) deck (prefix_legal d h i legal) u class from mark (front_made_last d h deck legal i _ at)

  -- a LAND names an earlier entry, which has queued its abort
  pub land_later : (i u : ℕ) (class : Class) (from : ℕ) (mark : Mark) → IsWhat h i u (whats.Land class from mark) → from < i
  land_later i u class from mark at = lands_later d h deck legal i u class from mark at

  pub land_queued : (i u : ℕ) (class : Class) (from : ℕ) (mark : Mark) → IsWhat h i u (whats.Land class from mark) → IsTrue (is_queued_at d h from class u)
  land_queued i u class from mark at =
      let is = land_is i u class from mark at in
      let first = IsLandedAt.landed is in
      let a : Abort = IsLanded.first first in
      let front : List Entry = take i h in
      let one = queued_at d front u a (IsLandedAt.posted is) in
      let two : is_queued_at d front from class u ≡ true =
      subst (λ (k : ℕ). is_queued_at d front k class u ≡ true) (IsLanded.from_is first) (subst (λ (c : Class). is_queued_at d front a.from c u ≡ true) (IsLanded.class_is first) one) in
      let there : slice_get front from ≡ slice_get h from = same_taken h i from (land_later i u class from mark at) in
      let taken : take from front ≡ take from h = take-take from i h (omega (arith, land_later i u class from mark at)) in
      moved_by d h front from class u there taken two

  -- it shows CLUP exactly where its abort forbids retry
  pub land_shows : (i u : ℕ) (class : Class) (from : ℕ) (mark : Mark) → IsWhat h i u (whats.Land class from mark) → mark.clup ≡ forbids_retry d h class from
  land_shows i u class from mark at =
      IsLandedAt.clup (land_is i u class from mark at) ∙ forbids_taken d h i class from (land_later i u class from mark at)

  -- it lands where the unit may be interrupted, and is the first that is pending
  pub land_lands : (i u : ℕ) (class : Class) (from : ℕ) (mark : Mark) → IsWhat h i u (whats.Land class from mark) → MayLand d h i u class from
  land_lands i u class from mark at =
      let made = front_made_last d h deck legal i _ at in
      let w : World = world d (take i h) in
      let units = landing_units d w u class from mark (next_is d w u (whats.Land class from mark) made.may) in
      let first = IsLandedAt.landed (land_is i u class from mark at) in
      let front_legal = prefix_legal d h i legal in
      let turn = AreTheAborts.order (aborts_live d (take i h) (sound_history d (take i h) deck front_legal) front_legal) u in
      record {
        lives = IsUnits.lives units.0;
        interrupts = interrupts_agree d h deck legal i u ∙ units.1;
        first = first_by (pending_in w u) (IsLanded.first first) class from (IsLanded.is_first first) (IsLanded.class_is first) (IsLanded.from_is first) turn;
      }

  -- after a LAND that forbids retry the unit is doomed
  pub doomed_from : (i j u : ℕ) (class : Class) (from : ℕ) (mark : Mark) → IsWhat h i u (whats.Land class from mark) → ForbidsRetry d h class from → i < j
      → Core.doomed (core_at u (world d (take j h))) ≡ true
  doomed_from i j u class from mark at forbids less =
      let later = land_later i u class from mark at in
      let same : forbids_retry d (take j h) class from ≡ true = forbids_taken d h j class from (omega (arith, later, less)) ∙ forbids in
      let test : ((u == u) && dooms d (take j h) (whats.Land class from mark)) ≡ true = rw (eq-eqb u u refl, same) refl in
      doomed_agree d (take j h) deck (prefix_legal d h j legal) u
      ∙ any_from (λ (e : Entry). (e.unit == u) && dooms d (take j h) e.what) (take j h) i (record { unit = u; what = whats.Land class from mark }) (at_shorter h j i _ less at) test

  no_landing : (j u : ℕ) (what : What) → IsWhat h j u what → Core.doomed (core_at u (world d (take j h))) ≡ true → IsLanding what → ⊥
  no_landing j u (whats.Land class from mark) at doomed lands =
      let w : World = world d (take j h) in
      let c : Core = core_at u w in
      let units = landing_units d w u class from mark (next_is d w u (whats.Land class from mark) (IsMade.may (front_made_last d h deck legal j _ at))) in
      let free = parts4 (is_none c.begun) (has_frr c.frrs) (shielded c.levels) c.doomed (error_here c.levels) units.1 in
      let clash : false ≡ true = sym free.1 ∙ doomed in
      absurd cc
  no_landing j u _ at doomed lands = absurd lands

  no_retry : (j u : ℕ) (what : What) → IsWhat h j u what → Core.doomed (core_at u (world d (take j h))) ≡ true → IsRetry what → ⊥
  no_retry j u (whats.Leave kind born verdict logrec dump) at doomed retries =
      let none = doomed_no_retry d (take j h) deck (prefix_legal d h j legal) u kind born verdict logrec dump (front_made_last d h deck legal j _ at) doomed in
      let clash : false ≡ true = sym none ∙ retries in
      absurd cc
  no_retry j u _ at doomed retries = absurd retries

  pub land_last : (i j u : ℕ) (class : Class) (from : ℕ) (mark : Mark) (what : What) → IsWhat h i u (whats.Land class from mark) → ForbidsRetry d h class from → i < j → IsWhat h j u what
      → (IsLanding what → ⊥) × (IsRetry what → ⊥)
  land_last i j u class from mark what at forbids less then =
      let doomed = doomed_from i j u class from mark at forbids less in
      (no_landing j u what then doomed, no_retry j u what then doomed)

  -- no other names the same
  no_second : (i j u : ℕ) (class : Class) (from : ℕ) (mark other : Mark) → IsWhat h i u (whats.Land class from mark) → IsWhat h j u (whats.Land class from other) → i < j → ⊥
  no_second i j u class from mark other at then less =
      let is = land_is j u class from other then in
      let first = IsLandedAt.landed is in
      let a : Abort = IsLanded.first first in
      let since = IsPosted.since (IsLandedAt.posted is) in
      let later = land_later i u class from mark at in
      since.survives i (record { unit = u; what = whats.Land class from mark }) (omega (arith, later, IsLanded.from_is first)) (omega (arith, less, front_length h j _ then))
      (at_shorter h j i _ less at) (refl, sym (IsLanded.class_is first), sym (IsLanded.from_is first))

  pub land_once : (i j u : ℕ) (class : Class) (from : ℕ) (mark other : Mark) → IsWhat h i u (whats.Land class from mark) → IsWhat h j u (whats.Land class from other) → i ≡ j
  land_once i j u class from mark other at then = elim (cases_lt i j) [
    | inl less ↦ absurd (no_second i j u class from mark other at then less)
    | inr more ↦ elim (cases_lt j i) [
      | inl less ↦ absurd (no_second j i u class from other mark then at less)
      | inr back ↦ omega (arith, more, back)
    ]
  ]
