-- A unit is doomed where an abort that forbids retry has landed in it, by entries and by what lives.
use Rattle.std.proofs.Common.{◌≡◌, ℕ, ◌<◌, Bool, true, false, not, ◌&&◌, ◌||◌, List, [], ◌∷◌, ◌++◌, length, take, Option, Some, None, refl, sym, ap, subst, arith, inl, inr, ◌∙◌}
use Rattle.std.proofs.lemmas.Bool.{eq-eqb, ne_eqb}
use Rattle.std.proofs.lemmas.List.Folds.{list_any-append}
use Rattle.std.specs.List.{list_any}
use Rattle.std.specs.Option.{option_and_then}
use Rattle.std.specs.Prelude.{IsSomeAnd, IsTrue, is_none, is_some, ◌==◌}
use Rattle.rtm_deck_items.specs.Reading.{op_at}
use Rattle.rtm_deck_items.specs.View.{DeckView}
use Rattle.rtm_deck_items.specs.WellFormed.{is_well_formed}
use Rattle.rtm_deck_items.specs.declared.op.Op.{Op}
use Rattle.rtm_deck_items.specs.declared.op.Op.TheVariants as ops
use Rattle.rtm_model.specs.declared.abort.Abort.{Abort}
use Rattle.rtm_model.specs.declared.block.Place.{Place}
use Rattle.rtm_model.specs.declared.entry.Class.{Class}
use Rattle.rtm_model.specs.declared.entry.Entry.{Entry}
use Rattle.rtm_model.specs.declared.entry.Verdict.{Verdict}
use Rattle.rtm_model.specs.declared.entry.Verdict.TheVariants.{Retry}
use Rattle.rtm_model.specs.declared.entry.What.{What}
use Rattle.rtm_model.specs.declared.entry.What.TheVariants as whats
use Rattle.rtm_model.specs.declared.mark.Mark.{Mark}
use Rattle.rtm_model.specs.declared.reg.Reg.{Reg}
use Rattle.rtm_model.specs.AbortLaw.{may_interrupt}
use Rattle.rtm_model.specs.Aborts.{abort_named, first_abort}
use Rattle.rtm_model.specs.Advance.{advance, world}
use Rattle.rtm_model.specs.Cards.{has_frr}
use Rattle.rtm_model.specs.Entries.{class_forbids_retry, dooms, executed_op, forbids_retry, has_begun, is_doomed, is_held_off, open_error}
use Rattle.rtm_model.specs.Legal.{Legal}
use Rattle.rtm_model.specs.Levels.{current, error_here, shielded}
use Rattle.rtm_model.specs.Moments.{IsAt, IsIn}
use Rattle.rtm_model.specs.NextEntry.{interruptible, landed_record}
use Rattle.rtm_model.specs.OwnChange.{after_retry, own_card, own_entry, place_after, routine_named, with_landed, with_routine_entered}
use Rattle.rtm_model.specs.Record.{mark_of}
use Rattle.rtm_model.specs.World.{Core, World, core_at}
use Rattle.rtm_model.proofs.Landing.{named_first}
use Rattle.rtm_law_births.proofs.Living.{IsMade}
use Rattle.rtm_law_sound.proofs.Histories.{prefix_legal, world-append, world-nil}
use Rattle.rtm_law_landings.proofs.Appended.{any_same, below, front_length, front_made_last, holds_of, same_below, same_taken}
use Rattle.rtm_law_landings.proofs.Booleans.{not-not, or-false}
use Rattle.rtm_law_landings.proofs.Changes.{IsOthers, at_start, begun_agree, core_after}
use Rattle.rtm_law_landings.proofs.Nexts.{pending_in}
use Rattle.rtm_law_landings.proofs.OpenBrackets.{error_agree, held_agree}
use Rattle.rtm_law_landings.proofs.Posted.{IsPosted, posted}

-- the first of a list is in it
first_in : (p : List Abort) (a : Abort) → first_abort p ≡ Some a → IsIn a p
first_in [] a e = absurd cc
first_in (b ∷ later) a e = let same : b ≡ a = cc in inl (sym same)

-- The first pending abort of a unit, which has the name that a LAND gives, and what its record shows

pub record IsLanded (p : List Abort) (class : Class) (from : ℕ) (mark : Mark) : Type 0 where
  pub first : Abort
  pub is_first : first_abort p ≡ Some first
  pub class_is : first.class ≡ class
  pub from_is : first.from ≡ from
  pub mark_is : mark ≡ mark_of (landed_record first)
  pub there : IsIn first p
  pub named : abort_named class from p ≡ Some first

landed_by : (p : List Abort) (class : Class) (from : ℕ) (mark : Mark) (o : Option Abort) → first_abort p ≡ o
    → IsSomeAnd o (λ abort. (abort.class ≡ class) × (abort.from ≡ from) × (mark ≡ mark_of (landed_record abort)))
    → IsSomeAnd (first_abort p) (λ abort. (abort.class ≡ class) × (abort.from ≡ from) × (mark ≡ mark_of (landed_record abort))) → IsLanded p class from mark
landed_by p class from mark None e h all = absurd h
landed_by p class from mark (Some abort) e h all = record {
  first = abort;
  is_first = e;
  class_is = h.0;
  from_is = h.1;
  mark_is = h.2;
  there = first_in p abort e;
  named = named_first class from (λ first. mark ≡ mark_of (landed_record first)) p all ∙ e;
}

pub landed : (d : DeckView) (w : World) (n u : ℕ) (class : Class) (from : ℕ) (mark : Mark) → IsMade d w n (record { unit = u; what = whats.Land class from mark }) → IsLanded (pending_in w u) class from mark
landed d w n u class from mark m = landed_by (pending_in w u) class from mark (first_abort (pending_in w u)) refl m.can.what.2 m.can.what.2

-- what a LAND that may follow says of entries: it is of an earlier one, which forbids retry where the abort does
pub record IsLandedAt (d : DeckView) (h : List Entry) (u : ℕ) (class : Class) (from : ℕ) (mark : Mark) : Type 0 where
  pub landed : IsLanded (pending_in (world d h) u) class from mark
  pub posted : IsPosted d h u (IsLanded.first landed)
  pub below : from < length h
  pub retry : Abort.retry (IsLanded.first landed) ≡ not (forbids_retry d h class from)
  pub clup : mark.clup ≡ forbids_retry d h class from

pub landed_at : (d : DeckView) (h : List Entry) → IsTrue (is_well_formed d) → Legal d h → (u : ℕ) (class : Class) (from : ℕ) (mark : Mark)
    → IsMade d (world d h) (length h) (record { unit = u; what = whats.Land class from mark }) → IsLandedAt d h u class from mark
landed_at d h deck legal u class from mark m =
    let is = landed d (world d h) (length h) u class from mark m in
    let by = posted d h deck legal u is.first is.there in
    let retry : Abort.retry is.first ≡ not (forbids_retry d h class from) = subst (λ (c : Class). Abort.retry is.first ≡ not (forbids_retry d h c from)) is.class_is
    (subst (λ (k : ℕ). Abort.retry is.first ≡ not (forbids_retry d h (Abort.class is.first) k)) is.from_is (IsPosted.retry by)) in
    record {
      landed = is;
      posted = by;
      below = omega (arith, is.from_is, IsPosted.below by);
      retry = retry;
      clup = ap Mark.clup is.mark_is ∙ ap not retry ∙ not-not (forbids_retry d h class from);
    }

-- Doomed units

-- the entry dooms its unit
abbrev dooms_now : DeckView → List Entry → ℕ → ℕ → What → Bool
dooms_now d h v u what = (u == v) && dooms d h what

retried_doomed : (verdict : Verdict) (o : Option Reg) (c : Core) → Core.doomed (after_retry verdict o c) ≡ c.doomed
retried_doomed (Retry place) None c = refl
retried_doomed (Retry place) (Some reg) c = refl
retried_doomed _ o c = refl

entered_doomed : (n : ℕ) (bare : Bool) (o : Option Reg) (c : Core) → Core.doomed (with_routine_entered n bare o c) ≡ c.doomed
entered_doomed n bare None c = refl
entered_doomed n bare (Some reg) c = refl

card_doomed : (n : ℕ) (place : Place) (op : Op) (c : Core) → Core.doomed (own_card n place op c) ≡ c.doomed
card_doomed n place ops.Nop c = refl
card_doomed n place _ c = refl

stays_doomed : (b c : Bool) → c ≡ b → c ≡ (b || false)
stays_doomed b c e = e ∙ sym (or-false b)

others_doomed : (v : ℕ) (what : What) (after before : Core) → IsOthers v what after before → Core.doomed after ≡ before.doomed
others_doomed v what after before (inl left) = ap Core.doomed left.core
others_doomed v what after before (inr (inl born)) = ap Core.doomed born.core
others_doomed v what after before (inr (inr purged)) = ap Core.doomed purged.core

module _ (d : DeckView) (h : List Entry) (deck : IsTrue (is_well_formed d)) (legal : Legal d h) (u : ℕ) where
  landed_doomed : (class : Class) (from : ℕ) (mark : Mark) (c : Core) → IsLandedAt d h u class from mark → Core.doomed (with_landed (abort_named class from (pending_in (world d h) u)) c) ≡ (c.doomed || forbids_retry d h class from)
  landed_doomed class from mark c is =
      rw (IsLanded.named is.landed) (ap (λ (b : Bool). c.doomed || b) (ap not is.retry ∙ not-not (forbids_retry d h class from)))

  own_doomed : (what : What) → IsMade d (world d h) (length h) (record { unit = u; what = what })
      → Core.doomed (own_entry d (length h) (World.managers (world d h)) (pending_in (world d h) u) what (core_at u (world d h))) ≡ (Core.doomed (core_at u (world d h)) || dooms d h what)
  own_doomed (whats.Exec at rc) m = stays_doomed _ _ (card_doomed (length h) (place_after d at rc (op_at d at.prog at.op)) (op_at d at.prog at.op) (core_at u (world d h)))
  own_doomed (whats.Land class from mark) m = landed_doomed class from mark (core_at u (world d h)) (landed_at d h deck legal u class from mark m)
  own_doomed (whats.Enter kind born mark bare) m = stays_doomed _ _ (entered_doomed (length h) bare (routine_named kind born (World.managers (world d h)) (core_at u (world d h))) (core_at u (world d h)))
  own_doomed (whats.Leave kind born verdict logrec dump) m = stays_doomed _ _ (retried_doomed verdict (current (Core.levels (core_at u (world d h)))) _)
  own_doomed _ m = sym (or-false (Core.doomed (core_at u (world d h))))

  doomed_after : (v : ℕ) (what : What) → IsMade d (world d h) (length h) (record { unit = u; what = what })
      → Core.doomed (core_at v (advance d (world d h) (length h) (record { unit = u; what = what }))) ≡ (Core.doomed (core_at v (world d h)) || dooms_now d h v u what)
  doomed_after v what m =
      core_after d (world d h) (length h) u v what m (λ c. c.doomed ≡ (Core.doomed (core_at v (world d h)) || dooms_now d h v u what))
      (λ same stays. rw (same, eq-eqb u u refl) (own_doomed what m))
      (λ other after change. others_doomed v what after (core_at v (world d h)) change ∙ rw (ne_eqb u v (λ same. other (sym same))) (sym (or-false (Core.doomed (core_at v (world d h))))))

-- an entry of an earlier one forbids the same in a longer history
pub forbids_longer : (d : DeckView) (h : List Entry) (more : List Entry) (class : Class) (from : ℕ) → from < length h → forbids_retry d (h ++ more) class from ≡ forbids_retry d h class from
forbids_longer d h more class from within =
    ap (λ (o : Option Entry). class_forbids_retry class (option_and_then (λ (e : Entry). executed_op d e.what) o)) (same_below h from more within)

pub forbids_taken : (d : DeckView) (h : List Entry) (k : ℕ) (class : Class) (from : ℕ) → from < k → forbids_retry d (take k h) class from ≡ forbids_retry d h class from
forbids_taken d h k class from within =
    ap (λ (o : Option Entry). class_forbids_retry class (option_and_then (λ (e : Entry). executed_op d e.what) o)) (same_taken h k from within)

-- each LAND of the history is of an earlier entry
abbrev pub LandsLater : List Entry → Type 0
LandsLater h = (i : ℕ) (u : ℕ) (class : Class) (from : ℕ) (mark : Mark) → IsAt h i (record { unit = u; what = whats.Land class from mark }) → from < i

pub lands_later : (d : DeckView) (h : List Entry) → IsTrue (is_well_formed d) → Legal d h → LandsLater h
lands_later d h deck legal i u class from mark at =
    let is = landed_at d (take i h) deck (prefix_legal d h i legal) u class from mark (front_made_last d h deck legal i _ at) in
    omega (arith, IsLandedAt.below is, front_length h i _ at)

module _ (d : DeckView) (h : List Entry) (deck : IsTrue (is_well_formed d)) (legal : Legal d h) (e : Entry) (m : IsMade d (world d h) (length h) e) where
  dooms_longer : (i u : ℕ) (what : What) → IsAt h i (record { unit = u; what = what }) → dooms d (h ++ e ∷ []) what ≡ dooms d h what
  dooms_longer i u (whats.Land class from mark) at =
      forbids_longer d h (e ∷ []) class from (omega (arith, lands_later d h deck legal i u class from mark at, below h i _ at))
  dooms_longer i u _ at = refl

  dooms_last : (u : ℕ) (what : What) → IsMade d (world d h) (length h) (record { unit = u; what = what }) → dooms d (h ++ e ∷ []) what ≡ dooms d h what
  dooms_last u (whats.Land class from mark) made = forbids_longer d h (e ∷ []) class from (IsLandedAt.below (landed_at d h deck legal u class from mark made))
  dooms_last u _ made = refl

  doomed_keep : ((v : ℕ) → Core.doomed (core_at v (world d h)) ≡ is_doomed d v h) → (v : ℕ) → Core.doomed (core_at v (world d (h ++ e ∷ []))) ≡ is_doomed d v (h ++ e ∷ [])
  doomed_keep agree v =
      let longer : list_any (λ (x : Entry). (x.unit == v) && dooms d (h ++ e ∷ []) x.what) h ≡ is_doomed d v h =
      any_same _ _ h (λ i x at. ap (λ (b : Bool). (x.unit == v) && b) (dooms_longer i x.unit x.what at)) in
      ap (λ (w : World). Core.doomed (core_at v w)) (world-append d h e)
      ∙ doomed_after d h deck legal e.unit v e.what m
      ∙ ap (λ (b : Bool). b || dooms_now d h v e.unit e.what) (agree v ∙ sym longer)
      ∙ ap (λ (b : Bool). list_any (λ (x : Entry). (x.unit == v) && dooms d (h ++ e ∷ []) x.what) h || b)
      (ap (λ (b : Bool). (e.unit == v) && b) (sym (dooms_last e.unit e.what m)) ∙ sym (or-false ((e.unit == v) && dooms d (h ++ e ∷ []) e.what)))
      ∙ sym (list_any-append (λ (x : Entry). (x.unit == v) && dooms d (h ++ e ∷ []) x.what) h (e ∷ []))

abbrev pub DoomedAgree : DeckView → List Entry → Type 0
DoomedAgree d h = (v : ℕ) → Core.doomed (core_at v (world d h)) ≡ is_doomed d v h

pub doomed_agree : (d : DeckView) (h : List Entry) → IsTrue (is_well_formed d) → Legal d h → DoomedAgree d h
doomed_agree d h deck legal =
    holds_of d deck (DoomedAgree d)
    (λ v. ap (λ (w : World). Core.doomed (core_at v w)) (world-nil d) ∙ at_start d Bool (λ c. c.doomed) (λ birth prog estais c. refl) v)
    (λ front e before m agree. doomed_keep d front deck before e m agree) h legal

-- Where the unit may be interrupted

joined : (a b c e f : Bool) → (a && b && c && e && f) ≡ (a && (c && e && b && f))
joined false b c e f = refl
joined true true true true f = refl
joined true true true false f = refl
joined true true false e f = refl
joined true false true true f = refl
joined true false true false f = refl
joined true false false e f = refl

none_not : {A : Type 0} (o : Option A) → is_none o ≡ not (is_some o)
none_not None = refl
none_not (Some x) = refl

pub interrupts_agree : (d : DeckView) (h : List Entry) → IsTrue (is_well_formed d) → Legal d h → (i u : ℕ) → may_interrupt d h i u ≡ interruptible (core_at u (world d (take i h)))
interrupts_agree d h deck legal i u =
    let front : List Entry = take i h in
    let before : Legal d front = prefix_legal d h i legal in
    let c : Core = core_at u (world d front) in
    let begun : not (has_begun u front) ≡ is_none c.begun = ap not (sym (begun_agree d front deck before u)) ∙ sym (none_not c.begun) in
    let error : is_none (open_error u front) ≡ not (error_here c.levels) = none_not (open_error u front) ∙ ap not (sym (error_agree d front deck before u)) in
    let doomed : is_doomed d u front ≡ c.doomed = sym (doomed_agree d front deck before u) in
    let held : is_held_off d u front ≡ shielded c.levels = sym (held_agree d front deck before u) in
    rw (begun, error, doomed, held) (joined (is_none c.begun) (not c.doomed) (not (has_frr c.frrs)) (not (shielded c.levels)) (not (error_here c.levels)))
