-- In a doomed unit no routine is retried: the newest of its open errors has CLUP.
use Rattle.std.proofs.Common.{◌≡◌, ℕ, Bool, true, false, not, ◌&&◌, ◌||◌, List, [], ◌∷◌, ◌++◌, length, Option, Some, None, refl, sym, ap, subst, inl, inr, ◌⊎◌, ◌∙◌}
use Rattle.std.proofs.lemmas.Bool.{or_parts}
use Rattle.std.specs.Option.{option_map}
use Rattle.std.specs.Prelude.{IsSomeAnd, IsTrue, if◌then◌else◌, is_none, is_some, ◌==◌}
use Rattle.rtm_deck_items.specs.Reading.{op_at}
use Rattle.rtm_deck_items.specs.View.{DeckView}
use Rattle.rtm_deck_items.specs.WellFormed.{is_well_formed}
use Rattle.rtm_deck_items.specs.declared.op.Op.{Op}
use Rattle.rtm_deck_items.specs.declared.op.Op.TheVariants as ops
use Rattle.rtm_model.specs.declared.abort.Abort.{Abort}
use Rattle.rtm_model.specs.declared.block.Place.{Place}
use Rattle.rtm_model.specs.declared.entry.Class.{Class}
use Rattle.rtm_model.specs.declared.entry.Entry.{Entry}
use Rattle.rtm_model.specs.declared.entry.Verdict.{Verdict}
use Rattle.rtm_model.specs.declared.entry.Verdict.TheVariants.{Bad, Fail, Over, Perc, Retry, Stop}
use Rattle.rtm_model.specs.declared.entry.What.{What}
use Rattle.rtm_model.specs.declared.entry.What.TheVariants as whats
use Rattle.rtm_model.specs.declared.error_record.ErrorRecord.{ErrorRecord}
use Rattle.rtm_model.specs.declared.error_record.RecordFlags.{RecordFlags}
use Rattle.rtm_model.specs.declared.mark.Mark.{Mark}
use Rattle.rtm_model.specs.declared.reg.Kind.{Kind}
use Rattle.rtm_model.specs.declared.reg.Kind.TheVariants.{Estae, Estai, Frr, Mgr}
use Rattle.rtm_model.specs.declared.reg.Reg.{Reg}
use Rattle.rtm_model.specs.Aborts.{abort_named, is_interruptible}
use Rattle.rtm_model.specs.Advance.{world}
use Rattle.rtm_model.specs.Cards.{has_frr, manages}
use Rattle.rtm_model.specs.Legal.{Legal}
use Rattle.rtm_model.specs.Levels.{Bracket, after_inner_failure, after_leave, after_verdict, at_enclosing, at_innermost, current, error_here, error_in, is_frr, is_manager, is_recovery, on_record, outermost_alone, record_in, recovers, shielded, shields, verdict_in, verdict_of_routine, with_open}
use Rattle.rtm_model.specs.NextEntry.{interruptible, is_retry, landed_record}
use Rattle.rtm_model.specs.OwnChange.{after_retry, error_record, is_gone_after, own_card, own_entry, place_after, routine_named, with_bracket_closed, with_landed, with_routine_entered, without_routine}
use Rattle.rtm_model.specs.Record.{after_percolation, inner_failed, is_estai, ret15_in, retry_place, setrp_in, verdict_by}
use Rattle.rtm_model.specs.inner.Soundness.{AreNested, IsCoreSound, IsSound, StandsIn}
use Rattle.rtm_model.specs.World.{Core, World, core_at}
use Rattle.rtm_law_births.proofs.Errors.{levels_after, levels_at_start}
use Rattle.rtm_law_births.proofs.Living.{IsMade}
use Rattle.rtm_law_births.proofs.Outcomes.{IsJudged, outcome_of}
use Rattle.rtm_law_sound.proofs.Histories.{world-append, world-nil}
use Rattle.rtm_law_landings.proofs.Appended.{holds_of}
use Rattle.rtm_law_landings.proofs.Booleans.{not-not}
use Rattle.rtm_law_landings.proofs.Changes.{IsOthers, core_after}
use Rattle.rtm_law_landings.proofs.Doomed.{IsLanded, landed}
use Rattle.rtm_law_landings.proofs.Nexts.{IsMasters, IsUnits, next_is, pending_in}

-- the first error that is open, from the innermost bracket on, has CLUP; so has the first around each manager's
abbrev CleansUpOr : Option ErrorRecord → Type 0 → Type 0
CleansUpOr (Some r) outer = r.flags.clup ≡ true
CleansUpOr None outer = outer

abbrev FirstCleansUp : List Bracket → Type 0
FirstCleansUp [] = Unit {0}
FirstCleansUp (l ∷ ls) = CleansUpOr l.error (FirstCleansUp ls)

abbrev AroundManagers : List Bracket → Type 0
AroundManagers [] = Unit {0}
AroundManagers (l ∷ ls) = (manages l.routine ≡ true → FirstCleansUp ls) × AroundManagers ls

pub record CleansUp (ls : List Bracket) : Type 0 where
  pub first : FirstCleansUp ls
  pub around : AroundManagers ls

-- Retries

by_tests : (a b : Bool) → is_retry (if a then Stop else if b then Perc else Bad) ≡ false
by_tests true b = refl
by_tests false true = refl
by_tests false false = refl

no_retry_by : (kind : Kind) (rc : ℕ) → is_retry (verdict_by kind rc None) ≡ false
no_retry_by kind rc = by_tests ((rc == 16) && is_estai kind) (rc == 0)

no_place : (d : DeckView) (prog : ℕ) (r : ErrorRecord) → r.flags.clup ≡ true → (b : Bool) → (r.rc == 4) ≡ b → retry_place d prog r ≡ None
no_place d prog r clup true e = rw (e, clup) refl
no_place d prog r clup false e = rw e refl

of_outer : (d : DeckView) (prog : ℕ) (reg : Option Reg) (o : Option ErrorRecord) → CleansUpOr o (Unit {0}) → is_retry (verdict_of_routine d prog reg o) ≡ false
of_outer d prog None o h = refl
of_outer d prog (Some reg) None h = refl
of_outer d prog (Some reg) (Some r) h = rw (no_place d prog r h (r.rc == 4) refl) (no_retry_by reg.kind r.rc)

given : (o : Option ErrorRecord) (b : Bool) (P : Type 0) → CleansUpOr o P → CleansUpOr (if b then o else None) (Unit {0})
given None true P h = tt
given None false P h = tt
given (Some r) true P h = h
given (Some r) false P h = tt

judged_no_retry : (d : DeckView) (prog : ℕ) (ls : List Bracket) → error_in ls ≡ None → FirstCleansUp ls → is_retry (verdict_in d prog ls) ≡ false
judged_no_retry d prog [] quiet h = refl
judged_no_retry d prog (l ∷ []) quiet h = of_outer d prog l.routine (if is_recovery l.routine then None else None) (given None (is_recovery l.routine) (Unit {0}) tt)
judged_no_retry d prog (l ∷ o ∷ ls) quiet h =
    let behind : FirstCleansUp (o ∷ ls) = subst (λ (e : Option ErrorRecord). CleansUpOr e (FirstCleansUp (o ∷ ls))) quiet h in
    of_outer d prog l.routine (if is_recovery l.routine then o.error else None) (given o.error (is_recovery l.routine) (FirstCleansUp ls) behind)

judged_some : (d : DeckView) (c : Core) (kind : Kind) (verdict : Verdict) (o : Option Reg) (prog : Reg → ℕ) → error_in c.levels ≡ None → FirstCleansUp c.levels
    → IsSomeAnd o (λ reg. (kind ≡ reg.kind) × (verdict ≡ verdict_in d (prog reg) c.levels)) → is_retry verdict ≡ false
judged_some d c kind verdict None prog quiet h by = absurd by
judged_some d c kind verdict (Some reg) prog quiet h by = ap is_retry by.1 ∙ judged_no_retry d (prog reg) c.levels quiet h

leaves : (d : DeckView) (c : Core) (kind : Kind) (verdict : Verdict) → FirstCleansUp c.levels → (verdict ≡ Fail) ⊎ IsJudged d c kind verdict → is_retry verdict ≡ false
leaves d c kind verdict h (inl failed) = ap is_retry failed
leaves d c kind verdict h (inr judged) = judged_some d c kind verdict (current c.levels) _ judged.quiet h judged.by

-- Changes

-- the error of the innermost bracket has CLUP, or is over
opened : (f : Bracket → Bracket) (r : ErrorRecord) → ((l : Bracket) → (Bracket.routine (f l) ≡ l.routine) × (Bracket.error (f l) ≡ Some r)) → r.flags.clup ≡ true
    → (ls : List Bracket) → AroundManagers ls → CleansUp (at_innermost f ls)
opened f r keeps clup [] around = record { first = tt; around = tt }
opened f r keeps clup (l ∷ ls) around = record {
  first = subst (λ (e : Option ErrorRecord). CleansUpOr e (FirstCleansUp ls)) (sym (keeps l).1) clup;
  around = (λ other. around.0 (ap manages (sym (keeps l).0) ∙ other), around.1);
}

-- its record is changed, but not CLUP
mapped : (f : ErrorRecord → ErrorRecord) → ((r : ErrorRecord) → RecordFlags.clup (ErrorRecord.flags (f r)) ≡ r.flags.clup) → (o : Option ErrorRecord) (P : Type 0) → CleansUpOr o P → CleansUpOr (option_map f o) P
mapped f keeps None P h = h
mapped f keeps (Some r) P h = keeps r ∙ h

kept_first : (f : ErrorRecord → ErrorRecord) → ((r : ErrorRecord) → RecordFlags.clup (ErrorRecord.flags (f r)) ≡ r.flags.clup) → (ls : List Bracket) → FirstCleansUp ls → FirstCleansUp (at_innermost (on_record f) ls)
kept_first f keeps [] h = h
kept_first f keeps (l ∷ ls) h = mapped f keeps l.error (FirstCleansUp ls) h

kept_around : (f : Bracket → Bracket) → ((l : Bracket) → Bracket.routine (f l) ≡ l.routine) → (ls : List Bracket) → AroundManagers ls → AroundManagers (at_innermost f ls)
kept_around f keeps [] h = h
kept_around f keeps (l ∷ ls) h = (λ other. h.0 (ap manages (sym (keeps l)) ∙ other), h.1)

behind : (error : Option ErrorRecord) (before after : List Bracket) → (FirstCleansUp before → FirstCleansUp after) → CleansUpOr error (FirstCleansUp before) → CleansUpOr error (FirstCleansUp after)
behind None before after move h = move h
behind (Some r) before after move h = h

-- SETRP and RET15
enclosing_up : (f : ErrorRecord → ErrorRecord) → ((r : ErrorRecord) → RecordFlags.clup (ErrorRecord.flags (f r)) ≡ r.flags.clup) → (ls : List Bracket) → CleansUp ls → CleansUp (at_enclosing (on_record f) ls)
enclosing_up f keeps [] h = h
enclosing_up f keeps (l ∷ ls) h = record {
  first = behind l.error ls (at_innermost (on_record f) ls) (kept_first f keeps ls) h.first;
  around = (λ other. kept_first f keeps ls ((CleansUp.around h).0 other), kept_around (on_record f) (λ l. refl) ls (CleansUp.around h).1);
}

record_up : (f : ErrorRecord → ErrorRecord) → ((r : ErrorRecord) → RecordFlags.clup (ErrorRecord.flags (f r)) ≡ r.flags.clup) → (ls : List Bracket) → CleansUp ls → (b : Bool) → CleansUp (if b then at_enclosing (on_record f) ls else ls)
record_up f keeps ls h true = enclosing_up f keeps ls h
record_up f keeps ls h false = h

card_up : (n : ℕ) (place : Place) (op : Op) (c : Core) → CleansUp c.levels → CleansUp (Core.levels (own_card n place op c))
card_up n place (ops.SetRp setrp) c h = record_up (setrp_in setrp) (λ r. refl) c.levels h (recovers c.levels)
card_up n place (ops.Ret15 rc label) c h = record_up (ret15_in rc label) (λ r. refl) c.levels h (recovers c.levels)
card_up n place _ c h = h

-- a routine is left
percolated_up : (ls : List Bracket) → FirstCleansUp ls → AroundManagers ls → CleansUp (at_innermost (on_record after_percolation) ls)
percolated_up ls first around = record { first = kept_first after_percolation (λ r. refl) ls first; around = kept_around (on_record after_percolation) (λ l. refl) ls around }

taken_over : (inner outer : ErrorRecord) → inner.flags.clup ≡ true → (b : Bool) → outer.flags.clup ≡ b → RecordFlags.clup (ErrorRecord.flags (inner_failed inner outer)) ≡ true
taken_over inner outer clup true e = rw (clup, e) refl
taken_over inner outer clup false e = rw (clup, e) refl

failed_first : (own : Option Reg) (r : ErrorRecord) (o : Bracket) (ls : List Bracket) → r.flags.clup ≡ true → StandsIn own (Some o) → (manages own ≡ true → FirstCleansUp (o ∷ ls)) → (error : Option ErrorRecord) → o.error ≡ error
    → CleansUpOr (option_map (after_inner_failure (Some r)) error) (FirstCleansUp ls)
failed_first own r o ls clup stands around (Some outer) e = taken_over r outer clup outer.flags.clup refl
failed_first None r o ls clup stands around None e = absurd stands
failed_first (Some reg) r o ls clup stands around None e =
    let none : false ≡ not (is_manager reg.kind) = sym (ap is_some e) ∙ stands in
    let other : is_manager reg.kind ≡ true = sym (not-not (is_manager reg.kind)) ∙ ap not (sym none) in
    subst (λ (error : Option ErrorRecord). CleansUpOr error (FirstCleansUp ls)) e (around other)

failed_up : (l : Bracket) (ls : List Bracket) → AreNested (l ∷ ls) → (error : Option ErrorRecord) → l.error ≡ error → CleansUp (l ∷ ls) → CleansUp (at_innermost (on_record (after_inner_failure error)) ls)
failed_up l ls nested None e h = record {
  first = kept_first (after_inner_failure None) (λ r. refl) ls (subst (λ (error : Option ErrorRecord). CleansUpOr error (FirstCleansUp ls)) e h.first);
  around = kept_around (on_record (after_inner_failure None)) (λ l. refl) ls (CleansUp.around h).1;
}
failed_up l [] nested (Some r) e h = record { first = tt; around = tt }
failed_up l (o ∷ ls) nested (Some r) e h = record {
  first = failed_first l.routine r o ls (subst (λ (error : Option ErrorRecord). CleansUpOr error (FirstCleansUp (o ∷ ls))) e h.first) nested.0 (CleansUp.around h).0 o.error refl;
  around = kept_around (on_record (after_inner_failure (Some r))) (λ l. refl) (o ∷ ls) (CleansUp.around h).1;
}

quiet_of : (verdict : Verdict) (e : Option ErrorRecord) → (verdict ≡ Fail → ⊥) → (verdict ≡ Fail) ⊎ (e ≡ None) → e ≡ None
quiet_of verdict e other (inl failed) = absurd (other failed)
quiet_of verdict e other (inr quiet) = quiet

over_up : (ls : List Bracket) → FirstCleansUp ls → AroundManagers ls → CleansUp (at_innermost (after_verdict Over None) ls)
over_up [] first around = record { first = first; around = around }
over_up (l ∷ ls) first around = record { first = first; around = around }

left_up : (verdict : Verdict) (ls : List Bracket) → AreNested ls → is_retry verdict ≡ false → (verdict ≡ Fail) ⊎ (error_in ls ≡ None) → CleansUp ls → CleansUp (after_leave verdict ls)
left_up verdict [] nested no_retry quiet h = h
left_up (Retry place) (l ∷ ls) nested no_retry quiet h = absurd cc
left_up Perc (l ∷ ls) nested no_retry quiet h = percolated_up ls (subst (λ (error : Option ErrorRecord). CleansUpOr error (FirstCleansUp ls)) (quiet_of Perc l.error (λ e. absurd cc) quiet) h.first) (CleansUp.around h).1
left_up Stop (l ∷ ls) nested no_retry quiet h = percolated_up ls (subst (λ (error : Option ErrorRecord). CleansUpOr error (FirstCleansUp ls)) (quiet_of Stop l.error (λ e. absurd cc) quiet) h.first) (CleansUp.around h).1
left_up Bad (l ∷ ls) nested no_retry quiet h = percolated_up ls (subst (λ (error : Option ErrorRecord). CleansUpOr error (FirstCleansUp ls)) (quiet_of Bad l.error (λ e. absurd cc) quiet) h.first) (CleansUp.around h).1
left_up Fail (l ∷ ls) nested no_retry quiet h = failed_up l ls nested l.error refl h
left_up Over (l ∷ ls) nested no_retry quiet h =
    over_up ls (subst (λ (error : Option ErrorRecord). CleansUpOr error (FirstCleansUp ls)) (quiet_of Over l.error (λ e. absurd cc) quiet) h.first) (CleansUp.around h).1

manager_shields : (kind : Kind) (cancel : Bool) → (is_frr kind || is_manager kind || not cancel) ≡ false → is_manager kind ≡ true → ⊥
manager_shields Mgr cancel h k = cc
manager_shields Frr cancel h k = cc
manager_shields Estae cancel h k = cc
manager_shields Estai cancel h k = cc

no_manager : (o : Option Reg) → shields o ≡ false → manages o ≡ true → ⊥
no_manager None h k = cc
no_manager (Some reg) h k = manager_shields reg.kind reg.cancel h k

-- an abort lands where no manager runs, and forbids retry
unshielded : (ls : List Bracket) → shielded ls ≡ false → AroundManagers ls
unshielded [] h = tt
unshielded (l ∷ ls) h =
    let parts = or_parts (shields l.routine) (shielded ls) h in
    (λ other. absurd (no_manager l.routine parts.0 other), unshielded ls parts.1)

entered_up : (n : ℕ) (bare : Bool) (o : Option Reg) (c : Core) → CleansUp c.levels → CleansUp (Core.levels (with_routine_entered n bare o c))
entered_up n bare None c h = h
entered_up n bare (Some reg) c h = record { first = h.first; around = (λ other. h.first, h.around) }

alone_up : CleansUp outermost_alone
alone_up = record { first = tt; around = (λ other. tt, tt) }

-- Each entry

abbrev pub DoomedCleansUp : Core → Type 0
DoomedCleansUp c = c.doomed ≡ true → CleansUp c.levels

retried_core : (verdict : Verdict) (o : Option Reg) (c : Core) → Core.doomed (after_retry verdict o c) ≡ c.doomed
retried_core (Retry place) None c = refl
retried_core (Retry place) (Some reg) c = refl
retried_core _ o c = refl

entered_core : (n : ℕ) (bare : Bool) (o : Option Reg) (c : Core) → Core.doomed (with_routine_entered n bare o c) ≡ c.doomed
entered_core n bare None c = refl
entered_core n bare (Some reg) c = refl

card_core : (n : ℕ) (place : Place) (op : Op) (c : Core) → Core.doomed (own_card n place op c) ≡ c.doomed
card_core n place ops.Nop c = refl
card_core n place _ c = refl

judged_quiet : (d : DeckView) (c : Core) (kind : Kind) (verdict : Verdict) → (verdict ≡ Fail) ⊎ IsJudged d c kind verdict → (verdict ≡ Fail) ⊎ (error_in c.levels ≡ None)
judged_quiet d c kind verdict (inl failed) = inl failed
judged_quiet d c kind verdict (inr judged) = inr judged.quiet

pub parts4 : (a b c e f : Bool) → (a && is_interruptible b c e f) ≡ true → (c ≡ false) × (e ≡ false)
parts4 true false false false f h = (refl, refl)
parts4 true false false true f h = absurd cc
parts4 true false true e f h = absurd cc
parts4 true true c e f h = absurd cc
parts4 false b c e f h = absurd cc

module _ (d : DeckView) (w : World) (n u : ℕ) where
  landing_up : (class : Class) (from : ℕ) (mark : Mark) → IsLanded (pending_in w u) class from mark → interruptible (core_at u w) ≡ true
      → DoomedCleansUp (with_landed (abort_named class from (pending_in w u)) (core_at u w))
  landing_up class from mark is can =
      let c : Core = core_at u w in
      let free = parts4 (is_none c.begun) (has_frr c.frrs) (shielded c.levels) c.doomed (error_here c.levels) can in
      rw (IsLanded.named is) (λ doomed.
      let forbids : not (Abort.retry is.first) ≡ true = ap (λ (b : Bool). b || not (Abort.retry is.first)) (sym free.1) ∙ doomed in
      opened (with_open (Some (landed_record is.first))) (landed_record is.first) (λ l. (refl, refl)) forbids c.levels (unshielded c.levels free.0))

  own_up : (what : What) → IsMade d w n (record { unit = u; what = what }) → IsUnits d w u what ⊎ IsMasters d w u what → DoomedCleansUp (core_at u w)
      → DoomedCleansUp (own_entry d n w.managers (pending_in w u) what (core_at u w))
  own_up (whats.Exec at rc) m is h = λ doomed.
      card_up n (place_after d at rc (op_at d at.prog at.op)) (op_at d at.prog at.op) (core_at u w) (h (sym (card_core n (place_after d at rc (op_at d at.prog at.op)) (op_at d at.prog at.op) (core_at u w)) ∙ doomed))
  own_up (whats.Error at mark) m is h = λ doomed.
      let r : ErrorRecord = error_record (Core.doomed (core_at u w)) mark (op_at d at.prog at.op) in
      opened (with_open (Some r)) r (λ l. (refl, refl)) doomed (Core.levels (core_at u w)) (CleansUp.around (h doomed))
  own_up (whats.Land class from mark) m (inl units) h = elim units.timely [
    | inl lands ↦ landing_up class from mark (landed d w n u class from mark m) lands.can
    | inr other ↦ let clash : true ≡ false = other.other in absurd cc
  ]
  own_up (whats.Land class from mark) m (inr masters) h = let clash : true ≡ false = masters.other in absurd cc
  own_up (whats.Enter kind born mark bare) m is h = λ doomed.
      entered_up n bare (routine_named kind born w.managers (core_at u w)) (core_at u w) (h (sym (entered_core n bare (routine_named kind born w.managers (core_at u w)) (core_at u w)) ∙ doomed))
  own_up (whats.Leave kind born verdict logrec dump) m is h = λ doomed.
      let c : Core = core_at u w in
      let up : CleansUp c.levels = h (sym (retried_core verdict (current c.levels) _) ∙ doomed) in
      let how = outcome_of d w u (whats.Leave kind born verdict logrec dump) m.may in
      let levels = levels_after verdict (current c.levels) (without_routine verdict (is_gone_after verdict (record_in c.levels)) kind born (with_bracket_closed verdict c)) in
      subst CleansUp (sym levels)
      (left_up verdict c.levels (IsCoreSound.nested (IsSound.cores m.sound u)) (leaves d c kind verdict up.first how) (judged_quiet d c kind verdict how) up)
  own_up (whats.Begin code dump) m is h = λ doomed. alone_up
  own_up _ m is h = h

  others_up : (v : ℕ) (what : What) (after before : Core) → IsOthers v what after before → DoomedCleansUp before → DoomedCleansUp after
  others_up v what after before (inl left) h = subst DoomedCleansUp (sym left.core) h
  others_up v what after before (inr (inl born)) h = subst DoomedCleansUp (sym born.core) h
  others_up v what after before (inr (inr purged)) h = subst DoomedCleansUp (sym purged.core) (λ doomed. alone_up)

abbrev pub AllCleanUp : DeckView → List Entry → Type 0
AllCleanUp d h = (v : ℕ) → DoomedCleansUp (core_at v (world d h))

-- an ARRIVE leaves the unit's control blocks, and any other entry is its unit's next
up_by : (d : DeckView) (h : List Entry) (u : ℕ) (what : What) → IsMade d (world d h) (length h) (record { unit = u; what = what }) → DoomedCleansUp (core_at u (world d h))
    → DoomedCleansUp (own_entry d (length h) (World.managers (world d h)) (pending_in (world d h) u) what (core_at u (world d h)))
up_by d h u (whats.Arrive cmd became) m all = all
up_by d h u what m all = own_up d (world d h) (length h) u what m (next_is d (world d h) u what m.may) all

up_keeps : (d : DeckView) (h : List Entry) (e : Entry) → IsMade d (world d h) (length h) e → AllCleanUp d h → AllCleanUp d (h ++ e ∷ [])
up_keeps d h e m all v =
    subst (λ (w : World). DoomedCleansUp (core_at v w)) (sym (world-append d h e))
    (core_after d (world d h) (length h) e.unit v e.what m DoomedCleansUp
    (λ same stays. up_by d h e.unit e.what m (all e.unit))
    (λ other after change. others_up d (world d h) (length h) e.unit v e.what after (core_at v (world d h)) change (all v)))

pub all_clean_up : (d : DeckView) (h : List Entry) → IsTrue (is_well_formed d) → Legal d h → AllCleanUp d h
all_clean_up d h deck legal =
    holds_of d deck (AllCleanUp d)
    (λ v. subst (λ (w : World). DoomedCleansUp (core_at v w)) (sym (world-nil d))
    (λ doomed. subst CleansUp (sym (levels_at_start d v)) alone_up))
    (λ front e before m all. up_keeps d front e m all) h legal

-- so a doomed unit retries no routine
pub doomed_no_retry : (d : DeckView) (h : List Entry) → IsTrue (is_well_formed d) → Legal d h → (u : ℕ) (kind : Kind) (born : ℕ) (verdict : Verdict) (logrec dump : Bool)
    → IsMade d (world d h) (length h) (record { unit = u; what = whats.Leave kind born verdict logrec dump }) → Core.doomed (core_at u (world d h)) ≡ true → is_retry verdict ≡ false
doomed_no_retry d h deck legal u kind born verdict logrec dump m doomed =
    leaves d (core_at u (world d h)) kind verdict (CleansUp.first (all_clean_up d h deck legal u doomed)) (outcome_of d (world d h) u (whats.Leave kind born verdict logrec dump) m.may)
