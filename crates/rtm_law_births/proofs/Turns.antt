-- Pending aborts stand in the order in which they were posted.
use Rattle.std.proofs.Common.{◌≡◌, ℕ, ◌<◌, ◌≤◌, ◌+◌, Bool, true, false, not, ◌&&◌, ◌||◌, List, [], ◌∷◌, ◌++◌, length, Option, Some, None, refl, sym, ap, subst, arith, inl, inr, ◌∙◌}
use Rattle.std.proofs.lemmas.Bool.{eqb-false, eqb-true}
use Rattle.std.proofs.lemmas.List.{length-set}
use Rattle.std.specs.List.{AllByRecursion}
use Rattle.std.specs.Prelude.{if◌then◌else◌, is_some, slice_get, ◌==◌}
use Rattle.rtm_deck_items.specs.Reading.{job_step, op_at}
use Rattle.rtm_deck_items.specs.View.{DeckView}
use Rattle.rtm_deck_items.specs.declared.deck.Command.{Command}
use Rattle.rtm_deck_items.specs.declared.op.Op.{Op}
use Rattle.rtm_deck_items.specs.declared.op.Op.TheVariants as ops
use Rattle.rtm_model.specs.declared.abort.Abort.{Abort}
use Rattle.rtm_model.specs.declared.entry.Entry.{Entry}
use Rattle.rtm_model.specs.declared.entry.What.{What}
use Rattle.rtm_model.specs.declared.entry.What.TheVariants as whats
use Rattle.rtm_model.specs.declared.error_record.ErrorRecord.{ErrorRecord}
use Rattle.rtm_model.specs.declared.reg.Reg.{Reg}
use Rattle.rtm_model.specs.Aborts.{after_landing, has_class}
use Rattle.rtm_model.specs.Posts.{abterm_abort, cancel_abort, detach_abort, mother_abort, post_related, post_step, post_to, srb_abort, step_abort, with_posted}
use Rattle.rtm_model.specs.OwnChange.{own_change}
use Rattle.rtm_model.specs.Advance.{advance, after_arrival, beyond_card, cause_of, purged_core, with_unit, without_living}
use Rattle.rtm_model.specs.Legal.{Legal}
use Rattle.rtm_model.specs.Surroundings.{is_late}
use Rattle.rtm_model.specs.inner.Soundness.{ArePending, IsAbort, IsSound}
use Rattle.rtm_model.specs.Tasks.{Tree, ended_life, is_subtask_of, life_of}
use Rattle.rtm_model.specs.World.{Core, UnitOfWork, World, at_birth, core_at, on_unit, related_task, unit_at}
use Rattle.rtm_model.specs.Blocks.{without_newest}
use Rattle.rtm_model.specs.NextEntry.{landed_record}
use Rattle.rtm_model.specs.Record.{mark_of}
use Rattle.rtm_model.specs.declared.entry.Class.{Class}
use Rattle.rtm_model.proofs.Landing.{IsFirst, behind_first}
use Rattle.rtm_model.proofs.Units.{length-on_unit, unit_here, unit_same, unit_there}
use Rattle.rtm_law_births.specs.Aborts.{AreTheAborts, ComeInTurn, ComesBefore, aborts}
use Rattle.rtm_law_births.proofs.Sound.{IsSoundHistory}
use Rattle.rtm_law_births.proofs.AbortEntries.{follows, none_at_start}
use Rattle.rtm_law_births.proofs.Beyond.{own, with_units}
use Rattle.rtm_law_births.proofs.Living.{IsMade, kept_after, living}
use Rattle.rtm_law_births.proofs.Posts.{grows, mothered_at, pending_of, turn_posted}

-- each unit's list, in turn; and each abort of it before that one
abbrev Turns : List UnitOfWork → Type 0
Turns units = (v : ℕ) → ComeInTurn (pending_of v units)

abbrev AreBefore : Abort → List UnitOfWork → Type 0
AreBefore a units = (v : ℕ) → AllByRecursion (λ b. ComesBefore b a) (pending_of v units)

earlier : (n : ℕ) (a : Abort) → a.from ≡ n → (p : List Abort) → AllByRecursion (IsAbort n) p → AllByRecursion (λ b. ComesBefore b a) p
earlier n a from [] h = tt
earlier n a from (b ∷ p) h = (inl (let k = h.0.from in omega (arith, k, from)), earlier n a from p h.1)

turn_post : (w : World) → length (Tree.lives w.tree) ≤ length w.units → (t : ℕ) (a : Abort) → Turns w.units → AreBefore a w.units → Turns (World.units (post_to t a w))
turn_post w lens t a turns before v = elim (grows w lens t a v) [
  | inl same ↦ subst ComeInTurn (sym same) (turns v)
  | inr more ↦ subst ComeInTurn (sym more.1) (turn_posted more.0 a (pending_of v w.units) (turns v) (before v))
]

-- the units are as they were, but for what isn't pending
turn_same : (before after : List UnitOfWork) → ((v : ℕ) → pending_of v after ≡ pending_of v before) → Turns before → Turns after
turn_same before after same turns v = subst ComeInTurn (sym (same v)) (turns v)

earlier_same : (n : ℕ) (a : Abort) → a.from ≡ n → (before after : List UnitOfWork) → ((v : ℕ) → pending_of v after ≡ pending_of v before) → ((v : ℕ) → ArePending n (pending_of v before)) → AreBefore a after
earlier_same n a from before after same sound v = subst (AllByRecursion (λ b. ComesBefore b a)) (sym (same v)) (earlier n a from (pending_of v before) (ArePending.each (sound v)))

-- one unit's list is changed
turn_unit_if : (u v : ℕ) (f : UnitOfWork → UnitOfWork) (units : List UnitOfWork) → u < length units → Turns units → ComeInTurn (UnitOfWork.pending (f (unit_at u units))) → (b : Bool) → (v == u) ≡ b → ComeInTurn (pending_of v (on_unit u f units))
turn_unit_if u v f units within turns now true e =
    let same = eqb-true v u e in
    subst (λ (i : ℕ). ComeInTurn (pending_of i (on_unit u f units))) (sym same) (subst ComeInTurn (sym (ap UnitOfWork.pending (unit_here u f units within))) now)
turn_unit_if u v f units within turns now false e = subst ComeInTurn (sym (ap UnitOfWork.pending (unit_there u v f units (eqb-false v u e)))) (turns v)

turn_unit : (u : ℕ) (f : UnitOfWork → UnitOfWork) (units : List UnitOfWork) → u < length units → Turns units → ComeInTurn (UnitOfWork.pending (f (unit_at u units))) → Turns (on_unit u f units)
turn_unit u f units within turns now v = turn_unit_if u v f units within turns now (v == u) refl

behind_turn : (p : List Abort) → ComeInTurn p → ComeInTurn (without_newest p)
behind_turn [] h = tt
behind_turn (a ∷ later) h = h.1

landed_turn : (class : Class) (from : ℕ) (M : Abort → Type 0) (p : List Abort) → IsFirst class from M p → ComeInTurn p → ComeInTurn (after_landing class from p)
landed_turn class from M p can h = subst ComeInTurn (sym (behind_first class from M p can)) (behind_turn p h)

-- cards
module _ (d : DeckView) (n u rc : ℕ) (w : World) (units : List UnitOfWork) (lens : length (Tree.lives w.tree) ≤ length units)
    (same : (v : ℕ) → pending_of v units ≡ pending_of v w.units) (sound : (v : ℕ) → ArePending n (pending_of v w.units)) (turns : Turns w.units) where
  now : Turns units
  now = turn_same w.units units same turns

  posted_turn : (t : ℕ) (a : Abort) → a.from ≡ n → Turns (World.units (post_to t a (with_units w units)))
  posted_turn t a from = turn_post (with_units w units) lens t a now (earlier_same n a from w.units units same sound)

  born_turn : (b : Bool) (unit : ℕ) (mother : Option ℕ) (estais : List Reg) → Turns (World.units (if b then with_unit d n unit mother estais (with_units w units) else with_units w units))
  born_turn true unit mother estais v = subst ComeInTurn (sym (unit_same UnitOfWork.pending (at_birth _ _ estais) (λ unit. refl) unit v units)) (now v)
  born_turn false unit mother estais v = now v

  card_turn : (op : Op) → Turns (World.units (beyond_card d n u rc op (with_units w units)))
  card_turn (ops.Detach unit stae) = posted_turn unit (detach_abort n stae) refl
  card_turn (ops.Abterm unit code reason dump retry) = posted_turn unit (abterm_abort n code reason dump retry) refl
  card_turn (ops.Attachx unit estai term) = born_turn (rc == 0) unit (Some u) _
  card_turn (ops.Schedule unit) = born_turn (rc == 0) unit None []
  card_turn _ = now

  -- a command that arrives
  command_turn : (o : Option Command) → Turns (World.units (after_arrival n u o (with_units w units)))
  command_turn None = now
  command_turn (Some command) = λ v.
      subst ComeInTurn (sym (unit_same UnitOfWork.pending (λ unit. record unit { arrived = unit.arrived + 1 }) (λ unit. refl) u v (World.units (post_to u (cancel_abort n command.dump) (with_units w units)))))
      (posted_turn u (cancel_abort n command.dump) refl v)

  -- a unit's end: the SRB's abort, and after it the job step's
  srb_before : (late : Bool) (r s : ErrorRecord) (p : List Abort) → AllByRecursion (λ b. ComesBefore b (step_abort n s)) p → (b : Bool) → AllByRecursion (λ b. ComesBefore b (step_abort n s)) (if b then p else p ++ srb_abort n r ∷ [])
  srb_before late r s p h true = h
  srb_before late r s [] h false = (inr (refl, refl, refl), tt)
  srb_before late r s (a ∷ p) h false = (h.0, srb_before late r s p h.1 false)

  module _ (w1 : World) (units_are : World.units w1 ≡ units) (lens1 : length (Tree.lives w1.tree) ≤ length w1.units) where
    same1 : (v : ℕ) → pending_of v w1.units ≡ pending_of v w.units
    same1 v = ap (pending_of v) units_are ∙ same v

    related_turn : (rel : Option ℕ) (cause : Option ErrorRecord) → Turns (World.units (post_related n rel cause w1))
    related_turn None cause = turn_same w.units w1.units same1 turns
    related_turn (Some task) None = turn_same w.units w1.units same1 turns
    related_turn (Some task) (Some r) = turn_post w1 lens1 task (srb_abort n r) (turn_same w.units w1.units same1 turns) (earlier_same n (srb_abort n r) refl w.units w1.units same1 sound)

    related_before : (rel : Option ℕ) (cause : Option ErrorRecord) (s : ErrorRecord) → AreBefore (step_abort n s) (World.units (post_related n rel cause w1))
    related_before None cause s = earlier_same n (step_abort n s) refl w.units w1.units same1 sound
    related_before (Some task) None s = earlier_same n (step_abort n s) refl w.units w1.units same1 sound
    related_before (Some task) (Some r) s = λ v.
        let old = earlier_same n (step_abort n s) refl w.units w1.units same1 sound v in
        elim (grows w1 lens1 task (srb_abort n r) v) [
          | inl still ↦ subst (AllByRecursion (λ b. ComesBefore b (step_abort n s))) (sym still) old
          | inr more ↦ subst (AllByRecursion (λ b. ComesBefore b (step_abort n s))) (sym more.1) (srb_before more.0 r s (pending_of v w1.units) old (more.0 || has_class (Abort.class (srb_abort n r)) (pending_of v w1.units)))
        ]

    step_turn_if : (w2 : World) → length (Tree.lives w2.tree) ≤ length w2.units → Turns w2.units → (r : ErrorRecord) → AreBefore (step_abort n r) w2.units → (b : Bool) → Turns (World.units (if b then post_to (job_step d) (step_abort n r) w2 else w2))
    step_turn_if w2 lens2 turns2 r before true = turn_post w2 lens2 (job_step d) (step_abort n r) turns2 before
    step_turn_if w2 lens2 turns2 r before false = turns2

    lens2 : (rel : Option ℕ) (cause : Option ErrorRecord) → length (Tree.lives (World.tree (post_related n rel cause w1))) ≤ length (World.units (post_related n rel cause w1))
    lens2 None cause = lens1
    lens2 (Some task) None = lens1
    lens2 (Some task) (Some r) = omega (arith, lens1, length-on_unit task (with_posted (is_late w1 task) (srb_abort n r)) w1.units)

    ended_turn : (is_other : Bool) (rel : Option ℕ) (cause : Option ErrorRecord) → Turns (World.units (post_step n is_other (job_step d) cause (post_related n rel cause w1)))
    ended_turn is_other rel None = related_turn rel None
    ended_turn is_other rel (Some r) = step_turn_if (post_related n rel (Some r) w1) (lens2 rel (Some r)) (related_turn rel (Some r)) r (related_before rel (Some r) r) (is_other && r.flags.step)

-- a task that begins to end
mothered_turn : (n u : ℕ) (unit : UnitOfWork) → ComeInTurn unit.pending → AllByRecursion (λ b. ComesBefore b (mother_abort n)) unit.pending → (b : Bool) → ComeInTurn (UnitOfWork.pending (if b then with_posted (is_some (Core.begun unit.core)) (mother_abort n) unit else unit))
mothered_turn n u unit turn before true = turn_posted (is_some (Core.begun unit.core)) (mother_abort n) unit.pending turn before
mothered_turn n u unit turn before false = turn

before_unit_if : (a : Abort) (u v : ℕ) (f : UnitOfWork → UnitOfWork) (units : List UnitOfWork) → u < length units → AreBefore a units → UnitOfWork.pending (f (unit_at u units)) ≡ [] → (b : Bool) → (v == u) ≡ b → AllByRecursion (λ b. ComesBefore b a) (pending_of v (on_unit u f units))
before_unit_if a u v f units within before none true e =
    let same = eqb-true v u e in
    subst (λ (i : ℕ). AllByRecursion (λ b. ComesBefore b a) (pending_of i (on_unit u f units))) (sym same)
    (subst (AllByRecursion (λ b. ComesBefore b a)) (sym (ap UnitOfWork.pending (unit_here u f units within) ∙ none)) tt)
before_unit_if a u v f units within before none false e = subst (AllByRecursion (λ b. ComesBefore b a)) (sym (ap UnitOfWork.pending (unit_there u v f units (eqb-false v u e)))) (before v)

module _ (d : DeckView) (w : World) (n u : ℕ) (turns : Turns w.units) where
  few : IsSound d n w → (f : UnitOfWork → UnitOfWork) → length (Tree.lives w.tree) ≤ length (on_unit u f w.units)
  few s f = omega (arith, s.units_len, s.lives_len, length-on_unit u f w.units)

  inside : IsSound d n w → u ≤ length d.units → u < length w.units
  inside s h = omega (arith, s.units_len, h)

  still : (what : What) → ((unit : UnitOfWork) → UnitOfWork.pending (own_change d n w.managers what unit) ≡ unit.pending) → (v : ℕ) → pending_of v (World.units (own d w n u what)) ≡ pending_of v w.units
  still what keeps v = unit_same UnitOfWork.pending (own_change d n w.managers what) keeps u v w.units

  entry_turn : (what : What) → IsMade d w n (record { unit = u; what = what }) → Turns (World.units (advance d w n (record { unit = u; what = what })))
  entry_turn (whats.Exec at rc) m =
      card_turn d n u rc w (World.units (own d w n u (whats.Exec at rc))) (few m.sound (own_change d n w.managers (whats.Exec at rc)))
      (still (whats.Exec at rc) (λ unit. refl)) (IsSound.pending m.sound) turns (op_at d at.prog at.op)
  entry_turn (whats.Land class from mark) m =
      turn_unit u (own_change d n w.managers (whats.Land class from mark)) w.units (inside m.sound m.can.unit) turns (landed_turn class from (λ first. mark ≡ mark_of (landed_record first)) (pending_of u w.units) m.can.what.2 (turns u))
  entry_turn (whats.Arrive cmd became) m =
      command_turn d n u 0 w (World.units (own d w n u (whats.Arrive cmd became))) (few m.sound (own_change d n w.managers (whats.Arrive cmd became)))
      (still (whats.Arrive cmd became) (λ unit. refl)) (IsSound.pending m.sound) turns (slice_get d.commands cmd)
  entry_turn (whats.Begin code dump) m = λ v.
      let change = own_change d n w.managers (whats.Begin code dump) in
      let within = inside m.sound m.can.unit in
      let units : List UnitOfWork = on_unit u change w.units in
      let own_turns : Turns units = turn_unit u change w.units within turns tt in
      let before : AllByRecursion (λ b. ComesBefore b (mother_abort n)) (pending_of v units) =
      before_unit_if (mother_abort n) u v change w.units within (λ i. earlier n (mother_abort n) refl (pending_of i w.units) (ArePending.each (IsSound.pending m.sound i))) refl (v == u) refl in
      subst ComeInTurn (sym (ap UnitOfWork.pending (mothered_at u (mother_abort n) (Tree.lives w.tree) units (few m.sound change) v)))
      (mothered_turn n u (unit_at v units) (own_turns v) before (is_subtask_of u (life_of v (Tree.lives w.tree))))
  entry_turn (whats.Done code to_task to_step) m =
      let what = whats.Done code to_task to_step in
      let w1 : World = without_living u code (u == job_step d) (own d w n u what) in
      let lens1 : length (Tree.lives w1.tree) ≤ length w1.units = omega (arith, length-set (Tree.lives w.tree) u (ended_life (life_of u (Tree.lives w.tree))), few m.sound (own_change d n w.managers what)) in
      let cause : Option ErrorRecord = cause_of (Core.begun (core_at u (own d w n u what))) in
      ended_turn d n u 0 w (World.units (own d w n u what)) (few m.sound (own_change d n w.managers what)) (still what (λ unit. refl)) (IsSound.pending m.sound) turns w1 refl lens1
      (not (u == job_step d)) (related_task d u) cause
  entry_turn (whats.Purge unit) m =
      let change = own_change d n w.managers (whats.Purge unit) in
      let there : unit < length (on_unit u change w.units) = omega (arith, m.can.what.0, IsSound.units_len m.sound, length-on_unit u change w.units) in
      turn_unit unit (λ unit. record unit { core = purged_core unit.core; pending = [] }) (on_unit u change w.units) there (turn_same w.units _ (still (whats.Purge unit) (λ unit. refl)) turns) tt
  entry_turn what m = turn_same w.units _ (still what (λ unit. refl)) turns

-- each unit's list of pending aborts has those that live, in the order in which they were posted
pub aborts_live : (d : DeckView) (h : List Entry) → IsSoundHistory d h → Legal d h → AreTheAborts d h
aborts_live d h sound legal = record {
  living = living aborts d h sound legal follows;
  order = kept_after d h sound legal (λ n w. Turns w.units) (λ v. subst ComeInTurn (sym (none_at_start d v)) tt)
      (λ w n e m turns. entry_turn d w n e.unit turns e.what m);
}
