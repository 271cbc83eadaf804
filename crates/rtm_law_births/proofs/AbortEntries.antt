-- Births and deaths of pending aborts at each entry, and so in a history.
use Rattle.std.proofs.Common.{◌≡◌, ℕ, ◌<◌, ◌≤◌, ◌+◌, Bool, true, false, not, ◌||◌, List, [], ◌∷◌, ◌++◌, length, Option, Some, None, refl, sym, ap, subst, arith, ◌⊎◌, ◌∙◌}
use Rattle.std.proofs.lemmas.Bool.{eqb-false, eqb-true}
use Rattle.std.proofs.lemmas.List.{length-set}
use Rattle.std.specs.Prelude.{IfSome, IsSomeAnd, if◌then◌else◌, is_some, map, slice_get, ◌==◌}
use Rattle.rtm_codes.specs.declared.code.Code.{Code}
use Rattle.rtm_deck_items.specs.Reading.{job_step, op_at, program_of}
use Rattle.rtm_deck_items.specs.View.{DeckView}
use Rattle.rtm_deck_items.specs.declared.deck.Command.{Command}
use Rattle.rtm_model.specs.declared.abort.Abort.{Abort}
use Rattle.rtm_model.specs.declared.entry.Class.TheVariants as classes
use Rattle.rtm_model.specs.declared.entry.Fate.{Fate}
use Rattle.rtm_model.specs.declared.entry.Fate.TheVariants.{Late, Merged, Queued}
use Rattle.rtm_model.specs.declared.entry.What.{What}
use Rattle.rtm_model.specs.declared.entry.What.TheVariants as whats
use Rattle.rtm_model.specs.declared.error_record.ErrorRecord.{ErrorRecord}
use Rattle.rtm_model.specs.Aborts.{after_landing, has_class}
use Rattle.rtm_model.specs.Arrivals.{goes_on}
use Rattle.rtm_model.specs.Posts.{cancel_abort, mother_abort, post_to, post_to_subtasks, with_posted}
use Rattle.rtm_model.specs.OwnChange.{own_change}
use Rattle.rtm_model.specs.Advance.{after_arrival, after_done, cause_of, purged_core, without_living}
use Rattle.rtm_model.specs.Moments.{IsIn}
use Rattle.rtm_model.specs.NextEntry.{landed_record}
use Rattle.rtm_model.specs.Surroundings.{fate_in, is_late, surroundings_at}
use Rattle.rtm_model.specs.Record.{mark_of}
use Rattle.rtm_model.specs.inner.Soundness.{ArePending, IsSound}
use Rattle.rtm_model.specs.Tasks.{Life, Tree, ended_life, is_living, is_subtask_of, life_of}
use Rattle.rtm_model.specs.World.{Beginning, Core, UnitOfWork, World, at_birth, core_at, on_unit, related_task, unborn_unit, unit_at, units_at_start}
use Rattle.rtm_model.proofs.Units.{length-on_unit, unit_here, unit_same, unit_there}
use Rattle.rtm_model.proofs.Start.{all_unborn}
use Rattle.rtm_law_births.specs.Aborts.{CommandPosts, IsQueued, MotherPosts, PendingAbort, RelatedPosts, StepPosts, aborts}
use Rattle.rtm_law_births.proofs.Aborts.{arrives, card, card_begins, card_pending, ends, landed_list, late_after, posts_like, same_lists, unit_moves}
use Rattle.rtm_law_births.proofs.Beyond.{own}
use Rattle.rtm_law_births.proofs.Living.{Changes, Follows, IsMade, Moves, cleared, death_then, said_by, same_list, unmoved}
use Rattle.rtm_law_births.proofs.Outcomes.{FatesAre, outcome_of, row_of}
use Rattle.rtm_law_births.proofs.Posts.{mothered, mothered_at, pending_of, posted_list, same_late, subtask_lives}

-- A task begins to end

-- a subtask that isn't late gets the abort, where it is queued
module _ (x : PendingAbort) (n u : ℕ) (w : World) where
  mother_if : (life : Life) (unit : UnitOfWork) (b : Bool) → life_of x.target (Tree.lives w.tree) ≡ life → unit_at x.target w.units ≡ unit → is_subtask_of u life ≡ b → (x.target ≡ u → ⊥)
      → Moves (IsIn x.abort (UnitOfWork.pending (if b then with_posted (is_some (Core.begun unit.core)) (mother_abort n) unit else unit))) (IsIn x.abort unit.pending) (MotherPosts w n u x) ⊥
  mother_if life unit false e f g other = unmoved (λ h. h) (λ h. h) (λ h. let s : is_subtask_of u life ≡ true = subst (λ (l : Life). is_subtask_of u l ≡ true) e h.subtask in absurd cc) (λ h. h)
  mother_if life unit true e f g other =
      let lives = subtask_lives u life g in
      let alive : not (is_living (life_of x.target (Tree.lives w.tree))) ≡ false = ap (λ (l : Life). not (is_living l)) e ∙ ap not lives in
      let late : is_late w x.target ≡ is_some (Core.begun unit.core) = ap (λ (b : Bool). b || is_some (Core.begun (core_at x.target w))) alive ∙ ap (λ (k : UnitOfWork). is_some (Core.begun k.core)) f in
      let fate : fate_in w x.target classes.Mother ≡ (if is_some (Core.begun unit.core) then Late else if has_class classes.Mother unit.pending then Merged else Queued) =
      ap (λ (l : Bool). if l then Late else if has_class classes.Mother (pending_of x.target w.units) then Merged else Queued) late
      ∙ ap (λ (k : UnitOfWork). if is_some (Core.begun unit.core) then Late else if has_class classes.Mother k.pending then Merged else Queued) f in
      said_by (λ h. h) (λ h. h) (λ h. h) (λ h. h)
      (λ h. record { other = other; subtask = ap (is_subtask_of u) e ∙ g; posts = record { target_is = refl; abort_is = h.0; queued = fate ∙ h.1 } })
      (λ h. (IsQueued.abort_is h.posts, sym fate ∙ IsQueued.queued h.posts))
      (λ h. h) (λ h. h)
      (posted_list x.abort (mother_abort n) unit.pending (is_some (Core.begun unit.core)))

  -- in the unit itself, which has begun to end, it would be late
  late_if : (unit : UnitOfWork) (b : Bool) → is_some (Core.begun unit.core) ≡ true → x.target ≡ u
      → Moves (IsIn x.abort (UnitOfWork.pending (if b then with_posted (is_some (Core.begun unit.core)) (mother_abort n) unit else unit))) (IsIn x.abort unit.pending) (MotherPosts w n u x) ⊥
  late_if unit false begun same = unmoved (λ h. h) (λ h. h) (λ h. h.other same) (λ h. h)
  late_if unit true begun same = rw begun (unmoved (λ h. h) (λ h. h) (λ h. h.other same) (λ h. h))

  -- every unit, in the world where the task's own change is made
  module _ (units : List UnitOfWork) (lens : length (Tree.lives w.tree) ≤ length units) (here : is_some (Core.begun (UnitOfWork.core (unit_at u units))) ≡ true)
      (there : (v : ℕ) → (v ≡ u → ⊥) → unit_at v units ≡ unit_at v w.units) where
    mothers_if : (b : Bool) → (x.target == u) ≡ b
        → Moves (IsIn x.abort (UnitOfWork.pending (mothered u (mother_abort n) (life_of x.target (Tree.lives w.tree)) (unit_at x.target units)))) (IsIn x.abort (pending_of x.target units)) (MotherPosts w n u x) ⊥
    mothers_if true e =
        let same = eqb-true x.target u e in
        late_if (unit_at x.target units) (is_subtask_of u (life_of x.target (Tree.lives w.tree))) (subst (λ (v : ℕ). is_some (Core.begun (UnitOfWork.core (unit_at v units))) ≡ true) (sym same) here) same
    mothers_if false e =
        let other = eqb-false x.target u e in
        mother_if (life_of x.target (Tree.lives w.tree)) (unit_at x.target units) (is_subtask_of u (life_of x.target (Tree.lives w.tree))) refl (sym (there x.target other)) refl other

    mothers : Moves (IsIn x.abort (pending_of x.target (post_to_subtasks u (mother_abort n) (Tree.lives w.tree) units))) (IsIn x.abort (pending_of x.target units)) (MotherPosts w n u x) ⊥
    mothers =
        let list = ap UnitOfWork.pending (mothered_at u (mother_abort n) (Tree.lives w.tree) units lens x.target) in
        said_by (λ h. subst (IsIn x.abort) (sym list) h) (λ h. subst (IsIn x.abort) list h) (λ h. h) (λ h. h) (λ h. h) (λ h. h) (λ h. h) (λ h. h) (mothers_if (x.target == u) refl)

-- Each entry

command_moves : (n u : ℕ) (w w2 : World) (x : PendingAbort) (became : Fate) → length (Tree.lives w2.tree) ≤ length w2.units → ((v : ℕ) → pending_of v w2.units ≡ pending_of v w.units)
    → is_late w2 u ≡ is_late w u → (o : Option Command) → IfSome o (λ command. (u ≡ command.target) × (became ≡ fate_in w command.target classes.Cancel))
    → Moves (IsIn x.abort (pending_of x.target (World.units (after_arrival n u o w2)))) (IsIn x.abort (pending_of x.target w.units)) (CommandPosts n became o x) ⊥
command_moves n u w w2 x became lens same late None facts = same_lists x w.units w2.units same
command_moves n u w w2 x became lens same late (Some command) facts =
    let counted_same : pending_of x.target (World.units (after_arrival n u (Some command) w2)) ≡ pending_of x.target (World.units (post_to u (cancel_abort n command.dump) w2)) =
    unit_same UnitOfWork.pending (λ unit. record unit { arrived = unit.arrived + 1 }) (λ unit. refl) u x.target (World.units (post_to u (cancel_abort n command.dump) w2)) in
    let fate : became ≡ fate_in w u classes.Cancel = facts.1 ∙ ap (λ (t : ℕ). fate_in w t classes.Cancel) (sym facts.0) in
    said_by (λ h. subst (IsIn x.abort) (sym counted_same) h) (λ h. subst (IsIn x.abort) counted_same h) (λ h. h) (λ h. h)
    (λ h. record { target_is = h.target_is ∙ facts.0; abort_is = h.abort_is; queued = fate ∙ h.queued })
    (λ h. record { target_is = h.target_is ∙ sym facts.0; abort_is = h.abort_is; queued = sym fate ∙ h.queued })
    (λ h. h) (λ h. h)
    (posts_like x w w2 lens same u (cancel_abort n command.dump) late)

module _ (d : DeckView) (w : World) (n u : ℕ) (x : PendingAbort) where
  -- the entry's own change leaves the pending aborts
  own_same : (what : What) → ((unit : UnitOfWork) → UnitOfWork.pending (own_change d n w.managers what unit) ≡ unit.pending)
      → Moves (IsIn x.abort (pending_of x.target (World.units (own d w n u what)))) (IsIn x.abort (pending_of x.target w.units)) ⊥ ⊥
  own_same what keeps = same_list x.abort (pending_of x.target w.units) _ (unit_same UnitOfWork.pending (own_change d n w.managers what) keeps u x.target w.units)

  unit_within : IsSound d n w → u ≤ length d.units → u < length w.units
  unit_within s h = omega (arith, s.units_len, h)

  lens : IsSound d n w → (f : UnitOfWork → UnitOfWork) → length (Tree.lives w.tree) ≤ length (on_unit u f w.units)
  lens s f = omega (arith, s.units_len, s.lives_len, length-on_unit u f w.units)

  -- the end of a unit
  done_moves : (code : Code) (to_task to_step : Option Fate) → IsSound d n w → (o : Option Beginning) → Core.begun (core_at u w) ≡ o → IsSomeAnd o (λ begun. begun.code ≡ code) → FatesAre d w u to_task to_step o
      → (cause : Option ErrorRecord) → cause ≡ cause_of o
      → Moves (IsIn x.abort (pending_of x.target (World.units (after_done d n u code cause (own d w n u (whats.Done code to_task to_step)))))) (IsIn x.abort (pending_of x.target w.units))
      (RelatedPosts n (related_task d u) (cause_of o) to_task x ⊎ StepPosts d n (cause_of o) to_step x) ⊥
  done_moves code to_task to_step s None e has fates cause same = absurd has
  done_moves code to_task to_step s (Some begun) e has fates cause same =
      let w0 : World = own d w n u (whats.Done code to_task to_step) in
      let w1 : World = without_living u code (u == job_step d) w0 in
      let pend : (v : ℕ) → pending_of v w1.units ≡ pending_of v w.units = λ v. unit_same UnitOfWork.pending (own_change d n w.managers (whats.Done code to_task to_step)) (λ unit. refl) u v w.units in
      let begins : (v : ℕ) → Core.begun (core_at v w1) ≡ Core.begun (core_at v w) = λ v. unit_same (λ (unit : UnitOfWork). Core.begun unit.core) (own_change d n w.managers (whats.Done code to_task to_step)) (λ unit. refl) u v w.units in
      let late = late_after w w1 u refl begins (ap is_some e) in
      let few : length (Tree.lives w1.tree) ≤ length w1.units = omega (arith, length-set (Tree.lives w.tree) u (ended_life (life_of u (Tree.lives w.tree))), lens s (own_change d n w.managers (whats.Done code to_task to_step))) in
      rw same (ends d n u w w1 x few pend late (related_task d u) begun.cause to_task to_step fates.0 fates.1)

  entry : (what : What) → IsMade d w n (record { unit = u; what = what }) → Changes aborts d w n (record { unit = u; what = what }) x
  entry (whats.Exec at rc) m =
      card d n u rc w x (World.units (own d w n u (whats.Exec at rc))) (lens m.sound (own_change d n w.managers (whats.Exec at rc)))
      (card_pending d w n u at rc) (card_begins d w n u at rc) (op_at d at.prog at.op)
      (row_of (core_at u w) (surroundings_at d w u (op_at d at.prog at.op)) (op_at d at.prog at.op) rc (outcome_of d w u (whats.Exec at rc) m.may))
  entry (whats.Land class from mark) m =
      said_by (λ h. h) (λ h. h) (λ h. h) (λ h. h) (λ h. h) (λ h. h) (λ h. (sym h.0, h.1.0, h.1.1)) (λ h. (sym h.0, (h.1, h.2)))
      (unit_moves x.abort x.target u (own_change d n w.managers (whats.Land class from mark)) (after_landing class from) w.units (unit_within m.sound m.can.unit)
      ((class ≡ Abort.class x.abort) × (from ≡ Abort.from x.abort)) (λ unit. refl)
      (landed_list x.abort (pending_of u w.units) class from (λ first. mark ≡ mark_of (landed_record first)) m.can.what.2 (ArePending.distinct (IsSound.pending m.sound u))))
  entry (whats.Arrive cmd became) m =
      let pend : (v : ℕ) → pending_of v (World.units (own d w n u (whats.Arrive cmd became))) ≡ pending_of v w.units = λ v. unit_same UnitOfWork.pending (own_change d n w.managers (whats.Arrive cmd became)) (λ unit. refl) u v w.units in
      let begins : Core.begun (core_at u (own d w n u (whats.Arrive cmd became))) ≡ Core.begun (core_at u w) = unit_same (λ (unit : UnitOfWork). Core.begun unit.core) (own_change d n w.managers (whats.Arrive cmd became)) (λ unit. refl) u u w.units in
      command_moves n u w (own d w n u (whats.Arrive cmd became)) x became (lens m.sound (own_change d n w.managers (whats.Arrive cmd became))) pend
      (same_late (own d w n u (whats.Arrive cmd became)) w u refl begins)
      (slice_get d.commands cmd) (arrives d w n cmd u cmd became (not (goes_on d w)) (slice_get d.commands cmd) m.may)
  entry (whats.Begin code dump) m =
      let change = own_change d n w.managers (whats.Begin code dump) in
      let inside = unit_within m.sound m.can.unit in
      death_then
      (said_by (λ h. h) (λ h. h) (λ h. h) (λ h. h) (λ h. h) (λ h. h) (λ h. sym h.0) (λ h. (sym h, tt))
      (unit_moves x.abort x.target u change (λ p. []) w.units inside (Unit {0}) (λ unit. refl) (cleared x.abort (pending_of u w.units))))
      (mothers x n u w (on_unit u change w.units) (lens m.sound change)
      (ap (λ (unit : UnitOfWork). is_some (Core.begun unit.core)) (unit_here u change w.units inside))
      (λ v other. unit_there u v change w.units other))
  entry (whats.Done code to_task to_step) m =
      done_moves code to_task to_step m.sound (Core.begun (core_at u w)) refl m.can.what.1 (outcome_of d w u (whats.Done code to_task to_step) m.may) _
      (ap cause_of (unit_same (λ (unit : UnitOfWork). Core.begun unit.core) (own_change d n w.managers (whats.Done code to_task to_step)) (λ unit. refl) u u w.units))
  entry (whats.Purge unit) m =
      let purge : UnitOfWork → UnitOfWork = λ unit. record unit { core = purged_core unit.core; pending = [] } in
      let units : List UnitOfWork = on_unit u (own_change d n w.managers (whats.Purge unit)) w.units in
      let there : unit < length units = omega (arith, m.can.what.0, IsSound.units_len m.sound, length-on_unit u (own_change d n w.managers (whats.Purge unit)) w.units) in
      let pend : pending_of x.target units ≡ pending_of x.target w.units = unit_same UnitOfWork.pending (own_change d n w.managers (whats.Purge unit)) (λ unit. refl) u x.target w.units in
      said_by (λ h. h) (λ h. h) (λ h. subst (IsIn x.abort) pend h) (λ h. subst (IsIn x.abort) (sym pend) h) (λ h. h) (λ h. h) (λ h. sym h.0) (λ h. (sym h, tt))
      (unit_moves x.abort x.target unit purge (λ p. []) units there (Unit {0}) (λ unit. refl) (cleared x.abort (pending_of unit units)))
  entry what m = own_same what (λ unit. refl)

-- at the start no abort is pending
pub none_at_start : (d : DeckView) (v : ℕ) → pending_of v (units_at_start d) ≡ []
none_at_start d v =
    unit_same UnitOfWork.pending (at_birth 0 (program_of d (job_step d)) []) (λ unit. refl) (job_step d) v (map (λ card. unborn_unit) d.units ++ unborn_unit ∷ [])
    ∙ ap UnitOfWork.pending (all_unborn d.units v)

pub follows : Follows aborts
follows = record {
  first = λ d deck x h. subst (IsIn x.abort) (none_at_start d x.target) h;
  there = λ d deck x h. absurd h;
  changes = λ d w n e m x. entry d w n e.unit x e.what m;
}
