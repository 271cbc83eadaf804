-- How many commands have arrived for a unit, after an entry.
use Rattle.std.proofs.Common.{◌≡◌, ℕ, ◌+◌, ◌<◌, Bool, true, false, cond, not, ◌&&◌, List, [], ◌∷◌, ◌++◌, length, map, Option, Some, None, zero, suc, refl, sym, ap, subst, arith, ◌∙◌}
use Rattle.std.proofs.lemmas.Bool.{eqb-false, eqb-true}
use Rattle.std.proofs.lemmas.List.{length-append}
use Rattle.std.proofs.lemmas.List.Elements.{filter-append}
use Rattle.std.specs.Prelude.{IsTrue, filter, if◌then◌else◌, is_some, slice_get, ◌==◌}
use Rattle.rtm_deck_items.specs.Reading.{job_step, op_at, program_of}
use Rattle.rtm_deck_items.specs.View.{DeckView}
use Rattle.rtm_deck_items.specs.WellFormed.{is_well_formed}
use Rattle.rtm_deck_items.specs.declared.deck.Command.{Command}
use Rattle.rtm_deck_items.specs.declared.op.Op.{Op}
use Rattle.rtm_deck_items.specs.declared.op.Op.TheVariants as ops
use Rattle.rtm_model.specs.declared.abort.Abort.{Abort}
use Rattle.rtm_model.specs.declared.entry.Entry.{Entry}
use Rattle.rtm_model.specs.declared.entry.What.{What}
use Rattle.rtm_model.specs.declared.entry.What.TheVariants as whats
use Rattle.rtm_model.specs.declared.error_record.ErrorRecord.{ErrorRecord}
use Rattle.rtm_model.specs.declared.reg.Reg.{Reg}
use Rattle.rtm_model.specs.inner.Soundness.{IsSound}
use Rattle.rtm_model.specs.Advance.{advance, after_arrival, beyond_card, purged_core, with_unit, world}
use Rattle.rtm_model.specs.Births.{block_birth}
use Rattle.rtm_model.specs.Legal.{Legal}
use Rattle.rtm_model.specs.Moments.{is_arrival}
use Rattle.rtm_model.specs.OwnChange.{own_change}
use Rattle.rtm_model.specs.Posts.{abterm_abort, cancel_abort, detach_abort, mother_abort, post_related, post_step, post_to, post_to_subtasks, srb_abort, step_abort, with_posted}
use Rattle.rtm_model.specs.Surroundings.{is_late}
use Rattle.rtm_model.specs.Tasks.{Life, Tree, is_subtask_of}
use Rattle.rtm_model.specs.World.{Core, UnitOfWork, World, at_birth, on_unit, related_task, unborn_unit, unit_at}
use Rattle.rtm_model.proofs.Start.{all_unborn}
use Rattle.rtm_model.proofs.Units.{length-on_unit, unit_here, unit_same, unit_there}
use Rattle.rtm_law_births.proofs.Beyond.{own}
use Rattle.rtm_law_births.proofs.Living.{IsMade}
use Rattle.rtm_law_landings.proofs.Appended.{holds_of}
use Rattle.rtm_law_sound.proofs.Histories.{world-append, world-nil}
use Rattle.rtm_law_flags.specs.Said.{arrivals}

abbrev arrived_of : ℕ → List UnitOfWork → ℕ
arrived_of v units = UnitOfWork.arrived (unit_at v units)

-- posts leave the count
post_count : (w : World) (t : ℕ) (a : Abort) (v : ℕ) → arrived_of v (World.units (post_to t a w)) ≡ arrived_of v w.units
post_count w t a v = unit_same UnitOfWork.arrived (with_posted (is_late w t) a) (λ unit. refl) t v w.units

related_count : (n : ℕ) (rel : Option ℕ) (r : Option ErrorRecord) (w : World) (v : ℕ) → arrived_of v (World.units (post_related n rel r w)) ≡ arrived_of v w.units
related_count n None r w v = refl
related_count n (Some task) None w v = refl
related_count n (Some task) (Some r) w v = post_count w task (srb_abort n r) v

step_if : (n job : ℕ) (r : ErrorRecord) (w : World) (v : ℕ) (b : Bool) → arrived_of v (World.units (if b then post_to job (step_abort n r) w else w)) ≡ arrived_of v w.units
step_if n job r w v true = post_count w job (step_abort n r) v
step_if n job r w v false = refl

step_count : (n : ℕ) (is_other : Bool) (job : ℕ) (r : Option ErrorRecord) (w : World) (v : ℕ) → arrived_of v (World.units (post_step n is_other job r w)) ≡ arrived_of v w.units
step_count n is_other job None w v = refl
step_count n is_other job (Some r) w v = step_if n job r w v (is_other && r.flags.step)

mother_if : (a : Abort) (unit : UnitOfWork) (b : Bool) → UnitOfWork.arrived (if b then with_posted (is_some (Core.begun unit.core)) a unit else unit) ≡ unit.arrived
mother_if a unit true = refl
mother_if a unit false = refl

mothers_count : (u : ℕ) (a : Abort) (lives : List Life) (units : List UnitOfWork) (v : ℕ) → arrived_of v (post_to_subtasks u a lives units) ≡ arrived_of v units
mothers_count u a [] units v = refl
mothers_count u a (life ∷ lives) [] v = refl
mothers_count u a (life ∷ lives) (unit ∷ units) zero = mother_if a unit (is_subtask_of u life)
mothers_count u a (life ∷ lives) (unit ∷ units) (suc v) = mothers_count u a lives units v

module _ (d : DeckView) (n u v : ℕ) where
  birth_count : (w : World) (b : Bool) (unit : ℕ) (mother : Option ℕ) (estais : List Reg) → arrived_of v (World.units (if b then with_unit d n unit mother estais w else w)) ≡ arrived_of v w.units
  birth_count w true unit mother estais = unit_same UnitOfWork.arrived (at_birth (block_birth n) (program_of d unit) estais) (λ card. refl) unit v w.units
  birth_count w false unit mother estais = refl

  card_count : (w : World) (rc : ℕ) (op : Op) → arrived_of v (World.units (beyond_card d n u rc op w)) ≡ arrived_of v w.units
  card_count w rc (ops.Attachx unit estai term) = birth_count w (rc == 0) unit (Some u) _
  card_count w rc (ops.Schedule unit) = birth_count w (rc == 0) unit None []
  card_count w rc (ops.Detach unit stae) = post_count w unit (detach_abort n stae) v
  card_count w rc (ops.Abterm unit code reason dump retry) = post_count w unit (abterm_abort n code reason dump retry) v
  card_count w rc _ = refl

  own_count : (w : World) (what : What) → arrived_of v (World.units (own d w n u what)) ≡ arrived_of v w.units
  own_count w what = unit_same UnitOfWork.arrived (own_change d n w.managers what) (λ unit. refl) u v w.units

  abbrev one_more : UnitOfWork → UnitOfWork
  one_more unit = record unit { arrived = unit.arrived + 1 }

  more_if : (units : List UnitOfWork) → u < length units → (b : Bool) → (u == v) ≡ b → arrived_of v (on_unit u one_more units) ≡ arrived_of v units + (if b then 1 else 0)
  more_if units within true e =
      subst (λ (i : ℕ). arrived_of i (on_unit u one_more units) ≡ arrived_of i units + 1) (eqb-true u v e) (ap UnitOfWork.arrived (unit_here u one_more units within))
  more_if units within false e =
      let same : arrived_of v (on_unit u one_more units) ≡ arrived_of v units = ap UnitOfWork.arrived (unit_there u v one_more units (λ is. eqb-false u v e (sym is))) in
      omega (arith, same)

  command_count : (w : World) → u < length w.units → (o : Option Command) → is_some o ≡ true → arrived_of v (World.units (after_arrival n u o w)) ≡ arrived_of v w.units + (if u == v then 1 else 0)
  command_count w within None some = absurd cc
  command_count w within (Some command) some =
      let units : List UnitOfWork = World.units (post_to u (cancel_abort n command.dump) w) in
      let inside : u < length units = omega (arith, within, length-on_unit u (with_posted (is_late w u) (cancel_abort n command.dump)) w.units) in
      more_if units inside (u == v) refl ∙ ap (λ (k : ℕ). k + (if u == v then 1 else 0)) (post_count w u (cancel_abort n command.dump) v)

  -- how many more there are
  abbrev more : What → ℕ
  more what = if (u == v) && is_arrival what then 1 else 0

  none_more : (a b : ℕ) (c : Bool) → a ≡ b → a ≡ b + (if c && false then 1 else 0)
  none_more a b true h = omega (arith, h)
  none_more a b false h = omega (arith, h)

  and_true : (c : Bool) → (c && true) ≡ c
  and_true true = refl
  and_true false = refl

  there : (commands : List Command) (cmd : ℕ) → cmd < length commands → is_some (slice_get commands cmd) ≡ true
  there [] cmd h = absurd (omega (arith, h))
  there (c ∷ cs) zero h = refl
  there (c ∷ cs) (suc cmd) h = there cs cmd (omega (arith, h))

  count_after : (w : World) (what : What) → IsMade d w n (record { unit = u; what = what })
      → arrived_of v (World.units (advance d w n (record { unit = u; what = what }))) ≡ arrived_of v w.units + more what
  count_after w (whats.Exec at rc) m =
      none_more _ _ (u == v) (card_count (own d w n u (whats.Exec at rc)) rc (op_at d at.prog at.op) ∙ own_count w (whats.Exec at rc))
  count_after w (whats.Arrive cmd became) m =
      let k : World = own d w n u (whats.Arrive cmd became) in
      let inside : u < length (World.units k) = omega (arith, m.can.unit, IsSound.units_len m.sound, length-on_unit u (own_change d n w.managers (whats.Arrive cmd became)) w.units) in
      rw (and_true (u == v)) (command_count k inside (slice_get d.commands cmd) (there d.commands cmd m.can.what.1) ∙ ap (λ (i : ℕ). i + (if u == v then 1 else 0)) (own_count w (whats.Arrive cmd became)))
  count_after w (whats.Begin code dump) m =
      none_more _ _ (u == v) (mothers_count u (mother_abort n) (Tree.lives w.tree) (World.units (own d w n u (whats.Begin code dump))) v ∙ own_count w (whats.Begin code dump))
  count_after w (whats.Done code to_task to_step) m =
      none_more _ _ (u == v) (step_count n (not (u == job_step d)) (job_step d) _ _ v ∙ related_count n (related_task d u) _ _ v ∙ own_count w (whats.Done code to_task to_step))
  count_after w (whats.Purge unit) m =
      none_more _ _ (u == v)
      (unit_same UnitOfWork.arrived (λ x. record x { core = purged_core x.core; pending = [] }) (λ x. refl) unit v (World.units (own d w n u (whats.Purge unit))) ∙ own_count w (whats.Purge unit))
  count_after w what m = none_more _ _ (u == v) (own_count w what)

-- Each history

abbrev is_his : ℕ → Entry → Bool
is_his v e = (e.unit == v) && is_arrival e.what

counted : (e : Entry) (b : Bool) → length (cond b (e ∷ []) []) ≡ (if b then 1 else 0)
counted e true = refl
counted e false = refl

one_counted : (v : ℕ) (h : List Entry) (e : Entry) → arrivals v (h ++ e ∷ []) ≡ arrivals v h + (if is_his v e then 1 else 0)
one_counted v h e =
    ap (λ (es : List Entry). length es) (filter-append (is_his v) h (e ∷ [])) ∙ length-append (filter (is_his v) h) (filter (is_his v) (e ∷ []))
    ∙ ap (λ (k : ℕ). arrivals v h + k) (counted e (is_his v e))

pub arrived_agree : (d : DeckView) → IsTrue (is_well_formed d) → (v : ℕ) (h : List Entry) → Legal d h → UnitOfWork.arrived (unit_at v (World.units (world d h))) ≡ arrivals v h
arrived_agree d deck v h legal =
    holds_of d deck (λ (es : List Entry). arrived_of v (World.units (world d es)) ≡ arrivals v es)
    (ap (λ (w : World). arrived_of v w.units) (world-nil d)
    ∙ unit_same UnitOfWork.arrived (at_birth 0 (program_of d (job_step d)) []) (λ unit. refl) (job_step d) v (map (λ card. unborn_unit) d.units ++ unborn_unit ∷ [])
    ∙ ap UnitOfWork.arrived (all_unborn d.units v))
    (λ front e before m agree.
    ap (λ (w : World). arrived_of v w.units) (world-append d front e) ∙ count_after d (length front) e.unit v (world d front) e.what m
    ∙ ap (λ (k : ℕ). k + (if (e.unit == v) && is_arrival e.what then 1 else 0)) agree ∙ sym (one_counted v front e))
    h legal
