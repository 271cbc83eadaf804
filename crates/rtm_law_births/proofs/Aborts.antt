-- Births and deaths of pending aborts, entry by entry.
use Rattle.std.proofs.Common.{◌≡◌, ℕ, ◌<◌, ◌≤◌, Bool, true, false, not, ◌&&◌, ◌||◌, List, [], ◌∷◌, length, Option, Some, None, refl, sym, ap, subst, arith, inl, inr, ◌⊎◌, ◌∙◌}
use Rattle.std.proofs.lemmas.Bool.{eqb-false, eqb-true, or_right}
use Rattle.std.proofs.lemmas.List.{get_or-set_other}
use Rattle.std.specs.Option.{option_map, option_map_or}
use Rattle.std.specs.Prelude.{IfSome, if◌then◌else◌, is_some, ◌==◌}
use Rattle.rtm_codes.specs.declared.code.Code.{Code}
use Rattle.rtm_deck_items.specs.Reading.{job_step, op_at}
use Rattle.rtm_deck_items.specs.View.{DeckView}
use Rattle.rtm_deck_items.specs.declared.deck.Command.{Command}
use Rattle.rtm_deck_items.specs.declared.op.Op.{Op}
use Rattle.rtm_deck_items.specs.declared.op.Op.TheVariants as ops
use Rattle.rtm_model.specs.declared.abort.Abort.{Abort}
use Rattle.rtm_model.specs.declared.block.Place.{Place}
use Rattle.rtm_model.specs.declared.entry.Class.{Class}
use Rattle.rtm_model.specs.declared.entry.Class.TheVariants as classes
use Rattle.rtm_model.specs.declared.entry.Entry.{Entry}
use Rattle.rtm_model.specs.declared.entry.Fate.{Fate}
use Rattle.rtm_model.specs.declared.entry.Fate.TheVariants.{Late, Merged, Queued}
use Rattle.rtm_model.specs.declared.entry.What.TheVariants as whats
use Rattle.rtm_model.specs.declared.error_record.ErrorRecord.{ErrorRecord}
use Rattle.rtm_model.specs.declared.outcome.Outcome.TheVariants.{Executed}
use Rattle.rtm_model.specs.declared.reg.Reg.{Reg}
use Rattle.rtm_model.specs.Aborts.{HasDistinctClasses, after_landing, has_class, is_same_class}
use Rattle.rtm_model.specs.Arrivals.{arrival_entry, arrival_fate, is_due}
use Rattle.rtm_model.specs.Posts.{abterm_abort, detach_abort, post_related, post_step, post_to, srb_abort, step_abort, with_posted}
use Rattle.rtm_model.specs.OwnChange.{own_change}
use Rattle.rtm_model.specs.Advance.{beyond_card, with_unit}
use Rattle.rtm_model.specs.Cards.{fate_rc, fails, row}
use Rattle.rtm_model.specs.Moments.{IsIn}
use Rattle.rtm_model.specs.Surroundings.{fate_in, is_late, related_fate, step_fate, surroundings_at}
use Rattle.rtm_model.specs.Tasks.{Dormant, Life, Tree, is_living, life_of, with_end}
use Rattle.rtm_model.specs.World.{Core, UnitOfWork, World, at_birth, core_at, lives_in, on_unit, unit_at}
use Rattle.rtm_model.specs.Blocks.{without_newest}
use Rattle.rtm_model.proofs.Landing.{IsFirst, behind_first, same_class}
use Rattle.rtm_model.proofs.Units.{length-on_unit, unit_here, unit_same, unit_there}
use Rattle.rtm_model.proofs.Cards.{card_begun}
use Rattle.rtm_law_births.specs.Aborts.{CardPosts, IsQueued, PendingAbort, RelatedPosts, StepPosts}
use Rattle.rtm_law_births.proofs.Beyond.{own, with_units}
use Rattle.rtm_law_births.proofs.Living.{Moves, said_by, same_list, first_then, unmoved}
use Rattle.rtm_law_births.proofs.Posts.{grows, other_posted, pending_of, posts, queued_by_rc, rc_of_queued, same_fate, same_late}

-- an entry's own change leaves the pending aborts of an entry that isn't a LAND or a BEGIN, and how units have begun
-- to end
module _ (d : DeckView) (w : World) (n u : ℕ) where
  pub card_pending : (at : Place) (rc v : ℕ) → pending_of v (World.units (own d w n u (whats.Exec at rc))) ≡ pending_of v w.units
  card_pending at rc v = unit_same UnitOfWork.pending (own_change d n w.managers (whats.Exec at rc)) (λ unit. refl) u v w.units

  pub card_begins : (at : Place) (rc v : ℕ) → Core.begun (core_at v (own d w n u (whats.Exec at rc))) ≡ Core.begun (core_at v w)
  card_begins at rc v =
      unit_same (λ (unit : UnitOfWork). Core.begun unit.core) (own_change d n w.managers (whats.Exec at rc))
      (λ unit. card_begun n _ (op_at d at.prog at.op) unit.core) u v w.units

-- what comes of an abort where each list is as it was
module _ (x : PendingAbort) where
  pub same_lists : (before after : List UnitOfWork) → ((v : ℕ) → pending_of v after ≡ pending_of v before) → Moves (IsIn x.abort (pending_of x.target after)) (IsIn x.abort (pending_of x.target before)) ⊥ ⊥
  same_lists before after e = same_list x.abort (pending_of x.target before) (pending_of x.target after) (e x.target)

  -- a post in a world that agrees with that one on pending aborts and on who is late
  pub posts_like : (w w2 : World) → length (Tree.lives w2.tree) ≤ length w2.units → ((v : ℕ) → pending_of v w2.units ≡ pending_of v w.units)
      → (t : ℕ) (abort : Abort) → is_late w2 t ≡ is_late w t
      → Moves (IsIn x.abort (pending_of x.target (World.units (post_to t abort w2)))) (IsIn x.abort (pending_of x.target w.units)) (IsQueued x t abort (fate_in w t abort.class)) ⊥
  posts_like w w2 lens same t abort late =
      let fate = same_fate w2 w t abort.class late (same t) in
      said_by (λ h. h) (λ h. h)
      (λ h. subst (IsIn x.abort) (same x.target) h) (λ h. subst (IsIn x.abort) (sym (same x.target)) h)
      (λ h. record { target_is = h.0; abort_is = h.1; queued = sym fate ∙ h.2 })
      (λ h. (h.target_is, h.abort_is, fate ∙ h.queued))
      (λ h. h) (λ h. h) (posts w2 lens t abort x.abort x.target)

-- cards
own_rc : (b : Bool) (code : Code) (fate : Fate) (rc : ℕ) → (if b then Executed (fate_rc fate) else fails code) ≡ Executed rc → Executed (fate_rc fate) ≡ Executed rc
own_rc true code became rc e = e
own_rc false code became rc e = absurd cc

module _ (d : DeckView) (n u rc : ℕ) (w : World) (x : PendingAbort) (units : List UnitOfWork)
    (lens : length (Tree.lives w.tree) ≤ length units)
    (same : (v : ℕ) → pending_of v units ≡ pending_of v w.units)
    (begun : (v : ℕ) → Core.begun (UnitOfWork.core (unit_at v units)) ≡ Core.begun (core_at v w)) where
  posted_by : (t : ℕ) (abort : Abort) → Executed (fate_rc (fate_in w t abort.class)) ≡ Executed rc
      → Moves (IsIn x.abort (pending_of x.target (World.units (post_to t abort (with_units w units))))) (IsIn x.abort (pending_of x.target w.units)) ((rc ≡ 0) × (x.target ≡ t) × (x.abort ≡ abort)) ⊥
  posted_by t abort e =
      said_by (λ h. h) (λ h. h) (λ h. h) (λ h. h)
      (λ h. (rc_of_queued (fate_in w t abort.class) rc e h.queued, h.target_is, h.abort_is))
      (λ h. record { target_is = h.1; abort_is = h.2; queued = queued_by_rc (fate_in w t abort.class) rc e h.0 })
      (λ h. h) (λ h. h)
      (posts_like x w (with_units w units) lens same t abort (same_late (with_units w units) w t refl (begun t)))

  if_born : (b : Bool) (unit : ℕ) (mother : Option ℕ) (estais : List Reg) (v : ℕ) → pending_of v (World.units (if b then with_unit d n unit mother estais (with_units w units) else with_units w units)) ≡ pending_of v w.units
  if_born true unit mother estais v = unit_same UnitOfWork.pending (at_birth _ _ estais) (λ unit. refl) unit v units ∙ same v
  if_born false unit mother estais v = same v

  pub card : (op : Op) → row (core_at u w) (surroundings_at d w u op) op ≡ Executed rc
      → Moves (IsIn x.abort (pending_of x.target (World.units (beyond_card d n u rc op (with_units w units))))) (IsIn x.abort (pending_of x.target w.units)) (CardPosts n rc op x) ⊥
  card (ops.Detach unit stae) e = posted_by unit (detach_abort n stae) (own_rc _ _ _ rc e)
  card (ops.Abterm unit code reason dump retry) e = posted_by unit (abterm_abort n code reason dump retry) e
  card (ops.Attachx unit estai term) e = same_list x.abort (pending_of x.target w.units) _ (if_born (rc == 0) unit (Some u) _ x.target)
  card (ops.Schedule unit) e = same_list x.abort (pending_of x.target w.units) _ (if_born (rc == 0) unit None [] x.target)
  card _ e = same_list x.abort (pending_of x.target w.units) (pending_of x.target units) (same x.target)

-- A change of one unit's list

module _ (a : Abort) (t u : ℕ) (f : UnitOfWork → UnitOfWork) (g : List Abort → List Abort) (units : List UnitOfWork) (within : u < length units) (K : Type 0)
    (changed : (unit : UnitOfWork) → UnitOfWork.pending (f unit) ≡ g unit.pending)
    (moves : Moves (IsIn a (g (pending_of u units))) (IsIn a (pending_of u units)) ⊥ K) where
  unit_moves_if : (b : Bool) → (t == u) ≡ b → Moves (IsIn a (pending_of t (on_unit u f units))) (IsIn a (pending_of t units)) ⊥ ((t ≡ u) × K)
  unit_moves_if true e =
      let same = eqb-true t u e in
      let list : pending_of u (on_unit u f units) ≡ g (pending_of u units) = ap UnitOfWork.pending (unit_here u f units within) ∙ changed (unit_at u units) in
      said_by (λ h. subst (λ (i : ℕ). IsIn a (pending_of i (on_unit u f units))) (sym same) (subst (IsIn a) (sym list) h))
      (λ h. subst (IsIn a) list (subst (λ (i : ℕ). IsIn a (pending_of i (on_unit u f units))) same h))
      (λ h. subst (λ (i : ℕ). IsIn a (pending_of i units)) (sym same) h)
      (λ h. subst (λ (i : ℕ). IsIn a (pending_of i units)) same h)
      (λ h. h) (λ h. h) (λ h. (same, h)) (λ h. h.1) moves
  unit_moves_if false e =
      let other = eqb-false t u e in
      said_by (λ h. h) (λ h. h) (λ h. h) (λ h. h) (λ h. h) (λ h. h) (λ h. absurd h) (λ h. other h.0)
      (same_list a (pending_of t units) (pending_of t (on_unit u f units)) (ap UnitOfWork.pending (unit_there u t f units other)))

  pub unit_moves : Moves (IsIn a (pending_of t (on_unit u f units))) (IsIn a (pending_of t units)) ⊥ ((t ≡ u) × K)
  unit_moves = unit_moves_if (t == u) refl

-- the first is gone
has_in : (a : Abort) (p : List Abort) → IsIn a p → has_class a.class p ≡ true
has_in a [] h = absurd h
has_in a (b ∷ p) (inl same) =
    let here : is_same_class a.class b.class ≡ true = subst (λ (x : Abort). is_same_class a.class x.class ≡ true) same (same_class a.class) in
    ap (λ (t : Bool). t || has_class a.class p) here
has_in a (b ∷ p) (inr h) = ap (λ (t : Bool). is_same_class a.class b.class || t) (has_in a p h) ∙ or_right (is_same_class a.class b.class) true refl

behind_list : (a : Abort) (p : List Abort) (class : Class) (from : ℕ) (M : Abort → Type 0) → IsFirst class from M p → HasDistinctClasses p
    → Moves (IsIn a (without_newest p)) (IsIn a p) ⊥ ((class ≡ a.class) × (from ≡ a.from))
behind_list a [] class from M can distinct = absurd can
behind_list a (b ∷ later) class from M can distinct = record {
  came = λ h. inr (
    inr h,
    λ killed.
        let none : has_class b.class later ≡ false = distinct.0 in
        let some : has_class a.class later ≡ true = has_in a later h in
        let one : b.class ≡ a.class = can.0 ∙ killed.0 in
        let clash : has_class a.class later ≡ false = subst (λ (c : Class). has_class c later ≡ false) one none in
        absurd cc,
  );
  born = λ h. absurd h;
  stays = λ h alive. elim h [
    | inl same ↦ absurd (alive (sym can.0 ∙ ap Abort.class (sym same), sym can.1 ∙ ap Abort.from (sym same)))
    | inr more ↦ more
  ];
}

pub landed_list : (a : Abort) (p : List Abort) (class : Class) (from : ℕ) (M : Abort → Type 0) → IsFirst class from M p → HasDistinctClasses p
    → Moves (IsIn a (after_landing class from p)) (IsIn a p) ⊥ ((class ≡ a.class) × (from ≡ a.from))
landed_list a p class from M can distinct =
    subst (λ (q : List Abort). Moves (IsIn a q) (IsIn a p) ⊥ ((class ≡ a.class) × (from ≡ a.from))) (sym (behind_first class from M p can)) (behind_list a p class from M can distinct)

-- A command that arrives

arrives_if : (d : DeckView) (w : World) (cmd u cmd2 : ℕ) (fate : Fate) (command : Command) (b : Bool)
    → option_map (arrival_entry command.target cmd) (if b then Some (fate_in w command.target classes.Cancel) else None) ≡ Some (record { unit = u; what = whats.Arrive cmd2 fate })
    → (u ≡ command.target) × (fate ≡ fate_in w command.target classes.Cancel)
arrives_if d w cmd u cmd2 became command true e =
    let same : arrival_entry command.target cmd (fate_in w command.target classes.Cancel) ≡ record { unit = u; what = whats.Arrive cmd2 became } = cc in
    let what : whats.Arrive cmd (fate_in w command.target classes.Cancel) ≡ whats.Arrive cmd2 became = ap Entry.what same in
    let two : fate_in w command.target classes.Cancel ≡ became = cc in
    (sym (ap Entry.unit same), sym two)
arrives_if d w cmd u cmd2 became command false e = absurd cc

pub arrives : (d : DeckView) (w : World) (n cmd u cmd2 : ℕ) (fate : Fate) (quiet : Bool) (o : Option Command)
    → option_map (arrival_entry (option_map_or (λ (c : Command). c.target) o 0) cmd) (arrival_fate d w n quiet cmd o) ≡ Some (record { unit = u; what = whats.Arrive cmd2 fate })
    → IfSome o (λ command. (u ≡ command.target) × (fate ≡ fate_in w command.target classes.Cancel))
arrives d w n cmd u cmd2 became quiet None e = tt
arrives d w n cmd u cmd2 became quiet (Some command) e = arrives_if d w cmd u cmd2 became command (is_due d w n quiet cmd command) e

-- A unit's end

module _ (w w1 : World) (u : ℕ) (ended : Tree.lives w1.tree ≡ with_end u (Tree.lives w.tree)) (begun : (v : ℕ) → Core.begun (core_at v w1) ≡ Core.begun (core_at v w)) (has : is_some (Core.begun (core_at u w)) ≡ true) where
  late_if : (t : ℕ) (b : Bool) → (t == u) ≡ b → is_late w1 t ≡ is_late w t
  late_if t true e =
      let same = eqb-true t u e in
      let now : is_some (Core.begun (core_at t w)) ≡ true = rw same has in
      let after : is_some (Core.begun (core_at t w1)) ≡ true = ap is_some (begun t) ∙ now in
      or_right (not (lives_in w1 t)) _ after ∙ sym (or_right (not (lives_in w t)) _ now)
  late_if t false e =
      let life : life_of t (Tree.lives w1.tree) ≡ life_of t (Tree.lives w.tree) =
      ap (life_of t) ended ∙ get_or-set_other (Tree.lives w.tree) u t _ Dormant (eqb-false t u e) in
      ap (λ (l : Life). not (is_living l) || is_some (Core.begun (core_at t w1))) life
      ∙ ap (λ (b : Bool). not (lives_in w t) || b) (ap is_some (begun t))

  pub late_after : (t : ℕ) → is_late w1 t ≡ is_late w t
  late_after t = late_if t (t == u) refl

-- the abort of an SRB's error, and then that of the job step's end
module _ (d : DeckView) (n u : ℕ) (w w1 : World) (x : PendingAbort)
    (lens : length (Tree.lives w1.tree) ≤ length w1.units)
    (same : (v : ℕ) → pending_of v w1.units ≡ pending_of v w.units)
    (late : (t : ℕ) → is_late w1 t ≡ is_late w t) where
  related_moves : (rel : Option ℕ) (cause : Option ErrorRecord) (to_task : Option Fate) → to_task ≡ (if is_some cause then related_fate w rel else None)
      → Moves (IsIn x.abort (pending_of x.target (World.units (post_related n rel cause w1)))) (IsIn x.abort (pending_of x.target w.units)) (RelatedPosts n rel cause to_task x) ⊥
  related_moves None cause to_task e = same_lists x w.units w1.units same
  related_moves (Some task) None to_task e = same_lists x w.units w1.units same
  related_moves (Some task) (Some r) to_task e =
      rw e (posts_like x w w1 lens same task (srb_abort n r) (late task))

  -- the SRB's abort is of another class
  class_related : (rel : Option ℕ) (cause : Option ErrorRecord) (v : ℕ) → has_class classes.Step (pending_of v (World.units (post_related n rel cause w1))) ≡ has_class classes.Step (pending_of v w.units)
  class_related None cause v = ap (has_class classes.Step) (same v)
  class_related (Some task) None v = ap (has_class classes.Step) (same v)
  class_related (Some task) (Some r) v = elim (grows w1 lens task (srb_abort n r) v) [
    | inl still ↦ ap (has_class classes.Step) (still ∙ same v)
    | inr more ↦ ap (has_class classes.Step) more.1 ∙ other_posted classes.Step (srb_abort n r) (pending_of v w1.units) more.0 refl ∙ ap (has_class classes.Step) (same v)
  ]

  late_related : (rel : Option ℕ) (cause : Option ErrorRecord) (t : ℕ) → is_late (post_related n rel cause w1) t ≡ is_late w t
  late_related None cause t = late t
  late_related (Some task) None t = late t
  late_related (Some task) (Some r) t =
      same_late (post_to task (srb_abort n r) w1) w1 t refl (unit_same (λ (unit : UnitOfWork). Core.begun unit.core) (with_posted (is_late w1 task) (srb_abort n r)) (λ unit. refl) task t w1.units)
      ∙ late t

  lens_related : (rel : Option ℕ) (cause : Option ErrorRecord) → length (Tree.lives (World.tree (post_related n rel cause w1))) ≤ length (World.units (post_related n rel cause w1))
  lens_related None cause = lens
  lens_related (Some task) None = lens
  lens_related (Some task) (Some r) = omega (arith, lens, length-on_unit task (with_posted (is_late w1 task) (srb_abort n r)) w1.units)

  step_if : (w2 : World) (r : ErrorRecord) (to_step : Option Fate) (is_job ends : Bool)
      → length (Tree.lives w2.tree) ≤ length w2.units
      → fate_in w2 (job_step d) classes.Step ≡ fate_in w (job_step d) classes.Step
      → to_step ≡ (if ends then (if is_job then None else Some (fate_in w (job_step d) classes.Step)) else None)
      → Moves (IsIn x.abort (pending_of x.target (World.units (if not is_job && ends then post_to (job_step d) (step_abort n r) w2 else w2)))) (IsIn x.abort (pending_of x.target w2.units)) (StepPosts d n (Some r) to_step x) ⊥
  step_if w2 r to_step true true lens2 fate e = rw e (unmoved (λ h. h) (λ h. h) (λ h. h) (λ h. h))
  step_if w2 r to_step true false lens2 fate e = rw e (unmoved (λ h. h) (λ h. h) (λ h. h) (λ h. h))
  step_if w2 r to_step false false lens2 fate e = rw e (unmoved (λ h. h) (λ h. h) (λ h. h) (λ h. h))
  step_if w2 r to_step false true lens2 fate e =
      rw e (said_by (λ h. h) (λ h. h) (λ h. h) (λ h. h)
      (λ h. record { target_is = h.target_is; abort_is = h.abort_is; queued = sym fate ∙ h.queued })
      (λ h. record { target_is = h.target_is; abort_is = h.abort_is; queued = fate ∙ h.queued })
      (λ h. h) (λ h. h)
      (posts_like x w2 w2 lens2 (λ v. refl) (job_step d) (step_abort n r) refl))

  step_moves : (w2 : World) (cause : Option ErrorRecord) (to_step : Option Fate)
      → length (Tree.lives w2.tree) ≤ length w2.units
      → fate_in w2 (job_step d) classes.Step ≡ fate_in w (job_step d) classes.Step
      → to_step ≡ (if option_map_or (λ (r : ErrorRecord). r.flags.step) cause false then step_fate d w u else None)
      → Moves (IsIn x.abort (pending_of x.target (World.units (post_step n (not (u == job_step d)) (job_step d) cause w2)))) (IsIn x.abort (pending_of x.target w2.units)) (StepPosts d n cause to_step x) ⊥
  step_moves w2 None to_step lens2 fate e = unmoved (λ h. h) (λ h. h) (λ h. h) (λ h. h)
  step_moves w2 (Some r) to_step lens2 fate e = step_if w2 r to_step (u == job_step d) r.flags.step lens2 fate e

  fate_related : (rel : Option ℕ) (cause : Option ErrorRecord) → fate_in (post_related n rel cause w1) (job_step d) classes.Step ≡ fate_in w (job_step d) classes.Step
  fate_related rel cause =
      ap (λ (l : Bool). if l then Late else if has_class classes.Step (pending_of (job_step d) (World.units (post_related n rel cause w1))) then Merged else Queued) (late_related rel cause (job_step d))
      ∙ ap (λ (h : Bool). if is_late w (job_step d) then Late else if h then Merged else Queued) (class_related rel cause (job_step d))

  pub ends : (rel : Option ℕ) (cause : Option ErrorRecord) (to_task to_step : Option Fate)
      → to_task ≡ (if is_some cause then related_fate w rel else None)
      → to_step ≡ (if option_map_or (λ (r : ErrorRecord). r.flags.step) cause false then step_fate d w u else None)
      → Moves (IsIn x.abort (pending_of x.target (World.units (post_step n (not (u == job_step d)) (job_step d) cause (post_related n rel cause w1))))) (IsIn x.abort (pending_of x.target w.units)) (RelatedPosts n rel cause to_task x ⊎ StepPosts d n cause to_step x) ⊥
  ends rel cause to_task to_step e f =
      first_then (related_moves rel cause to_task e)
      (step_moves (post_related n rel cause w1) cause to_step (lens_related rel cause) (fate_related rel cause) f)
