-- Which events are posted, and whether and how the address space ends, after an entry.
use Rattle.std.proofs.Common.{◌≡◌, ℕ, Bool, true, false, not, ◌||◌, List, [], ◌∷◌, ◌++◌, length, Option, Some, None, refl, sym, ap, subst, ◌∙◌}
use Rattle.std.proofs.lemmas.Bool.{eqb-true, or_right}
use Rattle.std.specs.Prelude.{IsTrue, if◌then◌else◌, slice_get, ◌==◌}
use Rattle.rtm_codes.specs.declared.code.Code.{Code}
use Rattle.rtm_deck_items.specs.Reading.{job_step, op_at}
use Rattle.rtm_deck_items.specs.View.{DeckView}
use Rattle.rtm_deck_items.specs.WellFormed.{is_well_formed}
use Rattle.rtm_deck_items.specs.declared.op.Op.{Op}
use Rattle.rtm_deck_items.specs.declared.op.Op.TheVariants as ops
use Rattle.rtm_model.specs.declared.entry.Entry.{Entry}
use Rattle.rtm_model.specs.declared.entry.What.{What}
use Rattle.rtm_model.specs.declared.entry.What.TheVariants as whats
use Rattle.rtm_model.specs.declared.reg.Reg.{Reg}
use Rattle.rtm_model.specs.Advance.{advance, beyond_card, with_unit, world}
use Rattle.rtm_model.specs.Legal.{Legal}
use Rattle.rtm_model.specs.Tasks.{Tree, is_posted}
use Rattle.rtm_model.specs.World.{World, related_task}
use Rattle.rtm_law_births.proofs.Beyond.{arrived_units, own, related_units, step_units}
use Rattle.rtm_law_landings.proofs.Appended.{holds_of}
use Rattle.rtm_law_landings.proofs.Booleans.{or-false}
use Rattle.rtm_law_landings.proofs.Lives.{memory_if}
use Rattle.rtm_law_sound.proofs.Histories.{world-append, world-nil}
use Rattle.rtm_law_flags.specs.Said.{code_by_card, end_code, end_code_after, end_code_from, ends_space, has_ended_space, has_posted, posts, says_post}
use Rattle.rtm_law_flags.proofs.Agree.{any_agrees}

-- Events

once_more : (event posted : ℕ) (events : List ℕ) → is_posted posted events ≡ true → (b : Bool) → (event == posted) ≡ b → is_posted event events ≡ (is_posted event events || b)
once_more event posted events h true e =
    let same : is_posted event events ≡ true = subst (λ (i : ℕ). is_posted i events ≡ true) (sym (eqb-true event posted e)) h in
    same ∙ sym (or_right (is_posted event events) true refl)
once_more event posted events h false e = sym (or-false (is_posted event events))

swapped : (a b : Bool) → (a || b) ≡ (b || a)
swapped true b = sym (or_right b true refl)
swapped false b = sym (or-false b)

event_if : (event posted : ℕ) (events : List ℕ) (b : Bool) → is_posted posted events ≡ b → is_posted event (if b then events else posted ∷ events) ≡ (is_posted event events || (event == posted))
event_if event posted events true h = once_more event posted events h (event == posted) refl
event_if event posted events false h = swapped (event == posted) (is_posted event events)

module _ (d : DeckView) (n u : ℕ) where
  events_if : (w : World) (b : Bool) (unit : ℕ) (mother : Option ℕ) (estais : List Reg) → Tree.events (World.tree (if b then with_unit d n unit mother estais w else w)) ≡ Tree.events w.tree
  events_if w true unit mother estais = refl
  events_if w false unit mother estais = refl

  posted_card : (event : ℕ) (w : World) (rc : ℕ) (op : Op) → is_posted event (Tree.events (World.tree (beyond_card d n u rc op w))) ≡ (is_posted event (Tree.events w.tree) || says_post event op)
  posted_card event w rc (ops.Attachx unit estai term) = ap (is_posted event) (events_if w (rc == 0) unit (Some u) _) ∙ sym (or-false (is_posted event (Tree.events w.tree)))
  posted_card event w rc (ops.Schedule unit) = ap (is_posted event) (events_if w (rc == 0) unit None []) ∙ sym (or-false (is_posted event (Tree.events w.tree)))
  posted_card event w rc (ops.Post posted) = event_if event posted (Tree.events w.tree) (is_posted posted (Tree.events w.tree)) refl
  posted_card event w rc _ = sym (or-false (is_posted event (Tree.events w.tree)))

  posted_after : (event : ℕ) (w : World) (what : What)
      → is_posted event (Tree.events (World.tree (advance d w n (record { unit = u; what = what })))) ≡ (is_posted event (Tree.events w.tree) || posts d event what)
  posted_after event w (whats.Exec at rc) = posted_card event (own d w n u (whats.Exec at rc)) rc (op_at d at.prog at.op)
  posted_after event w (whats.Arrive cmd became) =
      ap (λ (k : World). is_posted event (Tree.events k.tree)) (arrived_units n u (slice_get d.commands cmd) (own d w n u (whats.Arrive cmd became)))
      ∙ sym (or-false (is_posted event (Tree.events w.tree)))
  posted_after event w (whats.Done code to_task to_step) =
      ap (λ (k : World). is_posted event (Tree.events k.tree)) (step_units n (not (u == job_step d)) (job_step d) _ _)
      ∙ ap (λ (k : World). is_posted event (Tree.events k.tree)) (related_units n (related_task d u) _ _)
      ∙ sym (or-false (is_posted event (Tree.events w.tree)))
  posted_after event w _ = sym (or-false (is_posted event (Tree.events w.tree)))

  -- The code of the address space
  code_card : (w : World) (rc : ℕ) (op : Op) → World.memory_end (beyond_card d n u rc op w) ≡ code_by_card op w.memory_end
  code_card w rc (ops.Attachx unit estai term) = memory_if d n u w (rc == 0) unit (Some u) _
  code_card w rc (ops.Schedule unit) = memory_if d n u w (rc == 0) unit None []
  code_card w rc (ops.Memterm code) = refl
  code_card w rc _ = refl

  code_after : (w : World) (what : What) → World.memory_end (advance d w n (record { unit = u; what = what })) ≡ end_code_after d u what w.memory_end
  code_after w (whats.Exec at rc) = code_card (own d w n u (whats.Exec at rc)) rc (op_at d at.prog at.op)
  code_after w (whats.Arrive cmd became) =
      ap (λ (k : World). k.memory_end) (arrived_units n u (slice_get d.commands cmd) (own d w n u (whats.Arrive cmd became)))
  code_after w (whats.Done code to_task to_step) =
      ap (λ (k : World). k.memory_end) (step_units n (not (u == job_step d)) (job_step d) _ _)
      ∙ ap (λ (k : World). k.memory_end) (related_units n (related_task d u) _ _)
  code_after w _ = refl

  -- Its end
  over_if : (w : World) (b : Bool) (unit : ℕ) (mother : Option ℕ) (estais : List Reg) → World.over (if b then with_unit d n unit mother estais w else w) ≡ w.over
  over_if w true unit mother estais = refl
  over_if w false unit mother estais = refl

  over_card : (w : World) (rc : ℕ) (op : Op) → World.over (beyond_card d n u rc op w) ≡ w.over
  over_card w rc (ops.Attachx unit estai term) = over_if w (rc == 0) unit (Some u) _
  over_card w rc (ops.Schedule unit) = over_if w (rc == 0) unit None []
  over_card w rc _ = refl

  over_after : (w : World) (what : What) → World.over (advance d w n (record { unit = u; what = what })) ≡ (w.over || ends_space what)
  over_after w (whats.Exec at rc) = over_card (own d w n u (whats.Exec at rc)) rc (op_at d at.prog at.op) ∙ sym (or-false w.over)
  over_after w (whats.Arrive cmd became) =
      ap World.over (arrived_units n u (slice_get d.commands cmd) (own d w n u (whats.Arrive cmd became))) ∙ sym (or-false w.over)
  over_after w (whats.Done code to_task to_step) =
      ap World.over (step_units n (not (u == job_step d)) (job_step d) _ _)
      ∙ ap World.over (related_units n (related_task d u) _ _)
      ∙ sym (or-false w.over)
  over_after w whats.MemEnd = sym (or_right w.over true refl)
  over_after w _ = sym (or-false w.over)

-- Each history

code_append : (d : DeckView) (h : List Entry) (e : Entry) (end : Option Code) → end_code_from d (h ++ e ∷ []) end ≡ end_code_after d e.unit e.what (end_code_from d h end)
code_append d [] e end = refl
code_append d (x ∷ es) e end = code_append d es e (end_code_after d x.unit x.what end)

module _ (d : DeckView) (deck : IsTrue (is_well_formed d)) where
  pub posted_agree : (event : ℕ) (h : List Entry) → Legal d h → is_posted event (Tree.events (World.tree (world d h))) ≡ has_posted d event h
  posted_agree event h legal =
      any_agrees d deck (λ w. is_posted event (Tree.events w.tree)) (λ e. posts d event e.what) false refl (λ w n e m. posted_after d n e.unit event w e.what) h legal

  pub over_agree : (h : List Entry) → Legal d h → World.over (world d h) ≡ has_ended_space h
  over_agree h legal = any_agrees d deck World.over (λ e. ends_space e.what) false refl (λ w n e m. over_after d n e.unit w e.what) h legal

  pub code_agree : (h : List Entry) → Legal d h → World.memory_end (world d h) ≡ end_code d h
  code_agree h legal =
      holds_of d deck (λ (es : List Entry). World.memory_end (world d es) ≡ end_code d es) (ap World.memory_end (world-nil d))
      (λ front e before m agree.
      ap World.memory_end (world-append d front e) ∙ code_after d (length front) e.unit (world d front) e.what
      ∙ ap (end_code_after d e.unit e.what) agree ∙ sym (code_append d front e None))
      h legal
