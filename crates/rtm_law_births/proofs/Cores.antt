-- A unit's own control blocks after an entry: its own entries change them, and its birth and its purge do.
use Rattle.std.proofs.Common.{◌≡◌, ℕ, ◌<◌, ◌≤◌, ◌+◌, Bool, true, false, not, ◌&&◌, List, [], length, Option, Some, None, refl, sym, ap, subst, arith, inl, inr, ◌⊎◌, ◌∙◌}
use Rattle.std.proofs.lemmas.Bool.{eqb-false, eqb-true}
use Rattle.std.specs.Prelude.{if◌then◌else◌, is_some, slice_get, ◌==◌}
use Rattle.rtm_deck_items.specs.Reading.{job_step, op_at, program_of}
use Rattle.rtm_deck_items.specs.View.{DeckView}
use Rattle.rtm_deck_items.specs.declared.deck.Command.{Command}
use Rattle.rtm_deck_items.specs.declared.op.Op.{Op}
use Rattle.rtm_deck_items.specs.declared.op.Op.TheVariants as ops
use Rattle.rtm_model.specs.declared.abort.Abort.{Abort}
use Rattle.rtm_model.specs.declared.block.Place.{Place}
use Rattle.rtm_model.specs.declared.entry.What.{What}
use Rattle.rtm_model.specs.declared.entry.What.TheVariants as whats
use Rattle.rtm_model.specs.declared.error_record.ErrorRecord.{ErrorRecord}
use Rattle.rtm_model.specs.declared.reg.Reg.{Reg}
use Rattle.rtm_model.specs.inner.Applies.{CanExecute, StandsAt}
use Rattle.rtm_model.specs.Births.{block_birth, new_estai}
use Rattle.rtm_model.specs.Posts.{abterm_abort, cancel_abort, detach_abort, mother_abort, post_related, post_step, post_to, srb_abort, step_abort, with_posted}
use Rattle.rtm_model.specs.OwnChange.{own_change, own_entry}
use Rattle.rtm_model.specs.Advance.{advance, after_arrival, after_purge, beyond_card, purged_core, with_unit}
use Rattle.rtm_model.specs.Blocks.{newest_bracket}
use Rattle.rtm_model.specs.Chains.{inherited_estais}
use Rattle.rtm_model.specs.Surroundings.{is_late}
use Rattle.rtm_model.specs.inner.Soundness.{IsSound}
use Rattle.rtm_model.specs.Tasks.{Tree, is_dormant, is_subtask_of, life_of}
use Rattle.rtm_model.specs.World.{Core, UnitOfWork, World, at_birth, born_core, core_at, master, related_task, unborn_unit, unit_at}
use Rattle.rtm_model.proofs.Units.{length-on_unit, unit_here, unit_same, unit_there}
use Rattle.rtm_model.proofs.Cards.{card_estais}
use Rattle.rtm_law_births.proofs.Beyond.{own}
use Rattle.rtm_law_births.proofs.Cards.{NamesUnit, unit_named}
use Rattle.rtm_law_births.proofs.Living.{IsMade, Moves, said_by}
use Rattle.rtm_law_births.proofs.Outcomes.{outcome_of}
use Rattle.rtm_law_births.proofs.Posts.{mothered_at}

-- the unit's control blocks in a list of units
abbrev pub core_of : ℕ → List UnitOfWork → Core
core_of v units = UnitOfWork.core (unit_at v units)

-- posts leave them
pub post_core : (w : World) (t : ℕ) (a : Abort) (v : ℕ) → core_of v (World.units (post_to t a w)) ≡ core_of v w.units
post_core w t a v = unit_same UnitOfWork.core (with_posted (is_late w t) a) (λ unit. refl) t v w.units

arrived_core : (n u : ℕ) (o : Option Command) (w : World) (v : ℕ) → core_of v (World.units (after_arrival n u o w)) ≡ core_of v w.units
arrived_core n u None w v = refl
arrived_core n u (Some command) w v =
    unit_same UnitOfWork.core (λ unit. record unit { arrived = unit.arrived + 1 }) (λ unit. refl) u v (World.units (post_to u (cancel_abort n command.dump) w))
    ∙ post_core w u (cancel_abort n command.dump) v

related_core : (n : ℕ) (rel : Option ℕ) (r : Option ErrorRecord) (w : World) (v : ℕ) → core_of v (World.units (post_related n rel r w)) ≡ core_of v w.units
related_core n None r w v = refl
related_core n (Some task) None w v = refl
related_core n (Some task) (Some r) w v = post_core w task (srb_abort n r) v

step_if : (n job : ℕ) (r : ErrorRecord) (w : World) (v : ℕ) (b : Bool) → core_of v (World.units (if b then post_to job (step_abort n r) w else w)) ≡ core_of v w.units
step_if n job r w v true = post_core w job (step_abort n r) v
step_if n job r w v false = refl

step_core : (n : ℕ) (is_other : Bool) (job : ℕ) (r : Option ErrorRecord) (w : World) (v : ℕ) → core_of v (World.units (post_step n is_other job r w)) ≡ core_of v w.units
step_core n is_other job None w v = refl
step_core n is_other job (Some r) w v = step_if n job r w v (is_other && r.flags.step)

mothered_core : (n u : ℕ) (unit : UnitOfWork) (b : Bool) → UnitOfWork.core (if b then with_posted (is_some (Core.begun unit.core)) (mother_abort n) unit else unit) ≡ unit.core
mothered_core n u unit true = refl
mothered_core n u unit false = refl

-- a unit is born by the card: its control blocks after it, by those that it had
pub record IsBorn (v unit rc : ℕ) (after born : Core) : Type 0 where
  pub rc_is : rc ≡ 0
  pub unit_is : v ≡ unit
  pub core : after ≡ born

pub record IsUnborn (v unit rc : ℕ) (after before : Core) : Type 0 where
  pub other : rc ≡ 0 → v ≡ unit → ⊥
  pub core : after ≡ before

abbrev pub BirthOr : DeckView → World → ℕ → ℕ → ℕ → ℕ → Op → Core → Core → Type 0
BirthOr d w n u v rc (ops.Attachx unit estai term) after before =
    IsBorn v unit rc after (born_core (block_birth n) (program_of d unit) (inherited_estais (new_estai n term estai) (Core.estais (core_at u w))) before)
    ⊎ IsUnborn v unit rc after before
BirthOr d w n u v rc (ops.Schedule unit) after before =
    IsBorn v unit rc after (born_core (block_birth n) (program_of d unit) [] before) ⊎ IsUnborn v unit rc after before
BirthOr d w n u v rc _ after before = after ≡ before

abbrev pub PurgeOr : ℕ → ℕ → Core → Core → Type 0
PurgeOr v unit after before = ((v ≡ unit) × (after ≡ purged_core before)) ⊎ ((v ≡ unit → ⊥) × (after ≡ before))

-- what an entry changes of the control blocks of a unit, besides its own change
abbrev pub After : DeckView → World → ℕ → ℕ → ℕ → What → Core → Core → Type 0
After d w n u v (whats.Exec at rc) after before = BirthOr d w n u v rc (op_at d at.prog at.op) after before
After d w n u v (whats.Purge unit) after before = PurgeOr v unit after before
After d w n u v _ after before = after ≡ before

module _ (d : DeckView) (w : World) (n u v : ℕ) where
  -- a unit is born, or not
  born_if : (w2 : World) (unit rc : ℕ) (mother : Option ℕ) (estais : List Reg) → unit < length w2.units → (zero_is : Bool) → (rc == 0) ≡ zero_is → (here : Bool) → (v == unit) ≡ here
      → IsBorn v unit rc (core_of v (World.units (if zero_is then with_unit d n unit mother estais w2 else w2))) (born_core (block_birth n) (program_of d unit) estais (core_of v w2.units))
      ⊎ IsUnborn v unit rc (core_of v (World.units (if zero_is then with_unit d n unit mother estais w2 else w2))) (core_of v w2.units)
  born_if w2 unit rc mother estais within true z true e =
      let same = eqb-true v unit e in
      inl (record {
        rc_is = eqb-true rc 0 z;
        unit_is = same;
        core = rw same (ap UnitOfWork.core (unit_here unit (at_birth (block_birth n) (program_of d unit) estais) w2.units within));
      })
  born_if w2 unit rc mother estais within true z false e =
      let other = eqb-false v unit e in
      inr (record { other = λ _ same. other same; core = ap UnitOfWork.core (unit_there unit v (at_birth (block_birth n) (program_of d unit) estais) w2.units other) })
  born_if w2 unit rc mother estais within false z here e = inr (record { other = λ rc_is _. eqb-false rc 0 z rc_is; core = refl })

  card_after : (w2 : World) (rc : ℕ) (op : Op) → length w2.units ≡ length d.units + 1 → NamesUnit d op → Core.estais (core_at u w2) ≡ Core.estais (core_at u w)
      → BirthOr d w n u v rc op (core_of v (World.units (beyond_card d n u rc op w2))) (core_of v w2.units)
  card_after w2 rc (ops.Attachx unit estai term) len named same =
      subst (λ (estais : List Reg). IsBorn v unit rc (core_of v (World.units (beyond_card d n u rc (ops.Attachx unit estai term) w2))) (born_core (block_birth n) (program_of d unit) (inherited_estais (new_estai n term estai) estais) (core_of v w2.units))
      ⊎ IsUnborn v unit rc (core_of v (World.units (beyond_card d n u rc (ops.Attachx unit estai term) w2))) (core_of v w2.units)) same
      (born_if w2 unit rc (Some u) (inherited_estais (new_estai n term estai) (Core.estais (core_at u w2))) (omega (arith, len, named)) (rc == 0) refl (v == unit) refl)
  card_after w2 rc (ops.Schedule unit) len named same = born_if w2 unit rc None [] (omega (arith, len, named)) (rc == 0) refl (v == unit) refl
  card_after w2 rc (ops.Detach unit stae) len named same = post_core w2 unit (detach_abort n stae) v
  card_after w2 rc (ops.Abterm unit code reason dump retry) len named same = post_core w2 unit (abterm_abort n code reason dump retry) v
  card_after w2 rc _ len named same = refl

  purge_if : (w2 : World) (unit : ℕ) → unit < length w2.units → (b : Bool) → (v == unit) ≡ b → PurgeOr v unit (core_of v (World.units (after_purge unit w2))) (core_of v w2.units)
  purge_if w2 unit within true e =
      let same = eqb-true v unit e in
      inl (same, rw same (ap UnitOfWork.core (unit_here unit (λ unit. record unit { core = purged_core unit.core; pending = [] }) w2.units within)))
  purge_if w2 unit within false e =
      let other = eqb-false v unit e in
      inr (other, ap UnitOfWork.core (unit_there unit v (λ unit. record unit { core = purged_core unit.core; pending = [] }) w2.units other))

  own_length : (s : IsSound d n w) (what : What) → length (World.units (own d w n u what)) ≡ length d.units + 1
  own_length s what = length-on_unit u (own_change d n w.managers what) w.units ∙ s.units_len

  beyond_after : (what : What) → IsMade d w n (record { unit = u; what = what })
      → After d w n u v what (core_at v (advance d w n (record { unit = u; what = what }))) (core_at v (own d w n u what))
  beyond_after (whats.Exec at rc) m =
      card_after (own d w n u (whats.Exec at rc)) rc (op_at d at.prog at.op) (own_length m.sound (whats.Exec at rc)) (unit_named d m.deck at.prog at.op)
      (unit_same (λ (unit : UnitOfWork). Core.estais unit.core) (own_change d n w.managers (whats.Exec at rc)) (λ unit. card_estais n _ (op_at d at.prog at.op) unit.core) u u w.units)
  beyond_after (whats.Arrive cmd fate) m = arrived_core n u (slice_get d.commands cmd) (own d w n u (whats.Arrive cmd fate)) v
  beyond_after (whats.Begin code dump) m =
      let units : List UnitOfWork = World.units (own d w n u (whats.Begin code dump)) in
      let lens : length (Tree.lives w.tree) ≤ length units = omega (arith, own_length m.sound (whats.Begin code dump), IsSound.lives_len m.sound) in
      ap UnitOfWork.core (mothered_at u (mother_abort n) (Tree.lives w.tree) units lens v)
      ∙ mothered_core n u (unit_at v units) (is_subtask_of u (life_of v (Tree.lives w.tree)))
  beyond_after (whats.Done code to_task to_step) m =
      step_core n (not (u == job_step d)) (job_step d) _ _ v ∙ related_core n (related_task d u) _ _ v
  beyond_after (whats.Purge unit) m =
      purge_if (own d w n u (whats.Purge unit)) unit (omega (arith, m.can.what.0, own_length m.sound (whats.Purge unit))) (v == unit) refl
  beyond_after _ m = refl

  inside : IsSound d n w → u ≤ length d.units → u < length w.units
  inside s h = omega (arith, s.units_len, h)

  own_here : (what : What) → IsMade d w n (record { unit = u; what = what }) → v ≡ u
      → core_at v (own d w n u what) ≡ own_entry d n w.managers (UnitOfWork.pending (unit_at u w.units)) what (core_at u w)
  own_here what m same = rw same (ap UnitOfWork.core (unit_here u (own_change d n w.managers what) w.units (inside m.sound m.can.unit)))

  own_there : (what : What) → (v ≡ u → ⊥) → core_at v (own d w n u what) ≡ core_at v w
  own_there what other = ap UnitOfWork.core (unit_there u v (own_change d n w.managers what) w.units other)

-- a unit that executes a card was born, so it isn't the one that the card makes
pub no_self : (d : DeckView) (w : World) (n u unit : ℕ) → IsSound d n w → unit < length d.units → is_dormant (life_of unit (Tree.lives w.tree)) ≡ true → 1 ≤ length (newest_bracket (Core.blocks (core_at u w))) → u ≡ unit → ⊥
no_self d w n u unit s within dormant some same =
    let none : unit_at u w.units ≡ unborn_unit = subst (λ (i : ℕ). unit_at i w.units ≡ unborn_unit) (sym same) (s.dormant unit within dormant) in
    let count : length (newest_bracket (Core.blocks (core_at u w))) ≡ 0 = ap (λ (k : UnitOfWork). length (newest_bracket (Core.blocks k.core))) none in
    omega (arith, some, count)

-- the unit's own entry changes it, and nothing else does
module _ (d : DeckView) (w : World) (n u v : ℕ) where
  card_here : (rc : ℕ) (op : Op) (at : Place) (after before : Core) → IsSound d n w → NamesUnit d op → CanExecute w u rc op → StandsAt d (core_at u w) at → v ≡ u
      → BirthOr d w n u v rc op after before → after ≡ before
  card_here rc (ops.Attachx unit estai term) at after before s named can stands same (inl born) =
      absurd (no_self d w n u unit s named (can born.rc_is) stands.some (sym same ∙ born.unit_is))
  card_here rc (ops.Attachx unit estai term) at after before s named can stands same (inr other) = other.core
  card_here rc (ops.Schedule unit) at after before s named can stands same (inl born) =
      absurd (no_self d w n u unit s named (can born.rc_is) stands.some (sym same ∙ born.unit_is))
  card_here rc (ops.Schedule unit) at after before s named can stands same (inr other) = other.core
  card_here rc _ at after before s named can stands same h = h

  here_by : (what : What) (after before : Core) → IsMade d w n (record { unit = u; what = what }) → v ≡ u → After d w n u v what after before → after ≡ before
  here_by (whats.Exec at rc) after before m same h = card_here rc (op_at d at.prog at.op) at after before m.sound (unit_named d m.deck at.prog at.op) m.can.what.1 m.can.what.0 same h
  here_by (whats.Purge unit) after before m same (inl is) =
      let mine : u ≡ master d = outcome_of d w u (whats.Purge unit) m.may in
      absurd (omega (arith, m.can.what.0, mine, same, is.0))
  here_by (whats.Purge unit) after before m same (inr other) = other.1
  here_by _ after before m same h = h

  -- the unit whose entry it is
  pub core_here : (what : What) → IsMade d w n (record { unit = u; what = what }) → v ≡ u
      → core_at v (advance d w n (record { unit = u; what = what })) ≡ own_entry d n w.managers (UnitOfWork.pending (unit_at u w.units)) what (core_at u w)
  core_here what m same = here_by what _ _ m same (beyond_after d w n u v what m) ∙ own_here d w n u v what m same

  -- any other
  pub core_there : (what : What) → IsMade d w n (record { unit = u; what = what }) → (v ≡ u → ⊥)
      → After d w n u v what (core_at v (advance d w n (record { unit = u; what = what }))) (core_at v w)
  core_there what m other = subst (λ (c : Core). After d w n u v what (core_at v (advance d w n (record { unit = u; what = what }))) c) (own_there d w n u v what other) (beyond_after d w n u v what m)

-- the unit that a card makes was as it was at the start
pub was_unborn : (d : DeckView) (w : World) (n unit : ℕ) → IsSound d n w → unit < length d.units → is_dormant (life_of unit (Tree.lives w.tree)) ≡ true → core_at unit w ≡ unborn_unit.core
was_unborn d w n unit s within dormant = ap UnitOfWork.core (s.dormant unit within dormant)

-- What comes of a thing of one unit, by the unit's own entries, and by those of others

module _ (d : DeckView) (w : World) (n u v : ℕ) (what : What) (m : IsMade d w n (record { unit = u; what = what })) (has : Core → Type 0) (B K : Type 0)
    (mine : v ≡ u → Moves (has (own_entry d n w.managers (UnitOfWork.pending (unit_at u w.units)) what (core_at u w))) (has (core_at u w)) B K)
    (others : (v ≡ u → ⊥) → (after : Core) → After d w n u v what after (core_at v w) → Moves (has after) (has (core_at v w)) B K) where
  moves_if : (b : Bool) → (v == u) ≡ b → Moves (has (core_at v (advance d w n (record { unit = u; what = what })))) (has (core_at v w)) B K
  moves_if true e =
      let same = eqb-true v u e in
      let core = core_here d w n u v what m same in
      said_by (λ h. subst has (sym core) h) (λ h. subst has core h)
      (λ h. subst (λ (i : ℕ). has (core_at i w)) (sym same) h) (λ h. subst (λ (i : ℕ). has (core_at i w)) same h)
      (λ h. h) (λ h. h) (λ h. h) (λ h. h) (mine same)
  moves_if false e =
      let other = eqb-false v u e in
      others other _ (core_there d w n u v what m other)

  pub unit_moves : Moves (has (core_at v (advance d w n (record { unit = u; what = what })))) (has (core_at v w)) B K
  unit_moves = moves_if (v == u) refl
