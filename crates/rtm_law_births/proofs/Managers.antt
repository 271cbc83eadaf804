-- Births and deaths of resource managers, entry by entry.
use Rattle.std.proofs.Common.{◌≡◌, ℕ, Bool, true, false, not, List, [], ◌∷◌, length, Option, Some, None, refl, sym, ap, subst, arith, inl, inr, ◌∙◌}
use Rattle.std.specs.Prelude.{if◌then◌else◌, is_some, slice_get, ◌==◌}
use Rattle.rtm_deck_items.specs.Reading.{job_step, op_at}
use Rattle.rtm_deck_items.specs.View.{DeckView}
use Rattle.rtm_deck_items.specs.declared.op.Op.{Op}
use Rattle.rtm_deck_items.specs.declared.op.Op.TheVariants as ops
use Rattle.rtm_model.specs.declared.entry.Entry.{Entry}
use Rattle.rtm_model.specs.declared.entry.What.{What}
use Rattle.rtm_model.specs.declared.entry.What.TheVariants as whats
use Rattle.rtm_model.specs.declared.holding.Manager1.{Manager1}
use Rattle.rtm_model.specs.declared.reg.Kind.{Kind}
use Rattle.rtm_model.specs.declared.reg.Kind.TheVariants.{Estae, Estai, Frr, Mgr}
use Rattle.rtm_model.specs.Advance.{after_attach, beyond_card, managers_left, with_unit}
use Rattle.rtm_model.specs.Cards.{row}
use Rattle.rtm_model.specs.Ending.{after_delete, is_equal_manager, is_of_task, is_same_task, newest_manager, without_managers_of}
use Rattle.rtm_model.specs.Legal.{Legal}
use Rattle.rtm_model.specs.Moments.{IsIn}
use Rattle.rtm_model.specs.Surroundings.{manager_task, surroundings_at}
use Rattle.rtm_model.specs.inner.Soundness.{IsSound, ManagersFall}
use Rattle.rtm_model.specs.World.{UnitOfWork, World, core_at, related_task}
use Rattle.rtm_model.specs.declared.outcome.Outcome.TheVariants.{Executed}
use Rattle.rtm_law_births.specs.Managers.{AreTheManagers, CardKills, CardMakes, managers}
use Rattle.rtm_law_births.proofs.Sound.{IsSoundHistory}
use Rattle.rtm_law_births.proofs.Beyond.{arrived_units, own, related_units, step_units}
use Rattle.rtm_law_births.proofs.Histories.{before-all}
use Rattle.rtm_law_births.proofs.Lists.{Falls, filter_in, in_filter, in_without_first, without_first_in}
use Rattle.rtm_law_births.proofs.Living.{Changes, Follows, IsMade, Moves, living, same_list, unmoved}
use Rattle.rtm_law_births.proofs.Numbers.{differs, other}
use Rattle.rtm_law_births.proofs.Outcomes.{outcome_of, row_of, there_rc, unless_rc}

-- the managers' births fall
falls : (n : ℕ) (ms : List Manager1) → ManagersFall n ms → Falls Manager1.born n ms
falls n [] h = tt
falls n (m ∷ ms) h = (h.0, falls m.born ms h.1)

is_some_of : {A : Type 0} (o : Option A) (x : A) → o ≡ Some x → is_some o ≡ true
is_some_of o x e = ap is_some e

no_task : (unit : ℕ) (task : Option ℕ) → not (is_same_task task (Some unit)) ≡ true → task ≡ Some unit → ⊥
no_task unit None e same = absurd cc
no_task unit (Some t) e same = let k : t ≡ unit = cc in other t unit e k

other_task : (unit : ℕ) (task : Option ℕ) → (task ≡ Some unit → ⊥) → not (is_same_task task (Some unit)) ≡ true
other_task unit None h = refl
other_task unit (Some t) h = differs t unit (λ e. h (ap Some e))

module _ (d : DeckView) (n u rc : ℕ) (w : World) (units : List UnitOfWork) (x : Manager1) (fall : ManagersFall n w.managers) where
  if_born : (b : Bool) (w2 : World) → World.managers w2 ≡ w.managers → World.managers (if b then w2 else record w { units = units }) ≡ w.managers
  if_born true w2 e = e
  if_born false w2 e = refl

  added : (prog : ℕ) (space : Bool) → rc ≡ 0
      → Moves (IsIn x (record { born = n; prog = prog; task = manager_task u space } ∷ w.managers)) (IsIn x w.managers) (CardMakes n u rc (ops.MgrAdd prog space) x) ⊥
  added prog space zero_is = record {
    came = λ h. elim h [ inl same ↦ inl (zero_is, same) | inr there ↦ inr (there, λ k. k) ];
    born = λ h. inl h.1;
    stays = λ h k. inr h;
  }

  dropped : (prog : ℕ) (space : Bool) → (is_some (newest_manager prog (manager_task u space) w.managers) ≡ true → rc ≡ 0)
      → Moves (IsIn x (after_delete prog (manager_task u space) w.managers)) (IsIn x w.managers) ⊥ (CardKills w u rc (ops.MgrDelete prog space) x)
  dropped prog space found = record {
    came = λ h.
        let there = in_without_first Manager1.born (is_equal_manager prog (manager_task u space)) w.managers n (falls n w.managers fall) x h in
        inr (there.0, λ killed. there.1 killed.1);
    born = λ h. absurd h;
    stays = λ h alive. without_first_in (is_equal_manager prog (manager_task u space)) w.managers x h
        (λ e. alive (found (is_some_of (newest_manager prog (manager_task u space) w.managers) x e), e));
  }

  card : (op : Op) → row (core_at u w) (surroundings_at d w u op) op ≡ Executed rc
      → Moves (IsIn x (World.managers (beyond_card d n u rc op (record w { units = units })))) (IsIn x w.managers) (CardMakes n u rc op x) (CardKills w u rc op x)
  card (ops.MgrAdd prog space) e = added prog space (unless_rc _ _ rc e)
  card (ops.MgrDelete prog space) e = dropped prog space (there_rc _ 4 rc e)
  card (ops.Attachx unit estai term) e = same_list x w.managers _ (if_born (rc == 0) (after_attach d n u unit estai term (record w { units = units })) refl)
  card (ops.Schedule unit) e = same_list x w.managers _ (if_born (rc == 0) (with_unit d n unit None [] (record w { units = units })) refl)
  card _ e = same_list x w.managers w.managers refl

  -- a manager that was entered is left
  left : (kind : Kind) (born : ℕ) → Moves (IsIn x (managers_left kind born w.managers)) (IsIn x w.managers) ⊥ ((kind ≡ Mgr) × (born ≡ x.born))
  left Mgr born = record {
    came = λ h.
        let there = in_filter (λ (m : Manager1). not (m.born == born)) w.managers x h in
        inr (there.0, λ killed. other x.born born there.1 (sym killed.1));
    born = λ h. absurd h;
    stays = λ h alive. filter_in (λ (m : Manager1). not (m.born == born)) w.managers x h (differs x.born born (λ e. alive (refl, sym e)));
  }
  left Frr born = unmoved (λ h. h) (λ h. h) (λ h. h) (λ h. let k : Frr ≡ Mgr = h.0 in absurd cc)
  left Estae born = unmoved (λ h. h) (λ h. h) (λ h. h) (λ h. let k : Estae ≡ Mgr = h.0 in absurd cc)
  left Estai born = unmoved (λ h. h) (λ h. h) (λ h. h) (λ h. let k : Estai ≡ Mgr = h.0 in absurd cc)

  -- a task is purged
  purged_of : (unit : ℕ) → Moves (IsIn x (without_managers_of unit w.managers)) (IsIn x w.managers) ⊥ (x.task ≡ Some unit)
  purged_of unit = record {
    came = λ h.
        let there = in_filter (λ (m : Manager1). not (is_of_task (Some unit) m)) w.managers x h in
        inr (there.0, λ killed. no_task unit x.task there.1 killed);
    born = λ h. absurd h;
    stays = λ h alive. filter_in (λ (m : Manager1). not (is_of_task (Some unit) m)) w.managers x h (other_task unit x.task alive);
  }

module _ (d : DeckView) (w : World) (n u : ℕ) (x : Manager1) where
  entry : (what : What) → IsMade d w n (record { unit = u; what = what }) → Changes managers d w n (record { unit = u; what = what }) x
  entry (whats.Exec at rc) m =
      card d n u rc w (World.units (own d w n u (whats.Exec at rc))) x (IsSound.managers_fall m.sound) (op_at d at.prog at.op)
      (row_of (core_at u w) (surroundings_at d w u (op_at d at.prog at.op)) (op_at d at.prog at.op) rc (outcome_of d w u (whats.Exec at rc) m.may))
  entry (whats.Leave kind reg verdict logrec dump) m = left d n u 0 w w.units x (IsSound.managers_fall m.sound) kind reg
  entry (whats.Arrive cmd fate) m =
      same_list x w.managers _ (ap World.managers (arrived_units n u (slice_get d.commands cmd) (own d w n u (whats.Arrive cmd fate))))
  entry (whats.Done code to_task to_step) m =
      same_list x w.managers _ (ap World.managers (step_units n (not (u == job_step d)) (job_step d) _ _) ∙ ap World.managers (related_units n (related_task d u) _ _))
  entry (whats.Purge unit) m = purged_of d n u 0 w w.units x (IsSound.managers_fall m.sound) unit
  entry _ m = unmoved (λ h. h) (λ h. h) (λ h. h) (λ h. h)

follows : Follows managers
follows = record {
  first = λ d deck x h. h;
  there = λ d deck x h. absurd h;
  changes = λ d w n e m x. entry d w n e.unit x e.what m;
}

-- the list of managers has those that live, newest first
pub managers_live : (d : DeckView) (h : List Entry) → IsSoundHistory d h → Legal d h → AreTheManagers d h
managers_live d h sound legal = record {
  living = living managers d h sound legal follows;
  order = subst (λ (w : World). ManagersFall (length h) w.managers) (before-all d h) (IsSound.managers_fall (sound.worlds (length h) (omega arith)));
}
