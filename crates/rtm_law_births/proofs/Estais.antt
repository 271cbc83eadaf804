-- Births and deaths of ESTAI routines, entry by entry.
use Rattle.std.proofs.Common.{◌≡◌, ℕ, ◌<◌, ◌≤◌, Bool, true, false, ◌&&◌, List, [], ◌∷◌, ◌++◌, length, Option, Some, None, refl, sym, ap, subst, arith, inl, inr, ◌⊎◌, ◌∙◌}
use Rattle.std.proofs.lemmas.Bool.{cases_lt, eqb-false, eqb-true}
use Rattle.std.proofs.lemmas.List.{set_past}
use Rattle.std.specs.Prelude.{if◌then◌else◌, map, ◌==◌}
use Rattle.rtm_deck_items.specs.Reading.{job_step, op_at, program_of}
use Rattle.rtm_deck_items.specs.View.{DeckView}
use Rattle.rtm_deck_items.specs.declared.op.Op.{Op}
use Rattle.rtm_deck_items.specs.declared.op.Op.TheVariants as ops
use Rattle.rtm_model.specs.declared.abort.Abort.{Abort}
use Rattle.rtm_model.specs.declared.block.Place.{Place}
use Rattle.rtm_model.specs.declared.entry.Entry.{Entry}
use Rattle.rtm_model.specs.declared.entry.Verdict.{Verdict}
use Rattle.rtm_model.specs.declared.entry.Verdict.TheVariants.{Perc, Retry, Stop}
use Rattle.rtm_model.specs.declared.entry.What.{What}
use Rattle.rtm_model.specs.declared.entry.What.TheVariants as whats
use Rattle.rtm_model.specs.declared.reg.Kind.{Kind}
use Rattle.rtm_model.specs.declared.reg.Kind.TheVariants.{Estae, Estai, Frr, Mgr}
use Rattle.rtm_model.specs.declared.reg.Reg.{Reg}
use Rattle.rtm_model.specs.Aborts.{abort_named}
use Rattle.rtm_model.specs.inner.Applies.{CanExecute, StandsAt}
use Rattle.rtm_model.specs.Births.{new_estai}
use Rattle.rtm_model.specs.OwnChange.{after_retry, estais_left, is_gone_after, own_entry, place_after, routine_named, with_bracket_closed, with_landed, with_routine_entered, with_routine_left, without_routine}
use Rattle.rtm_model.specs.Chains.{inherited_estais, without_born}
use Rattle.rtm_model.specs.Legal.{Legal}
use Rattle.rtm_model.specs.Levels.{current, record_in}
use Rattle.rtm_model.specs.Moments.{IsIn}
use Rattle.rtm_model.specs.Record.{is_estai}
use Rattle.rtm_model.specs.inner.Soundness.{IsCoreSound, IsSound, RoutinesFall}
use Rattle.rtm_model.specs.World.{Core, UnitOfWork, World, at_birth, core_at, on_unit, start, unborn_unit, unit_at}
use Rattle.rtm_model.proofs.Units.{unit_here, unit_there}
use Rattle.rtm_model.proofs.Start.{all_unborn}
use Rattle.rtm_law_births.specs.Estais.{AreTheEstais, CardMakes, EntryKills, EntryMakes, estais}
use Rattle.rtm_law_births.specs.Routines.{IsItsLeave, UnitRoutine}
use Rattle.rtm_law_births.proofs.Sound.{IsSoundHistory}
use Rattle.rtm_law_births.proofs.Cards.{NamesUnit, unit_named}
use Rattle.rtm_model.proofs.Cards.{card_estais}
use Rattle.rtm_law_births.proofs.Cores.{BirthOr, no_self, was_unborn}
use Rattle.rtm_law_births.proofs.Histories.{before-all}
use Rattle.rtm_law_births.proofs.Living.{Changes, Follows, IsMade, Moves, cleared, living, said_by, same_list, unmoved}
use Rattle.rtm_law_births.proofs.Outcomes.{IsVerdictOf, outcome_of, verdict_of}
use Rattle.rtm_law_births.proofs.Owned.{ByBirth, owned_moves}
use Rattle.rtm_law_births.proofs.Routines.{left_moves, no_over}

-- those of a task at its birth
in_inherited : (own : Option Reg) (mother : List Reg) (reg : Reg) → IsIn reg (inherited_estais own mother) → (own ≡ Some reg) ⊎ IsIn reg mother
in_inherited None mother reg h = inr h
in_inherited (Some own) mother reg (inl same) = inl (ap Some (sym same))
in_inherited (Some own) mother reg (inr h) = inr h

inherited_in : (own : Option Reg) (mother : List Reg) (reg : Reg) → (own ≡ Some reg) ⊎ IsIn reg mother → IsIn reg (inherited_estais own mother)
inherited_in None mother reg (inl named) = absurd cc
inherited_in None mother reg (inr h) = h
inherited_in (Some own) mother reg (inl named) = let same : own ≡ reg = cc in inl (sym same)
inherited_in (Some own) mother reg (inr h) = inr h

-- what the unit's own entries leave
estais_landed : (abort : Option Abort) (c : Core) → Core.estais (with_landed abort c) ≡ c.estais
estais_landed None c = refl
estais_landed (Some abort) c = refl

estais_entered : (n : ℕ) (bare : Bool) (o : Option Reg) (c : Core) → Core.estais (with_routine_entered n bare o c) ≡ c.estais
estais_entered n bare None c = refl
estais_entered n bare (Some reg) c = refl

estais_after : (verdict : Verdict) (o : Option Reg) (c : Core) → Core.estais (after_retry verdict o c) ≡ c.estais
estais_after (Retry place) None c = refl
estais_after (Retry place) (Some r) c = refl
estais_after Perc o c = refl
estais_after _ o c = refl

is_estai_of : (kind : Kind) → is_estai kind ≡ true → kind ≡ Estai
is_estai_of Estai e = refl
is_estai_of Frr e = absurd cc
is_estai_of Estae e = absurd cc
is_estai_of Mgr e = absurd cc

not_mgr : (kind : Kind) → kind ≡ Estai → kind ≡ Mgr → ⊥
not_mgr kind e f = let k : Estai ≡ Mgr = sym e ∙ f in absurd cc

module _ (c : Core) (reg : Reg) (kind : Kind) (born : ℕ) where
  left_kept : (verdict : Verdict) → IsVerdictOf kind verdict → (verdict ≡ Stop → ⊥)
      → Moves (IsIn reg (if is_gone_after verdict (record_in c.levels) && is_estai kind then without_born born c.estais else c.estais)) (IsIn reg c.estais) ⊥ (IsItsLeave c Estai reg kind born verdict ⊎ (verdict ≡ Stop))
  left_kept verdict fits other =
      said_by (λ h. h) (λ h. h) (λ h. h) (λ h. h) (λ h. h) (λ h. h) (λ k. inl k) (λ k. elim k [ inl its ↦ its | inr stop ↦ absurd (other stop) ])
      (left_moves c Estai kind born verdict c.estais reg (is_estai kind) (is_estai_of kind) (λ e. ap is_estai e)
      (λ e stop. other stop) (λ e. no_over kind verdict fits (not_mgr kind e)))

  left_list : (verdict : Verdict) → IsVerdictOf kind verdict
      → Moves (IsIn reg (estais_left verdict (is_gone_after verdict (record_in c.levels)) kind born c.estais)) (IsIn reg c.estais) ⊥ (IsItsLeave c Estai reg kind born verdict ⊎ (verdict ≡ Stop))
  left_list Stop fits = record { came = λ h. absurd h; born = λ h. absurd h; stays = λ h alive. absurd (alive (inr refl)) }
  left_list verdict fits = left_kept verdict fits (λ e. absurd cc)

  left : (verdict : Verdict) → IsVerdictOf kind verdict
      → Moves (IsIn reg (Core.estais (with_routine_left kind born verdict c))) (IsIn reg c.estais) ⊥ (IsItsLeave c Estai reg kind born verdict ⊎ (verdict ≡ Stop))
  left verdict fits =
      let same = estais_after verdict (current c.levels) (without_routine verdict (is_gone_after verdict (record_in c.levels)) kind born (with_bracket_closed verdict c)) in
      said_by (λ h. subst (IsIn reg) (sym same) h) (λ h. subst (IsIn reg) same h) (λ h. h) (λ h. h) (λ h. h) (λ h. h) (λ h. h) (λ h. h) (left_list verdict fits)

module _ (d : DeckView) (w : World) (n u : ℕ) (x : UnitRoutine) where
  -- a card makes them in another unit
  makes_other : (rc : ℕ) (op : Op) → IsSound d n w → NamesUnit d op → CanExecute w u rc op → (at : Place) → StandsAt d (core_at u w) at → x.unit ≡ u → CardMakes n (core_at u w) rc op x → ⊥
  makes_other rc (ops.Attachx unit estai term) s named can at stands mine h = no_self d w n u unit s named (can h.0) stands.some (sym mine ∙ h.1)
  makes_other rc _ s named can at stands mine h = h

  births : (rc : ℕ) (op : Op) (after : Core) → IsSound d n w → NamesUnit d op → CanExecute w u rc op → BirthOr d w n u x.unit rc op after (core_at x.unit w)
      → Moves (IsIn x.reg after.estais) (IsIn x.reg (Core.estais (core_at x.unit w))) (CardMakes n (core_at u w) rc op x) ⊥
  births rc (ops.Attachx unit estai term) after s named can (inl born) =
      let none : Core.estais (core_at x.unit w) ≡ [] = ap (λ (v : ℕ). Core.estais (core_at v w)) born.unit_is ∙ ap Core.estais (was_unborn d w n unit s named (can born.rc_is)) in
      let list = ap Core.estais born.core in
      record {
        came = λ h. inl (born.rc_is, born.unit_is, in_inherited (new_estai n term estai) (Core.estais (core_at u w)) x.reg (subst (IsIn x.reg) list h));
        born = λ h. subst (IsIn x.reg) (sym list) (inherited_in (new_estai n term estai) (Core.estais (core_at u w)) x.reg h.2);
        stays = λ h alive. absurd (subst (IsIn x.reg) none h);
      }
  births rc (ops.Attachx unit estai term) after s named can (inr other) =
      let list = ap Core.estais other.core in
      unmoved (λ h. subst (IsIn x.reg) list h) (λ h. subst (IsIn x.reg) (sym list) h) (λ h. other.other h.0 h.1) (λ h. h)
  births rc (ops.Schedule unit) after s named can (inl born) =
      let none : Core.estais (core_at x.unit w) ≡ [] = ap (λ (v : ℕ). Core.estais (core_at v w)) born.unit_is ∙ ap Core.estais (was_unborn d w n unit s named (can born.rc_is)) in
      let list = ap Core.estais born.core in
      unmoved (λ h. absurd (subst (IsIn x.reg) list h)) (λ h. absurd (subst (IsIn x.reg) none h)) (λ h. h) (λ h. h)
  births rc (ops.Schedule unit) after s named can (inr other) =
      let list = ap Core.estais other.core in
      unmoved (λ h. subst (IsIn x.reg) list h) (λ h. subst (IsIn x.reg) (sym list) h) (λ h. h) (λ h. h)
  births rc _ after s named can h =
      let list = ap Core.estais h in
      unmoved (λ k. subst (IsIn x.reg) list k) (λ k. subst (IsIn x.reg) (sym list) k) (λ k. k) (λ k. k)

  by_own : (what : What) → IsMade d w n (record { unit = u; what = what })
      → Moves (IsIn x.reg (Core.estais (own_entry d n w.managers (UnitOfWork.pending (unit_at u w.units)) what (core_at u w)))) (IsIn x.reg (Core.estais (core_at u w)))
      ⊥ (EntryKills d (core_at u w) what x.reg)
  by_own (whats.Exec at rc) m =
      same_list x.reg (Core.estais (core_at u w)) _ (card_estais n (place_after d at rc (op_at d at.prog at.op)) (op_at d at.prog at.op) (core_at u w))
  by_own (whats.Land class from mark) m =
      same_list x.reg (Core.estais (core_at u w)) _ (estais_landed (abort_named class from (UnitOfWork.pending (unit_at u w.units))) (core_at u w))
  by_own (whats.Enter kind reg mark bare) m =
      same_list x.reg (Core.estais (core_at u w)) _ (estais_entered n bare (routine_named kind reg w.managers (core_at u w)) (core_at u w))
  by_own (whats.Leave kind reg verdict logrec dump) m =
      left (core_at u w) x.reg kind reg verdict
      (verdict_of d (core_at u w) kind verdict (IsCoreSound.nested (IsSound.cores m.sound u)) (outcome_of d w u (whats.Leave kind reg verdict logrec dump) m.may))
  by_own (whats.Begin code dump) m = cleared x.reg (Core.estais (core_at u w))
  by_own _ m = unmoved (λ h. h) (λ h. h) (λ h. h) (λ h. h)

  -- by the words of the table
  by_birth : (what : What) → ByBirth d (λ rc op. CardMakes n (core_at u w) rc op x) what → EntryMakes d n (core_at u w) what x
  by_birth (whats.Exec at rc) h = h
  by_birth _ h = h

  from_birth : (what : What) → EntryMakes d n (core_at u w) what x → ByBirth d (λ rc op. CardMakes n (core_at u w) rc op x) what
  from_birth (whats.Exec at rc) h = h
  from_birth _ h = h

  unborn_by : (what : What) → IsMade d w n (record { unit = u; what = what }) → x.unit ≡ u → ByBirth d (λ rc op. CardMakes n (core_at u w) rc op x) what → ⊥
  unborn_by (whats.Exec at rc) m mine h = makes_other rc (op_at d at.prog at.op) m.sound (unit_named d m.deck at.prog at.op) m.can.what.1 at m.can.what.0 mine h
  unborn_by _ m mine h = h

  births_of : (what : What) → IsMade d w n (record { unit = u; what = what }) → (after : Core) (at : Place) (rc : ℕ) → what ≡ whats.Exec at rc
      → BirthOr d w n u x.unit rc (op_at d at.prog at.op) after (core_at x.unit w)
      → Moves (IsIn x.reg after.estais) (IsIn x.reg (Core.estais (core_at x.unit w))) (CardMakes n (core_at u w) rc (op_at d at.prog at.op) x) ⊥
  births_of what m after at rc e h =
      let m2 = subst (λ (s : What). IsMade d w n (record { unit = u; what = s })) e m in
      births rc (op_at d at.prog at.op) after m2.sound (unit_named d m2.deck at.prog at.op) m2.can.what.1 h

  entry : (what : What) → IsMade d w n (record { unit = u; what = what }) → Changes estais d w n (record { unit = u; what = what }) x
  entry what m =
      said_by (λ h. h) (λ h. h) (λ h. h) (λ h. h)
      (λ h. elim h [ inl own ↦ absurd own.1 | inr born ↦ by_birth what born ]) (λ h. inr (from_birth what h)) (λ k. k) (λ k. k)
      (owned_moves d w n u x.unit what m (λ c. IsIn x.reg c.estais) ⊥ (EntryKills d (core_at u w) what x.reg) (λ rc op. CardMakes n (core_at u w) rc op x)
      (λ c h. h) (unborn_by what m) (λ same. by_own what m) (λ other after at rc e h. births_of what m after at rc e h))

-- at the start no unit has any
none_set : (units : List UnitOfWork) → ((v : ℕ) → Core.estais (UnitOfWork.core (unit_at v units)) ≡ []) → (u v born prog : ℕ) (b : Bool) → (v == u) ≡ b → (u < length units) ⊎ (length units ≤ u)
    → Core.estais (UnitOfWork.core (unit_at v (on_unit u (at_birth born prog []) units))) ≡ []
none_set units none u v born prog false e h = ap (λ (k : UnitOfWork). Core.estais k.core) (unit_there u v (at_birth born prog []) units (eqb-false v u e)) ∙ none v
none_set units none u v born prog true e (inl within) =
    let same = eqb-true v u e in
    rw same (ap (λ (k : UnitOfWork). Core.estais k.core) (unit_here u (at_birth born prog []) units within))
none_set units none u v born prog true e (inr past) = ap (λ (us : List UnitOfWork). Core.estais (UnitOfWork.core (unit_at v us))) (set_past units u (at_birth born prog [] (unit_at u units)) past) ∙ none v

none_at_start : (d : DeckView) (v : ℕ) → Core.estais (core_at v (start d)) ≡ []
none_at_start d v =
    let units : List UnitOfWork = map (λ card. unborn_unit) d.units ++ unborn_unit ∷ [] in
    none_set units (λ i. ap (λ (unit : UnitOfWork). Core.estais unit.core) (all_unborn d.units i)) (job_step d) v 0 (program_of d (job_step d)) (v == job_step d) refl (cases_lt (job_step d) (length units))

follows : Follows estais
follows = record {
  first = λ d deck x h. subst (IsIn x.reg) (none_at_start d x.unit) h;
  there = λ d deck x h. absurd h;
  changes = λ d w n e m x. entry d w n e.unit x e.what m;
}

-- each unit's list of ESTAI routines has those that live, that of the nearest attacher first
pub estais_live : (d : DeckView) (h : List Entry) → IsSoundHistory d h → Legal d h → AreTheEstais d h
estais_live d h sound legal = record {
  living = living estais d h sound legal follows;
  order = λ u. subst (λ (w : World). RoutinesFall (length h) 0 (Core.estais (core_at u w))) (before-all d h)
      (IsCoreSound.estais_fall (IsSound.cores (sound.worlds (length h) (omega arith)) u));
}
