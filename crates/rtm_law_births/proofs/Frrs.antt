-- Births and deaths of FRRs, entry by entry.
use Rattle.std.proofs.Common.{◌≡◌, ℕ, Bool, true, List, [], ◌∷◌, ◌++◌, length, Option, Some, None, refl, sym, ap, subst, arith, inl, inr, ◌⊎◌, ◌∙◌}
use Rattle.std.specs.Prelude.{is_some, map, ◌==◌}
use Rattle.rtm_deck_items.specs.Reading.{op_at, job_step, program_of}
use Rattle.rtm_deck_items.specs.View.{DeckView}
use Rattle.rtm_deck_items.specs.declared.op.Op.{Op}
use Rattle.rtm_deck_items.specs.declared.op.Op.TheVariants as ops
use Rattle.rtm_model.specs.declared.abort.Abort.{Abort}
use Rattle.rtm_model.specs.declared.block.Place.{Place}
use Rattle.rtm_model.specs.declared.entry.Entry.{Entry}
use Rattle.rtm_model.specs.declared.entry.Verdict.{Verdict}
use Rattle.rtm_model.specs.declared.entry.Verdict.TheVariants.{Retry}
use Rattle.rtm_model.specs.declared.entry.What.{What}
use Rattle.rtm_model.specs.declared.entry.What.TheVariants as whats
use Rattle.rtm_model.specs.declared.outcome.Outcome.TheVariants.{Executed}
use Rattle.rtm_model.specs.declared.reg.Kind.{Kind}
use Rattle.rtm_model.specs.declared.reg.Kind.TheVariants.{Estae, Estai, Frr, Mgr}
use Rattle.rtm_model.specs.declared.reg.Reg.{Reg}
use Rattle.rtm_model.specs.Aborts.{abort_named}
use Rattle.rtm_model.specs.Births.{new_frr}
use Rattle.rtm_model.specs.OwnChange.{after_retry, is_gone_after, own_card, own_entry, place_after, routine_named, with_bracket_closed, with_landed, with_routine_entered, with_routine_left, without_routine}
use Rattle.rtm_model.specs.Cards.{frr_here, is_deepest, row, too_many_frrs}
use Rattle.rtm_model.specs.Chains.{is_of_depth, without_depth}
use Rattle.rtm_model.specs.Legal.{Legal}
use Rattle.rtm_model.specs.Levels.{current, depth_in, is_frr, record_in}
use Rattle.rtm_model.specs.Moments.{IsIn}
use Rattle.rtm_model.specs.Surroundings.{surroundings_at}
use Rattle.rtm_model.specs.inner.Soundness.{IsCoreSound, IsSound, RoutinesFall}
use Rattle.rtm_model.specs.World.{Core, UnitOfWork, World, at_birth, core_at, start, unborn_unit, unit_at}
use Rattle.rtm_model.proofs.Units.{unit_same}
use Rattle.rtm_model.proofs.Start.{all_unborn}
use Rattle.rtm_model.specs.Limits.{most_frrs}
use Rattle.rtm_law_births.specs.Frrs.{AreTheFrrs, CardKills, CardMakes, EntryKills, EntryMakes, frrs}
use Rattle.rtm_law_births.specs.Routines.{IsItsLeave, UnitRoutine}
use Rattle.rtm_law_births.proofs.Sound.{IsSoundHistory}
use Rattle.rtm_law_births.proofs.Histories.{before-all}
use Rattle.rtm_law_births.proofs.Living.{Changes, Follows, IsMade, Moves, cleared, deaths, living, said_by, same_list, unmoved}
use Rattle.rtm_law_births.proofs.Outcomes.{IsVerdictOf, deep_rc, outcome_of, row_of, there_rc, verdict_of, zero_there}
use Rattle.rtm_law_births.proofs.Owned.{unit_own_moves}
use Rattle.rtm_law_births.proofs.Routines.{depth_gone, falls, first_gone, left_moves, no_over, no_stop, replaced}

-- SETFRR A
purge_rc : (rc : ℕ) → Executed 0 ≡ Executed rc → rc ≡ 0
purge_rc rc e = cc

module _ (d : DeckView) (n : ℕ) (c : Core) (sound : IsCoreSound d n c) (reg : Reg) where
  added : (prog rc : ℕ) → rc ≡ 0 → Moves (IsIn reg (new_frr n c prog ∷ c.frrs)) (IsIn reg c.frrs) ((rc ≡ 0) × (reg ≡ new_frr n c prog)) ⊥
  added prog rc zero_is = record {
    came = λ h. elim h [ inl same ↦ inl (zero_is, same) | inr there ↦ inr (there, λ k. k) ];
    born = λ h. inl h.1;
    stays = λ h k. inr h;
  }

  -- the card executed with 0 is what the list says
  card : (w : World) (u rc : ℕ) (place : Place) (op : Op) → core_at u w ≡ c → row c (surroundings_at d w u op) op ≡ Executed rc
      → Moves (IsIn reg (Core.frrs (own_card n place op c))) (IsIn reg c.frrs) (CardMakes n c rc op reg) (CardKills c rc op reg)
  card w u rc place (ops.FrrAdd prog) same e = added prog rc (deep_rc (is_deepest c.levels) (length c.frrs == most_frrs) too_many_frrs rc e)
  card w u rc place ops.FrrDelete same e =
      said_by (λ h. h) (λ h. h) (λ h. h) (λ h. h) (λ h. h) (λ h. h)
      (λ k. (there_rc (is_some (frr_here c)) 4 rc e (ap is_some k), k)) (λ k. k.1)
      (first_gone Reg.born (is_of_depth (depth_in c.levels)) c.frrs n (falls n (depth_in c.levels) c.frrs sound.frrs_fall) reg)
  card w u rc place (ops.FrrReplace prog) same e =
      said_by (λ h. h) (λ h. h) (λ h. h) (λ h. h)
      (λ h. (there_rc (is_some (frr_here c)) 4 rc e h.1, h.0)) (λ h. (h.1, zero_there (is_some (frr_here c)) 3 rc e h.0))
      (λ k. (there_rc (is_some (frr_here c)) 4 rc e (ap is_some k), k)) (λ k. k.1)
      (replaced Reg.born (is_of_depth (depth_in c.levels)) (new_frr n c prog) c.frrs n (falls n (depth_in c.levels) c.frrs sound.frrs_fall) reg)
  card w u rc place ops.FrrPurge same e =
      said_by (λ h. h) (λ h. h) (λ h. h) (λ h. h) (λ h. h) (λ h. h)
      (λ k. (purge_rc rc e, k)) (λ k. k.1)
      (depth_gone (depth_in c.levels) c.frrs reg)
  card w u rc place _ same e = unmoved (λ h. h) (λ h. h) (λ h. h) (λ h. h)

  -- a routine is left
  frrs_after : (verdict : Verdict) (o : Option Reg) (c2 : Core) → Core.frrs (after_retry verdict o c2) ≡ c2.frrs
  frrs_after (Retry place) None c = refl
  frrs_after (Retry place) (Some routine) c = refl
  frrs_after _ o c = refl

  is_frr_of : (kind : Kind) → is_frr kind ≡ true → kind ≡ Frr
  is_frr_of Frr e = refl
  is_frr_of Estae e = absurd cc
  is_frr_of Estai e = absurd cc
  is_frr_of Mgr e = absurd cc

  of_is_frr : (kind : Kind) → kind ≡ Frr → is_frr kind ≡ true
  of_is_frr kind e = ap is_frr e

  left : (kind : Kind) (born : ℕ) (verdict : Verdict) → IsVerdictOf kind verdict
      → Moves (IsIn reg (Core.frrs (with_routine_left kind born verdict c))) (IsIn reg c.frrs) ⊥ ((reg.depth ≡ depth_in c.levels) ⊎ IsItsLeave c Frr reg kind born verdict)
  left kind born verdict fits =
      let stays = frrs_after verdict (current c.levels) (without_routine verdict (is_gone_after verdict (record_in c.levels)) kind born (with_bracket_closed verdict c)) in
      let not_mgr : kind ≡ Frr → kind ≡ Mgr → ⊥ = λ f m. let k : Frr ≡ Mgr = sym f ∙ m in absurd cc in
      let not_estai : kind ≡ Frr → kind ≡ Estai → ⊥ = λ f m. let k : Frr ≡ Estai = sym f ∙ m in absurd cc in
      said_by (λ h. subst (IsIn reg) (sym stays) h) (λ h. subst (IsIn reg) stays h) (λ h. h) (λ h. h) (λ h. h) (λ h. h) (λ h. h) (λ h. h)
      (deaths (depth_gone (depth_in c.levels) c.frrs reg)
      (left_moves c Frr kind born verdict (without_depth (depth_in c.levels) c.frrs) reg (is_frr kind) (is_frr_of kind) (of_is_frr kind)
      (λ f. no_stop kind verdict fits (not_mgr f) (not_estai f)) (λ f. no_over kind verdict fits (not_mgr f))))

-- what comes of an FRR at its unit's entries
frrs_landed : (abort : Option Abort) (c : Core) → Core.frrs (with_landed abort c) ≡ c.frrs
frrs_landed None c = refl
frrs_landed (Some abort) c = refl

frrs_entered : (n : ℕ) (bare : Bool) (o : Option Reg) (c : Core) → Core.frrs (with_routine_entered n bare o c) ≡ c.frrs
frrs_entered n bare None c = refl
frrs_entered n bare (Some reg) c = refl

module _ (d : DeckView) (w : World) (n u : ℕ) (x : UnitRoutine) where
  by_own : (what : What) → IsMade d w n (record { unit = u; what = what })
      → Moves (IsIn x.reg (Core.frrs (own_entry d n w.managers (UnitOfWork.pending (unit_at u w.units)) what (core_at u w)))) (IsIn x.reg (Core.frrs (core_at u w)))
      (EntryMakes d n (core_at u w) what x.reg) (EntryKills d (core_at u w) what x.reg)
  by_own (whats.Exec at rc) m =
      card d n (core_at u w) (IsSound.cores m.sound u) x.reg w u rc (place_after d at rc (op_at d at.prog at.op)) (op_at d at.prog at.op) refl
      (row_of (core_at u w) (surroundings_at d w u (op_at d at.prog at.op)) (op_at d at.prog at.op) rc (outcome_of d w u (whats.Exec at rc) m.may))
  by_own (whats.Land class from mark) m =
      same_list x.reg (Core.frrs (core_at u w)) _ (frrs_landed (abort_named class from (UnitOfWork.pending (unit_at u w.units))) (core_at u w))
  by_own (whats.Enter kind reg mark bare) m =
      same_list x.reg (Core.frrs (core_at u w)) _ (frrs_entered n bare (routine_named kind reg w.managers (core_at u w)) (core_at u w))
  by_own (whats.Leave kind reg verdict logrec dump) m =
      left d n (core_at u w) (IsSound.cores m.sound u) x.reg kind reg verdict
      (verdict_of d (core_at u w) kind verdict (IsCoreSound.nested (IsSound.cores m.sound u)) (outcome_of d w u (whats.Leave kind reg verdict logrec dump) m.may))
  by_own (whats.Begin code dump) m = cleared x.reg (Core.frrs (core_at u w))
  by_own _ m = unmoved (λ h. h) (λ h. h) (λ h. h) (λ h. h)

  entry : (what : What) → IsMade d w n (record { unit = u; what = what }) → Changes frrs d w n (record { unit = u; what = what }) x
  entry what m =
      unit_own_moves d w n u x.unit what m (λ c. IsIn x.reg c.frrs) _ _ (λ c h. h) (λ born prog estais c h. h) (λ born prog estais c h. h)
      (λ same. by_own what m)

none_at_start : (d : DeckView) (v : ℕ) → Core.frrs (core_at v (start d)) ≡ []
none_at_start d v =
    unit_same (λ (unit : UnitOfWork). Core.frrs unit.core) (at_birth 0 (program_of d (job_step d)) []) (λ unit. refl) (job_step d) v (map (λ card. unborn_unit) d.units ++ unborn_unit ∷ [])
    ∙ ap (λ (unit : UnitOfWork). Core.frrs unit.core) (all_unborn d.units v)

follows : Follows frrs
follows = record {
  first = λ d deck x h. subst (IsIn x.reg) (none_at_start d x.unit) h;
  there = λ d deck x h. absurd h;
  changes = λ d w n e m x. entry d w n e.unit x e.what m;
}

-- each unit's list of FRRs has those that live, newest first
pub frrs_live : (d : DeckView) (h : List Entry) → IsSoundHistory d h → Legal d h → AreTheFrrs d h
frrs_live d h sound legal = record {
  living = living frrs d h sound legal follows;
  order = λ u. subst (λ (w : World). RoutinesFall (length h) (depth_in (Core.levels (core_at u w))) (Core.frrs (core_at u w))) (before-all d h)
      (IsCoreSound.frrs_fall (IsSound.cores (sound.worlds (length h) (omega arith)) u));
}
