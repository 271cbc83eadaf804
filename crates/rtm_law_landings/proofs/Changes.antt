-- A unit's control blocks after an entry, its own or another's.
use Rattle.std.proofs.Common.{◌≡◌, ℕ, Bool, true, false, ◌||◌, List, [], ◌∷◌, ◌++◌, length, Option, Some, None, refl, sym, ap, subst, arith, inl, inr, ◌⊎◌, ◌∙◌}
use Rattle.std.proofs.lemmas.Bool.{eq-eqb, eqb-false, eqb-true, ne_eqb, or_right}
use Rattle.std.proofs.lemmas.List.Folds.{list_any-append}
use Rattle.std.specs.Prelude.{IsTrue, is_some, map, ◌==◌}
use Rattle.rtm_deck_items.specs.Reading.{job_step, op_at, program_of}
use Rattle.rtm_deck_items.specs.View.{DeckView}
use Rattle.rtm_deck_items.specs.WellFormed.{is_well_formed}
use Rattle.rtm_deck_items.specs.declared.op.Op.{Op}
use Rattle.rtm_deck_items.specs.declared.op.Op.TheVariants as ops
use Rattle.rtm_model.specs.declared.abort.Abort.{Abort}
use Rattle.rtm_model.specs.declared.entry.Entry.{Entry}
use Rattle.rtm_model.specs.declared.entry.Verdict.{Verdict}
use Rattle.rtm_model.specs.declared.entry.Verdict.TheVariants.{Retry}
use Rattle.rtm_model.specs.declared.entry.What.{What}
use Rattle.rtm_model.specs.declared.entry.What.TheVariants as whats
use Rattle.rtm_model.specs.declared.holding.Manager1.{Manager1}
use Rattle.rtm_model.specs.declared.reg.Reg.{Reg}
use Rattle.rtm_model.specs.Aborts.{abort_named}
use Rattle.rtm_model.specs.Advance.{advance, purged_core, world}
use Rattle.rtm_model.specs.Entries.{has_begun, is_begin_of, purges}
use Rattle.rtm_model.specs.Legal.{Legal}
use Rattle.rtm_model.specs.Levels.{current}
use Rattle.rtm_model.specs.OwnChange.{after_retry, own_entry, routine_named, with_landed, with_routine_entered}
use Rattle.rtm_model.specs.World.{Beginning, Core, UnitOfWork, World, at_birth, born_core, core_at, master, start, unborn_unit, unit_at}
use Rattle.rtm_model.proofs.Cards.{card_begun}
use Rattle.rtm_model.proofs.Start.{all_unborn}
use Rattle.rtm_model.proofs.Units.{unit_same}
use Rattle.rtm_law_births.proofs.Cores.{After, BirthOr, core_here, core_there}
use Rattle.rtm_law_births.proofs.Living.{IsMade}
use Rattle.rtm_law_births.proofs.Outcomes.{outcome_of}
use Rattle.rtm_law_sound.proofs.Histories.{world-append, world-nil}
use Rattle.rtm_law_landings.proofs.Appended.{holds_of}
use Rattle.rtm_law_landings.proofs.Booleans.{or-false}

-- what another unit's entry changes: nothing; or it is the unit's birth, or its purge
pub record IsLeft (v : ℕ) (what : What) (after before : Core) : Type 0 where
  pub core : after ≡ before
  pub stays : purges v what ≡ false

pub record IsBirth (v : ℕ) (what : What) (after before : Core) : Type 0 where
  pub birth : ℕ
  pub prog : ℕ
  pub estais : List Reg
  pub core : after ≡ born_core birth prog estais before
  pub stays : purges v what ≡ false

pub record IsPurged (v : ℕ) (what : What) (after before : Core) : Type 0 where
  pub core : after ≡ purged_core before
  pub goes : purges v what ≡ true

abbrev pub IsOthers : ℕ → What → Core → Core → Type 0
IsOthers v what after before = IsLeft v what after before ⊎ IsBirth v what after before ⊎ IsPurged v what after before

module _ (d : DeckView) (w : World) (n u v : ℕ) where
  card_others : (at_what : What) → purges v at_what ≡ false → (rc : ℕ) (op : Op) (after before : Core) → BirthOr d w n u v rc op after before → IsOthers v at_what after before
  card_others what e rc (ops.Attachx unit estai term) after before (inl born) = inr (inl (record { birth = _; prog = _; estais = _; core = born.core; stays = e }))
  card_others what e rc (ops.Attachx unit estai term) after before (inr other) = inl (record { core = other.core; stays = e })
  card_others what e rc (ops.Schedule unit) after before (inl born) = inr (inl (record { birth = _; prog = _; estais = _; core = born.core; stays = e }))
  card_others what e rc (ops.Schedule unit) after before (inr other) = inl (record { core = other.core; stays = e })
  card_others what e rc _ after before h = inl (record { core = h; stays = e })

  others_by : (what : What) (after before : Core) → After d w n u v what after before → IsOthers v what after before
  others_by (whats.Exec at rc) after before h = card_others (whats.Exec at rc) refl rc (op_at d at.prog at.op) after before h
  others_by (whats.Purge unit) after before (inl is) = inr (inr (record { core = is.1; goes = eq-eqb unit v (sym is.0) }))
  others_by (whats.Purge unit) after before (inr other) = inl (record { core = other.1; stays = ne_eqb unit v (λ same. other.0 (sym same)) })
  others_by _ after before h = inl (record { core = h; stays = refl })

  -- the master alone purges, and not itself
  not_own : (what : What) → IsMade d w n (record { unit = u; what = what }) → purges u what ≡ false
  not_own (whats.Purge unit) m =
      let mine : u ≡ master d = outcome_of d w u (whats.Purge unit) m.may in
      ne_eqb unit u (λ same. omega (arith, m.can.what.0, mine, same))
  not_own _ m = refl

  -- the unit's control blocks after the entry, by whose it is
  module _ (what : What) (m : IsMade d w n (record { unit = u; what = what })) (P : Core → Type 0)
      (mine : v ≡ u → purges v what ≡ false → P (own_entry d n w.managers (UnitOfWork.pending (unit_at u w.units)) what (core_at u w)))
      (others : (v ≡ u → ⊥) → (after : Core) → IsOthers v what after (core_at v w) → P after) where
    after_if : (b : Bool) → (v == u) ≡ b → P (core_at v (advance d w n (record { unit = u; what = what })))
    after_if true e =
        let same = eqb-true v u e in
        subst P (sym (core_here d w n u v what m same)) (mine same (subst (λ (i : ℕ). purges i what ≡ false) (sym same) (not_own what m)))
    after_if false e =
        let other = eqb-false v u e in
        others other _ (others_by what _ _ (core_there d w n u v what m other))

    pub core_after : P (core_at v (advance d w n (record { unit = u; what = what })))
    core_after = after_if (v == u) refl

-- That a unit has begun to end

retried_begun : (verdict : Verdict) (o : Option Reg) (c : Core) → Core.begun (after_retry verdict o c) ≡ c.begun
retried_begun (Retry place) None c = refl
retried_begun (Retry place) (Some reg) c = refl
retried_begun _ o c = refl

landed_begun : (o : Option Abort) (c : Core) → Core.begun (with_landed o c) ≡ c.begun
landed_begun None c = refl
landed_begun (Some abort) c = refl

entered_begun : (n : ℕ) (bare : Bool) (o : Option Reg) (c : Core) → Core.begun (with_routine_entered n bare o c) ≡ c.begun
entered_begun n bare None c = refl
entered_begun n bare (Some reg) c = refl

stays_begun : (b c : Option Beginning) → c ≡ b → is_some c ≡ (is_some b || false)
stays_begun b c e = ap is_some e ∙ sym (or-false (is_some b))

own_begun : (d : DeckView) (n u : ℕ) (managers : List Manager1) (pending : List Abort) (what : What) (c : Core)
    → is_some (Core.begun (own_entry d n managers pending what c)) ≡ (is_some c.begun || is_begin_of u u what)
own_begun d n u managers pending (whats.Exec at rc) c = stays_begun c.begun _ (card_begun n _ (op_at d at.prog at.op) c)
own_begun d n u managers pending (whats.Land class from mark) c = stays_begun c.begun _ (landed_begun (abort_named class from pending) c)
own_begun d n u managers pending (whats.Enter kind born mark bare) c = stays_begun c.begun _ (entered_begun n bare (routine_named kind born managers c) c)
own_begun d n u managers pending (whats.Leave kind born verdict logrec dump) c = stays_begun c.begun _ (retried_begun verdict (current c.levels) _)
own_begun d n u managers pending (whats.Begin code dump) c = sym (or_right (is_some c.begun) (u == u) (eq-eqb u u refl))
own_begun d n u managers pending _ c = sym (or-false (is_some c.begun))

other_begin : (v u : ℕ) (what : What) → (v ≡ u → ⊥) → is_begin_of v u what ≡ false
other_begin v u (whats.Begin code dump) other = ne_eqb u v (λ same. other (sym same))
other_begin v u _ other = refl

others_begun : (v : ℕ) (what : What) (after before : Core) → IsOthers v what after before → Core.begun after ≡ before.begun
others_begun v what after before (inl left) = ap Core.begun left.core
others_begun v what after before (inr (inl born)) = ap Core.begun born.core
others_begun v what after before (inr (inr purged)) = ap Core.begun purged.core

begun_after : (d : DeckView) (w : World) (n u v : ℕ) (what : What) → IsMade d w n (record { unit = u; what = what })
    → is_some (Core.begun (core_at v (advance d w n (record { unit = u; what = what })))) ≡ (is_some (Core.begun (core_at v w)) || is_begin_of v u what)
begun_after d w n u v what m =
    core_after d w n u v what m (λ c. is_some (Core.begun c) ≡ (is_some (Core.begun (core_at v w)) || is_begin_of v u what))
    (λ same stays. rw same (own_begun d n u w.managers (UnitOfWork.pending (unit_at u w.units)) what (core_at u w)))
    (λ other after change.
    ap is_some (others_begun v what after (core_at v w) change) ∙ sym (or-false (is_some (Core.begun (core_at v w))))
    ∙ ap (λ (b : Bool). is_some (Core.begun (core_at v w)) || b) (sym (other_begin v u what other)))

-- the units that have begun to end are those that entries say
abbrev pub BegunAgree : DeckView → List Entry → Type 0
BegunAgree d h = (v : ℕ) → is_some (Core.begun (core_at v (world d h))) ≡ has_begun v h

begun_keep : (d : DeckView) (h : List Entry) (e : Entry) → IsMade d (world d h) (length h) e → BegunAgree d h → BegunAgree d (h ++ e ∷ [])
begun_keep d h e m agree v =
    ap (λ (k : World). is_some (Core.begun (core_at v k))) (world-append d h e)
    ∙ begun_after d (world d h) (length h) e.unit v e.what m
    ∙ ap (λ (b : Bool). b || is_begin_of v e.unit e.what) (agree v)
    ∙ ap (λ (b : Bool). has_begun v h || b) (sym (or-false (is_begin_of v e.unit e.what)))
    ∙ sym (list_any-append (λ (e : Entry). is_begin_of v e.unit e.what) h (e ∷ []))

-- each unit at the start is as before its birth, but for its request block
pub at_start : (d : DeckView) (A : Type 0) (F : Core → A) → ((birth prog : ℕ) (estais : List Reg) (c : Core) → F (born_core birth prog estais c) ≡ F c) → (v : ℕ) → F (core_at v (start d)) ≡ F (UnitOfWork.core unborn_unit)
at_start d A F same v =
    unit_same (λ (unit : UnitOfWork). F unit.core) (at_birth 0 (program_of d (job_step d)) []) (λ unit. same 0 (program_of d (job_step d)) [] unit.core) (job_step d) v (map (λ card. unborn_unit) d.units ++ unborn_unit ∷ [])
    ∙ ap (λ (unit : UnitOfWork). F unit.core) (all_unborn d.units v)

pub begun_agree : (d : DeckView) (h : List Entry) → IsTrue (is_well_formed d) → Legal d h → BegunAgree d h
begun_agree d h deck legal =
    holds_of d deck (BegunAgree d)
    (λ v. ap (λ (k : World). is_some (Core.begun (core_at v k))) (world-nil d) ∙ at_start d Bool (λ c. is_some (Core.begun c)) (λ birth prog estais c. refl) v)
    (λ front e before m agree. begun_keep d front e m agree) h legal
