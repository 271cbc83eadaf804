-- What comes of a thing with a state that belongs to a unit: by the unit's own entries, its birth, and its purge.
use Rattle.std.proofs.Common.{◌≡◌, ℕ, Bool, true, false, List, refl, sym, ap, subst, inl, inr, ◌⊎◌}
use Rattle.std.proofs.lemmas.Bool.{eq-eqb, eqb-false, eqb-true, ne_eqb}
use Rattle.std.specs.Prelude.{if◌then◌else◌, ◌==◌}
use Rattle.rtm_deck_items.specs.Reading.{op_at}
use Rattle.rtm_deck_items.specs.View.{DeckView}
use Rattle.rtm_deck_items.specs.declared.op.Op.{Op}
use Rattle.rtm_deck_items.specs.declared.op.Op.TheVariants as ops
use Rattle.rtm_model.specs.declared.block.Place.{Place}
use Rattle.rtm_model.specs.declared.entry.What.{What}
use Rattle.rtm_model.specs.declared.entry.What.TheVariants as whats
use Rattle.rtm_model.specs.declared.reg.Reg.{Reg}
use Rattle.rtm_model.specs.OwnChange.{own_entry}
use Rattle.rtm_model.specs.Advance.{advance, purged_core}
use Rattle.rtm_model.specs.World.{Core, UnitOfWork, World, born_core, core_at, unit_at}
use Rattle.rtm_law_births.specs.Units.{IsPurgeOf}
use Rattle.rtm_law_births.proofs.Cores.{After, BirthOr, core_here, core_there}
use Rattle.rtm_law_births.proofs.Living.{IsMade}
use Rattle.rtm_law_births.proofs.Owned.{no_purge}
use Rattle.rtm_law_births.proofs.States.{Turns}

-- what an entry makes by bringing a unit to life
abbrev pub ByBirth : {S : Type 0} → DeckView → (ℕ → Op → S → Type 0) → What → S → Type 0
ByBirth d E (whats.Exec at rc) s = E rc (op_at d at.prog at.op) s
ByBirth d E _ s = ⊥

-- the changes of a unit's own entry
abbrev pub if_own : {S : Type 0} → ℕ → ℕ → (S → S) → S → S
if_own v u change s = if v == u then change s else s

module _ {S : Type 0} (d : DeckView) (w : World) (n u v : ℕ) (has : Core → S → Type 0) (B : S → Type 0) (K : Type 0) (change : S → S) (E : ℕ → Op → S → Type 0) where
  abbrev Whole : What → Core → Core → Type 0
  Whole what after before = Turns S (has after) (has before) (λ s. ((v ≡ u) × B s) ⊎ ByBirth d E what s) (((v ≡ u) × K) ⊎ IsPurgeOf v what) (if_own v u change)

  -- an entry of another unit: a purge, or nothing
  still : (what : What) (after before : Core) → (v ≡ u → ⊥) → ((s : S) → ByBirth d E what s → ⊥) → (IsPurgeOf v what → ⊥) → after ≡ before → Whole what after before
  still what after before other unborn unpurged same = record {
    came = λ s h. inr (s, subst (λ (c : Core). has c s) same h, λ k. elim k [ inl own ↦ other own.0 | inr gone ↦ unpurged gone ], rw (ne_eqb v u other) refl);
    born = λ s h. elim h [ inl own ↦ absurd (other own.0) | inr born ↦ absurd (unborn s born) ];
    stays = λ s h alive. rw (ne_eqb v u other) (subst (λ (c : Core). has c s) (sym same) h);
  }

  by_card : (at : Place) (rc : ℕ) (after before : Core) → (v ≡ u → ⊥) → Turns S (has after) (has before) (E rc (op_at d at.prog at.op)) ⊥ (λ s. s) → Whole (whats.Exec at rc) after before
  by_card at rc after before other turns = record {
    came = λ s h. elim (turns.came s h) [ inl born ↦ inl (inr born) | inr stayed ↦ inr (stayed.0, stayed.1, λ k. elim k [ inl own ↦ other own.0 | inr gone ↦ gone ], rw (ne_eqb v u other) stayed.3) ];
    born = λ s h. elim h [ inl own ↦ absurd (other own.0) | inr born ↦ turns.born s born ];
    stays = λ s h alive. rw (ne_eqb v u other) (turns.stays s h (λ k. k));
  }

  by_others : (what : What) → IsMade d w n (record { unit = u; what = what }) → (v ≡ u → ⊥) → ((c : Core) (s : S) → has (purged_core c) s → ⊥) → (after : Core) → After d w n u v what after (core_at v w)
      → ((at : Place) (rc : ℕ) → what ≡ whats.Exec at rc → BirthOr d w n u v rc (op_at d at.prog at.op) after (core_at v w) → Turns S (has after) (has (core_at v w)) (E rc (op_at d at.prog at.op)) ⊥ (λ s. s))
      → Whole what after (core_at v w)
  by_others (whats.Exec at rc) m other purged after h births = by_card at rc after (core_at v w) other (births at rc refl h)
  by_others (whats.Purge unit) m other purged after (inl is) births = record {
    came = λ s h. absurd (purged (core_at v w) s (subst (λ (c : Core). has c s) is.1 h));
    born = λ s h. elim h [ inl own ↦ absurd (other own.0) | inr born ↦ absurd born ];
    stays = λ s h alive. absurd (alive (inr (sym is.0)));
  }
  by_others (whats.Purge unit) m other purged after (inr apart) births = still (whats.Purge unit) after (core_at v w) other (λ s h. h) (λ k. apart.0 (sym k)) apart.1
  by_others what m other purged after h births = still what after (core_at v w) other (λ s h. h) (λ k. k) h

  -- an entry of the unit itself
  by_unit : (what : What) → IsMade d w n (record { unit = u; what = what }) → v ≡ u → ((s : S) → ByBirth d E what s → ⊥)
      → Turns S (has (own_entry d n w.managers (UnitOfWork.pending (unit_at u w.units)) what (core_at u w))) (has (core_at u w)) B K change
      → Whole what (core_at v (advance d w n (record { unit = u; what = what }))) (core_at v w)
  by_unit what m same unborn turns =
      let core = core_here d w n u v what m same in
      let mine : core_at v w ≡ core_at u w = ap (λ (i : ℕ). core_at i w) same in
      record {
        came = λ s h. elim (turns.came s (subst (λ (c : Core). has c s) core h)) [
          | inl born ↦ inl (inl (same, born))
          | inr stayed ↦ inr (
            stayed.0,
            subst (λ (c : Core). has c stayed.0) (sym mine) stayed.1,
            λ k. elim k [ inl own ↦ stayed.2 own.1 | inr gone ↦ no_purge d w n u v what m same gone ],
            rw (eq-eqb v u same) stayed.3,
          )
        ];
        born = λ s h. elim h [ inl own ↦ subst (λ (c : Core). has c s) (sym core) (turns.born s own.1) | inr born ↦ absurd (unborn s born) ];
        stays = λ s h alive. rw (eq-eqb v u same) (subst (λ (c : Core). has c (change s)) (sym core) (turns.stays s (subst (λ (c : Core). has c s) mine h) (λ k. alive (inl (same, k)))));
      }

  whole_if : (what : What) → IsMade d w n (record { unit = u; what = what }) → ((c : Core) (s : S) → has (purged_core c) s → ⊥) → (v ≡ u → (s : S) → ByBirth d E what s → ⊥)
      → (v ≡ u → Turns S (has (own_entry d n w.managers (UnitOfWork.pending (unit_at u w.units)) what (core_at u w))) (has (core_at u w)) B K change)
      → ((v ≡ u → ⊥) → (after : Core) (at : Place) (rc : ℕ) → what ≡ whats.Exec at rc → BirthOr d w n u v rc (op_at d at.prog at.op) after (core_at v w) → Turns S (has after) (has (core_at v w)) (E rc (op_at d at.prog at.op)) ⊥ (λ s. s))
      → (b : Bool) → (v == u) ≡ b
      → Whole what (core_at v (advance d w n (record { unit = u; what = what }))) (core_at v w)
  whole_if what m purged unborn mine births true e =
      let same = eqb-true v u e in
      by_unit what m same (unborn same) (mine same)
  whole_if what m purged unborn mine births false e =
      let other = eqb-false v u e in
      by_others what m other purged (core_at v (advance d w n (record { unit = u; what = what }))) (core_there d w n u v what m other) (births other (core_at v (advance d w n (record { unit = u; what = what }))))

  pub whole_turns : (what : What) → IsMade d w n (record { unit = u; what = what }) → ((c : Core) (s : S) → has (purged_core c) s → ⊥) → (v ≡ u → (s : S) → ByBirth d E what s → ⊥)
      → (v ≡ u → Turns S (has (own_entry d n w.managers (UnitOfWork.pending (unit_at u w.units)) what (core_at u w))) (has (core_at u w)) B K change)
      → ((v ≡ u → ⊥) → (after : Core) (at : Place) (rc : ℕ) → what ≡ whats.Exec at rc → BirthOr d w n u v rc (op_at d at.prog at.op) after (core_at v w) → Turns S (has after) (has (core_at v w)) (E rc (op_at d at.prog at.op)) ⊥ (λ s. s))
      → Whole what (core_at v (advance d w n (record { unit = u; what = what }))) (core_at v w)
  whole_turns what m purged unborn mine births = whole_if what m purged unborn mine births (v == u) refl

-- the same, of a thing that no birth of a unit makes
abbrev NoBirth : {S : Type 0} → ℕ → Op → S → Type 0
NoBirth rc op s = ⊥

no_birth : {S : Type 0} (d : DeckView) (what : What) (s : S) → ByBirth d NoBirth what s → ⊥
no_birth d (whats.Exec at rc) s h = h
no_birth d _ s h = h

pub unmoved : (S : Type 0) (before after : S → Type 0) → ((s : S) → after s → before s) → ((s : S) → before s → after s) → Turns S after before (λ s. ⊥) ⊥ (λ s. s)
unmoved S before after forth back = record {
  came = λ s h. inr (s, forth s h, λ k. k, refl);
  born = λ s h. absurd h;
  stays = λ s h alive. back s h;
}

card_births : {S : Type 0} (d : DeckView) (w : World) (n u v rc : ℕ) (op : Op) (has : Core → S → Type 0) → ((born prog : ℕ) (estais : List Reg) (c : Core) (s : S) → has (born_core born prog estais c) s → has c s) → ((born prog : ℕ) (estais : List Reg) (c : Core) (s : S) → has c s → has (born_core born prog estais c) s)
    → (after before : Core) → BirthOr d w n u v rc op after before → Turns S (has after) (has before) (λ s. ⊥) ⊥ (λ s. s)
card_births {S} d w n u v rc (ops.Attachx unit estai term) has forth back after before (inl born) =
    unmoved S (has before) (has after) (λ s h. forth _ _ _ before s (subst (λ (c : Core). has c s) born.core h)) (λ s h. subst (λ (c : Core). has c s) (sym born.core) (back _ _ _ before s h))
card_births {S} d w n u v rc (ops.Attachx unit estai term) has forth back after before (inr kept) = unmoved S (has before) (has after) (λ s h. subst (λ (c : Core). has c s) kept.core h) (λ s h. subst (λ (c : Core). has c s) (sym kept.core) h)
card_births {S} d w n u v rc (ops.Schedule unit) has forth back after before (inl born) =
    unmoved S (has before) (has after) (λ s h. forth _ _ _ before s (subst (λ (c : Core). has c s) born.core h)) (λ s h. subst (λ (c : Core). has c s) (sym born.core) (back _ _ _ before s h))
card_births {S} d w n u v rc (ops.Schedule unit) has forth back after before (inr kept) = unmoved S (has before) (has after) (λ s h. subst (λ (c : Core). has c s) kept.core h) (λ s h. subst (λ (c : Core). has c s) (sym kept.core) h)
card_births {S} d w n u v rc _ has forth back after before k = unmoved S (has before) (has after) (λ s h. subst (λ (c : Core). has c s) k h) (λ s h. subst (λ (c : Core). has c s) (sym k) h)

pub own_turns : {S : Type 0} (d : DeckView) (w : World) (n u v : ℕ) (what : What) (m : IsMade d w n (record { unit = u; what = what })) (has : Core → S → Type 0) (B : S → Type 0) (K : Type 0) (change : S → S)
    → ((c : Core) (s : S) → has (purged_core c) s → ⊥)
    → ((born prog : ℕ) (estais : List Reg) (c : Core) (s : S) → has (born_core born prog estais c) s → has c s) → ((born prog : ℕ) (estais : List Reg) (c : Core) (s : S) → has c s → has (born_core born prog estais c) s)
    → Turns S (has (own_entry d n w.managers (UnitOfWork.pending (unit_at u w.units)) what (core_at u w))) (has (core_at u w)) B K change
    → Turns S (has (core_at v (advance d w n (record { unit = u; what = what })))) (has (core_at v w)) (λ s. (v ≡ u) × B s) (((v ≡ u) × K) ⊎ IsPurgeOf v what) (if_own v u change)
own_turns {S} d w n u v what m has B K change purged forth back mine =
    let turns = whole_turns d w n u v has B K change (NoBirth {S = S}) what m purged (λ _ s h. no_birth d what s h) (λ _. mine)
    (λ other after at rc e h. card_births d w n u v rc (op_at d at.prog at.op) has forth back after (core_at v w) h) in
    record {
      came = λ s h. elim (turns.came s h) [ inl born ↦ elim born [ inl own ↦ inl own | inr none ↦ absurd (no_birth d what s none) ] | inr stayed ↦ inr stayed ];
      born = λ s h. turns.born s (inl h);
      stays = turns.stays;
    }
