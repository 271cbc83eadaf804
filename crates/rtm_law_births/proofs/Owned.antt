-- What comes of a thing that belongs to a unit: by the unit's own entries, by its birth, and by its purge.
use Rattle.std.proofs.Common.{◌≡◌, ℕ, List, refl, sym, subst, arith, inl, inr, ◌⊎◌}
use Rattle.rtm_deck_items.specs.Reading.{op_at}
use Rattle.rtm_deck_items.specs.View.{DeckView}
use Rattle.rtm_deck_items.specs.declared.op.Op.{Op}
use Rattle.rtm_deck_items.specs.declared.op.Op.TheVariants as ops
use Rattle.rtm_model.specs.declared.block.Place.{Place}
use Rattle.rtm_model.specs.declared.entry.What.{What}
use Rattle.rtm_model.specs.declared.entry.What.TheVariants as whats
use Rattle.rtm_model.specs.declared.reg.Reg.{Reg}
use Rattle.rtm_model.specs.OwnChange.{own_entry}
use Rattle.rtm_model.specs.Advance.{advance, purged_core}
use Rattle.rtm_model.specs.World.{Core, UnitOfWork, World, born_core, core_at, unit_at}
use Rattle.rtm_law_births.specs.Units.{IsPurgeOf}
use Rattle.rtm_law_births.proofs.Cores.{After, BirthOr, unit_moves}
use Rattle.rtm_law_births.proofs.Living.{IsMade, Moves, said_by, unmoved}
use Rattle.rtm_law_births.proofs.Outcomes.{outcome_of}

-- what an entry makes by bringing a unit to life
abbrev pub ByBirth : DeckView → (ℕ → Op → Type 0) → What → Type 0
ByBirth d E (whats.Exec at rc) = E rc (op_at d at.prog at.op)
ByBirth d E _ = ⊥

-- a unit isn't purged by its own entry
pub no_purge : (d : DeckView) (w : World) (n u v : ℕ) (what : What) → IsMade d w n (record { unit = u; what = what }) → v ≡ u → IsPurgeOf v what → ⊥
no_purge d w n u v (whats.Purge unit) m same purged = let master_is = outcome_of d w u (whats.Purge unit) m.may in omega (arith, purged, same, master_is, m.can.what.0)
no_purge d w n u v _ m same purged = purged

-- what an entry of another unit does: a birth, a purge, or nothing
module _ (d : DeckView) (w : World) (n u v : ℕ) (has : Core → Type 0) (B K : Type 0) (E : ℕ → Op → Type 0) (other : v ≡ u → ⊥)
    (purged : (c : Core) → has (purged_core c) → ⊥) where
  abbrev Other : What → Core → Core → Type 0
  Other what after before = Moves (has after) (has before) (((v ≡ u) × B) ⊎ ByBirth d E what) (((v ≡ u) × K) ⊎ IsPurgeOf v what)

  still : (what : What) (after before : Core) → (ByBirth d E what → ⊥) → (IsPurgeOf v what → ⊥) → after ≡ before → Other what after before
  still what after before unborn unpurged same =
      unmoved (λ h. subst has same h) (λ h. subst has (sym same) h)
      (λ h. elim h [ inl own ↦ other own.0 | inr born ↦ unborn born ])
      (λ k. elim k [ inl own ↦ other own.0 | inr gone ↦ unpurged gone ])

  pub by_others : (what : What) → IsMade d w n (record { unit = u; what = what }) → (after : Core) → After d w n u v what after (core_at v w)
      → ((at : Place) (rc : ℕ) → what ≡ whats.Exec at rc → BirthOr d w n u v rc (op_at d at.prog at.op) after (core_at v w) → Moves (has after) (has (core_at v w)) (E rc (op_at d at.prog at.op)) ⊥)
      → Other what after (core_at v w)
  by_others (whats.Exec at rc) m after h births =
      said_by (λ h. h) (λ h. h) (λ h. h) (λ h. h) (λ h. inr h) (λ h. elim h [ inl own ↦ absurd (other own.0) | inr born ↦ born ])
      (λ k. absurd k) (λ k. elim k [ inl own ↦ other own.0 | inr gone ↦ gone ]) (births at rc refl h)
  by_others (whats.Purge unit) m after (inl is) births = record {
    came = λ h. absurd (purged (core_at v w) (subst has is.1 h));
    born = λ h. elim h [ inl own ↦ absurd (other own.0) | inr born ↦ absurd born ];
    stays = λ h alive. absurd (alive (inr (sym is.0)));
  }
  by_others (whats.Purge unit) m after (inr apart) births = still (whats.Purge unit) after (core_at v w) (λ h. h) (λ k. apart.0 (sym k)) apart.1
  by_others what m after h births = still what after (core_at v w) (λ h. h) (λ k. k) h

-- every entry: `mine` by the unit itself, `births` by the card of another
pub owned_moves : (d : DeckView) (w : World) (n u v : ℕ) (what : What) (m : IsMade d w n (record { unit = u; what = what })) (has : Core → Type 0) (B K : Type 0) (E : ℕ → Op → Type 0)
    → ((c : Core) → has (purged_core c) → ⊥)
    → (v ≡ u → ByBirth d E what → ⊥)
    → (v ≡ u → Moves (has (own_entry d n w.managers (UnitOfWork.pending (unit_at u w.units)) what (core_at u w))) (has (core_at u w)) B K)
    → ((v ≡ u → ⊥) → (after : Core) → (at : Place) (rc : ℕ) → what ≡ whats.Exec at rc → BirthOr d w n u v rc (op_at d at.prog at.op) after (core_at v w) → Moves (has after) (has (core_at v w)) (E rc (op_at d at.prog at.op)) ⊥)
    → Moves (has (core_at v (advance d w n (record { unit = u; what = what })))) (has (core_at v w)) (((v ≡ u) × B) ⊎ ByBirth d E what) (((v ≡ u) × K) ⊎ IsPurgeOf v what)
owned_moves d w n u v what m has B K E purged unborn mine births =
    unit_moves d w n u v what m has _ _
    (λ same. said_by (λ h. h) (λ h. h) (λ h. h) (λ h. h) (λ h. inl (same, h)) (λ h. elim h [ inl own ↦ own.1 | inr born ↦ absurd (unborn same born) ])
    (λ k. inl (same, k)) (λ k. elim k [ inl own ↦ own.1 | inr gone ↦ absurd (no_purge d w n u v what m same gone) ]) (mine same))
    (λ other after h. by_others d w n u v has B K E other purged what m after h (births other after))

-- a thing that a unit has from none of its births
abbrev NoBirth : ℕ → Op → Type 0
NoBirth rc op = ⊥

no_birth : (d : DeckView) (what : What) → ByBirth d NoBirth what → ⊥
no_birth d (whats.Exec at rc) h = h
no_birth d _ h = h

card_births : (d : DeckView) (w : World) (n u v rc : ℕ) (op : Op) (has : Core → Type 0) → ((born prog : ℕ) (estais : List Reg) (c : Core) → has (born_core born prog estais c) → has c) → ((born prog : ℕ) (estais : List Reg) (c : Core) → has c → has (born_core born prog estais c))
    → (after before : Core) → BirthOr d w n u v rc op after before → Moves (has after) (has before) ⊥ ⊥
card_births d w n u v rc (ops.Attachx unit estai term) has forth back after before (inl born) =
    unmoved (λ h. forth _ _ _ before (subst has born.core h)) (λ h. subst has (sym born.core) (back _ _ _ before h)) (λ h. h) (λ h. h)
card_births d w n u v rc (ops.Attachx unit estai term) has forth back after before (inr kept) = unmoved (λ h. subst has kept.core h) (λ h. subst has (sym kept.core) h) (λ h. h) (λ h. h)
card_births d w n u v rc (ops.Schedule unit) has forth back after before (inl born) =
    unmoved (λ h. forth _ _ _ before (subst has born.core h)) (λ h. subst has (sym born.core) (back _ _ _ before h)) (λ h. h) (λ h. h)
card_births d w n u v rc (ops.Schedule unit) has forth back after before (inr kept) = unmoved (λ h. subst has kept.core h) (λ h. subst has (sym kept.core) h) (λ h. h) (λ h. h)
card_births d w n u v rc _ has forth back after before h = unmoved (λ k. subst has h k) (λ k. subst has (sym h) k) (λ k. k) (λ k. k)

pub unit_own_moves : (d : DeckView) (w : World) (n u v : ℕ) (what : What) (m : IsMade d w n (record { unit = u; what = what })) (has : Core → Type 0) (B K : Type 0)
    → ((c : Core) → has (purged_core c) → ⊥)
    → ((born prog : ℕ) (estais : List Reg) (c : Core) → has (born_core born prog estais c) → has c) → ((born prog : ℕ) (estais : List Reg) (c : Core) → has c → has (born_core born prog estais c))
    → (v ≡ u → Moves (has (own_entry d n w.managers (UnitOfWork.pending (unit_at u w.units)) what (core_at u w))) (has (core_at u w)) B K)
    → Moves (has (core_at v (advance d w n (record { unit = u; what = what })))) (has (core_at v w)) ((v ≡ u) × B) (((v ≡ u) × K) ⊎ IsPurgeOf v what)
unit_own_moves d w n u v what m has B K purged forth back mine =
    said_by (λ h. h) (λ h. h) (λ h. h) (λ h. h) (λ h. elim h [ inl own ↦ own | inr born ↦ absurd (no_birth d what born) ]) (λ h. inl h) (λ k. k) (λ k. k)
    (owned_moves d w n u v what m has B K NoBirth purged (λ _ h. no_birth d what h) mine
    (λ other after at rc e h. card_births d w n u v rc (op_at d at.prog at.op) has forth back after (core_at v w) h))
