-- Births and deaths of ESTAI routines (Assembler Services Reference, ATTACHX; the order of several is this profile's).
use Rattle.std.specs.Prelude.{List, Some, length, ℕ, ◌≡◌, ◌⊎◌}
use Rattle.rtm_deck_items.specs.Reading.{op_at}
use Rattle.rtm_deck_items.specs.View.{DeckView}
use Rattle.rtm_deck_items.specs.declared.op.Op.{Op}
use Rattle.rtm_deck_items.specs.declared.op.Op.TheVariants.{Attachx}
use Rattle.rtm_model.specs.declared.entry.Entry.{Entry}
use Rattle.rtm_model.specs.declared.entry.Verdict.TheVariants.{Stop}
use Rattle.rtm_model.specs.declared.entry.What.{What}
use Rattle.rtm_model.specs.declared.entry.What.TheVariants.{Begin, Exec, Leave}
use Rattle.rtm_model.specs.declared.reg.Kind.TheVariants.{Estai}
use Rattle.rtm_model.specs.declared.reg.Reg.{Reg}
use Rattle.rtm_model.specs.Births.{new_estai}
use Rattle.rtm_model.specs.Advance.{world}
use Rattle.rtm_model.specs.Moments.{IsIn}
use Rattle.rtm_model.specs.inner.Soundness.{RoutinesFall}
use Rattle.rtm_model.specs.World.{Core, core_at}
use Rattle.rtm_law_births.specs.Life.{HasTheLiving, Table}
use Rattle.rtm_law_births.specs.Routines.{IsItsLeave, UnitRoutine}
use Rattle.rtm_law_births.specs.Units.{IsPurgeOf}

-- ATTACHX makes those of the task that it attaches: the one that it names, and each that lives for the mother
abbrev pub CardMakes : ℕ → Core → ℕ → Op → UnitRoutine → Type 0
CardMakes n mother rc (Attachx unit estai term) x =
    (rc ≡ 0) × (x.unit ≡ unit) × ((new_estai n term estai ≡ Some x.reg) ⊎ IsIn x.reg mother.estais)
CardMakes n mother rc _ x = ⊥

abbrev pub EntryMakes : DeckView → ℕ → Core → What → UnitRoutine → Type 0
EntryMakes d n mother (Exec at rc) x = CardMakes n mother rc (op_at d at.prog at.op) x
EntryMakes d n mother _ x = ⊥

-- its own LEAVE is its death, and the unit's LEAVE with Stop and BEGIN are; and the unit's PURGE
abbrev pub EntryKills : DeckView → Core → What → Reg → Type 0
EntryKills d c (Leave kind born verdict logrec dump) reg = IsItsLeave c Estai reg kind born verdict ⊎ (verdict ≡ Stop)
EntryKills d c (Begin code dump) reg = Unit {0}
EntryKills d c _ reg = ⊥

abbrev pub estais : Table UnitRoutine
estais = record {
  has = λ w x. IsIn x.reg (Core.estais (core_at x.unit w));
  starts = λ d x. ⊥;
  makes = λ d w n e x. EntryMakes d n (core_at e.unit w) e.what x;
  kills = λ d w n e x. ((x.unit ≡ e.unit) × EntryKills d (core_at e.unit w) e.what x.reg) ⊎ IsPurgeOf x.unit e.what;
}

-- each unit's list of ESTAI routines has those that live, newest first: so that of the nearest attacher comes first
pub record AreTheEstais (d : DeckView) (history : List Entry) : Type 0 where
  pub living : HasTheLiving estais d history
  pub order : (u : ℕ) → RoutinesFall (length history) 0 (Core.estais (core_at u (world d history)))
