-- Births and deaths of FRRs (Authorized Assembler Services Reference, SETFRR; Authorized Assembler Services Guide,
-- "Providing recovery").
use Rattle.std.specs.Prelude.{List, Some, length, ℕ, ◌≡◌, ◌⊎◌}
use Rattle.rtm_deck_items.specs.Reading.{op_at}
use Rattle.rtm_deck_items.specs.View.{DeckView}
use Rattle.rtm_deck_items.specs.declared.op.Op.{Op}
use Rattle.rtm_deck_items.specs.declared.op.Op.TheVariants.{FrrAdd, FrrDelete, FrrPurge, FrrReplace}
use Rattle.rtm_model.specs.declared.entry.Entry.{Entry}
use Rattle.rtm_model.specs.declared.entry.What.{What}
use Rattle.rtm_model.specs.declared.entry.What.TheVariants.{Begin, Exec, Leave}
use Rattle.rtm_model.specs.declared.reg.Kind.TheVariants.{Frr}
use Rattle.rtm_model.specs.declared.reg.Reg.{Reg}
use Rattle.rtm_model.specs.Births.{new_frr}
use Rattle.rtm_model.specs.Advance.{world}
use Rattle.rtm_model.specs.Cards.{frr_here}
use Rattle.rtm_model.specs.Levels.{depth_in}
use Rattle.rtm_model.specs.Moments.{IsIn}
use Rattle.rtm_model.specs.inner.Soundness.{RoutinesFall}
use Rattle.rtm_model.specs.World.{Core, core_at}
use Rattle.rtm_law_births.specs.Life.{HasTheLiving, Table}
use Rattle.rtm_law_births.specs.Routines.{IsItsLeave, UnitRoutine}
use Rattle.rtm_law_births.specs.Units.{IsPurgeOf}

-- SETFRR A makes one, and SETFRR R does where there is one to be replaced
abbrev pub CardMakes : ℕ → Core → ℕ → Op → Reg → Type 0
CardMakes n c rc (FrrAdd prog) reg = (rc ≡ 0) × (reg ≡ new_frr n c prog)
CardMakes n c rc (FrrReplace prog) reg = (rc ≡ 0) × (reg ≡ new_frr n c prog)
CardMakes n c rc _ reg = ⊥

abbrev pub EntryMakes : DeckView → ℕ → Core → What → Reg → Type 0
EntryMakes d n c (Exec at rc) reg = CardMakes n c rc (op_at d at.prog at.op) reg
EntryMakes d n c _ reg = ⊥

-- SETFRR D and R are the death of the bracket's newest, SETFRR P of all of the bracket
abbrev pub CardKills : Core → ℕ → Op → Reg → Type 0
CardKills c rc FrrDelete reg = (rc ≡ 0) × (frr_here c ≡ Some reg)
CardKills c rc (FrrReplace prog) reg = (rc ≡ 0) × (frr_here c ≡ Some reg)
CardKills c rc FrrPurge reg = (rc ≡ 0) × (reg.depth ≡ depth_in c.levels)
CardKills c rc _ reg = ⊥

-- so are the LEAVE of the bracket that it was born in, its own LEAVE, and the unit's BEGIN; and the unit's PURGE
abbrev pub EntryKills : DeckView → Core → What → Reg → Type 0
EntryKills d c (Exec at rc) reg = CardKills c rc (op_at d at.prog at.op) reg
EntryKills d c (Leave kind born verdict logrec dump) reg =
    (reg.depth ≡ depth_in c.levels) ⊎ IsItsLeave c Frr reg kind born verdict
EntryKills d c (Begin code dump) reg = Unit {0}
EntryKills d c _ reg = ⊥

abbrev pub frrs : Table UnitRoutine
frrs = record {
  has = λ w x. IsIn x.reg (Core.frrs (core_at x.unit w));
  starts = λ d x. ⊥;
  makes = λ d w n e x. (x.unit ≡ e.unit) × EntryMakes d n (core_at e.unit w) e.what x.reg;
  kills = λ d w n e x. ((x.unit ≡ e.unit) × EntryKills d (core_at e.unit w) e.what x.reg) ⊎ IsPurgeOf x.unit e.what;
}

-- each unit's list of FRRs has those that live, newest first
pub record AreTheFrrs (d : DeckView) (history : List Entry) : Type 0 where
  pub living : HasTheLiving frrs d history
  pub order : (u : ℕ)
      → RoutinesFall (length history) (depth_in (Core.levels (core_at u (world d history))))
      (Core.frrs (core_at u (world d history)))
