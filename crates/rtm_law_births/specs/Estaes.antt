-- Births and deaths of ESTAE routines (Assembler Services Reference, ESTAEX; Authorized Assembler Services Guide,
-- "Providing recovery").
use Rattle.std.specs.Prelude.{List, Some, false, length, ℕ, ◌≡◌, ◌⊎◌}
use Rattle.rtm_deck_items.specs.Reading.{op_at}
use Rattle.rtm_deck_items.specs.View.{DeckView}
use Rattle.rtm_deck_items.specs.declared.op.Op.{Op}
use Rattle.rtm_deck_items.specs.declared.op.Op.TheVariants.{EstaexCt, EstaexOv, EstaexZero, Xctl}
use Rattle.rtm_model.specs.declared.entry.Entry.{Entry}
use Rattle.rtm_model.specs.declared.entry.What.{What}
use Rattle.rtm_model.specs.declared.entry.What.TheVariants.{Exec, Leave}
use Rattle.rtm_model.specs.declared.reg.Kind.TheVariants.{Estae}
use Rattle.rtm_model.specs.declared.reg.Reg.{Reg}
use Rattle.rtm_model.specs.Births.{new_estae}
use Rattle.rtm_model.specs.Advance.{world}
use Rattle.rtm_model.specs.Cards.{newest_owned_here}
use Rattle.rtm_model.specs.Levels.{depth_in}
use Rattle.rtm_model.specs.Moments.{IsIn}
use Rattle.rtm_model.specs.inner.Soundness.{RoutinesFall}
use Rattle.rtm_model.specs.World.{Core, core_at}
use Rattle.rtm_law_births.specs.Life.{HasTheLiving, Table}
use Rattle.rtm_law_births.specs.RequestBlocks.{EntryKills as BlockDies, IsRunning}
use Rattle.rtm_law_births.specs.Routines.{IsItsLeave, UnitRoutine}
use Rattle.rtm_law_births.specs.Units.{IsPurgeOf}

-- ESTAEX CT makes one, and ESTAEX OV does where there is one to be overlaid
abbrev pub CardMakes : ℕ → Core → ℕ → Op → Reg → Type 0
CardMakes n c rc (EstaexCt prog term cancel xctl) reg = (rc ≡ 0) × (reg ≡ new_estae n c prog term cancel xctl)
CardMakes n c rc (EstaexOv prog term cancel xctl) reg = (rc ≡ 0) × (reg ≡ new_estae n c prog term cancel xctl)
CardMakes n c rc _ reg = ⊥

abbrev pub EntryMakes : DeckView → ℕ → Core → What → Reg → Type 0
EntryMakes d n c (Exec at rc) reg = CardMakes n c rc (op_at d at.prog at.op) reg
EntryMakes d n c _ reg = ⊥

-- ESTAEX OV and 0 are the death of the bracket's newest, which the request block that runs has made; XCTL under the
-- request block that made it is one with XCTL=NO
abbrev pub CardKills : Core → ℕ → Op → Reg → Type 0
CardKills c rc (EstaexOv prog term cancel xctl) reg = (rc ≡ 0) × (newest_owned_here c ≡ Some reg)
CardKills c rc EstaexZero reg = (rc ≡ 0) × (newest_owned_here c ≡ Some reg)
CardKills c rc (Xctl prog) reg = IsRunning c reg.depth reg.owner × (reg.xctl ≡ false)
CardKills c rc _ reg = ⊥

-- so is its own LEAVE
abbrev pub EntryKills : DeckView → Core → What → Reg → Type 0
EntryKills d c (Exec at rc) reg = CardKills c rc (op_at d at.prog at.op) reg
EntryKills d c (Leave kind born verdict logrec dump) reg = IsItsLeave c Estae reg kind born verdict
EntryKills d c _ reg = ⊥

-- and the death of the request block that made it
abbrev pub OwnerDies : DeckView → Core → What → Reg → Type 0
OwnerDies d c what reg = BlockDies d c what reg.depth reg.owner

abbrev pub estaes : Table UnitRoutine
estaes = record {
  has = λ w x. IsIn x.reg (Core.estaes (core_at x.unit w));
  starts = λ d x. ⊥;
  makes = λ d w n e x. (x.unit ≡ e.unit) × EntryMakes d n (core_at e.unit w) e.what x.reg;
  kills = λ d w n e x.
      ((x.unit ≡ e.unit) × (EntryKills d (core_at e.unit w) e.what x.reg ⊎ OwnerDies d (core_at e.unit w) e.what x.reg))
      ⊎ IsPurgeOf x.unit e.what;
}

-- each unit's list of ESTAE routines has those that live, newest first
pub record AreTheEstaes (d : DeckView) (history : List Entry) : Type 0 where
  pub living : HasTheLiving estaes d history
  pub order : (u : ℕ)
      → RoutinesFall (length history) (depth_in (Core.levels (core_at u (world d history))))
      (Core.estaes (core_at u (world d history)))
