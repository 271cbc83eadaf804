-- Births and deaths of units of work (Assembler Services Reference, ATTACHX; Authorized Assembler Services Reference,
-- SCHEDULE; the ends are this profile's).
use Rattle.std.specs.Prelude.{List, None, Option, Some, false, ℕ, ◌≡◌}
use Rattle.rtm_deck_items.specs.Reading.{job_step, op_at}
use Rattle.rtm_deck_items.specs.View.{DeckView}
use Rattle.rtm_deck_items.specs.declared.op.Op.{Op}
use Rattle.rtm_deck_items.specs.declared.op.Op.TheVariants.{Attachx, Schedule}
use Rattle.rtm_model.specs.declared.entry.Entry.{Entry}
use Rattle.rtm_model.specs.declared.entry.What.{What}
use Rattle.rtm_model.specs.declared.entry.What.TheVariants.{Done, Exec, MemEnd, Purge}
use Rattle.rtm_model.specs.Tasks.{Lives, Tree, life_of}
use Rattle.rtm_law_births.specs.Life.{HasTheLiving, Table}

-- a unit of the deck, and the task that attached it; none has attached the job step task or an SRB
pub record LivingUnit : Type 0 where
  pub unit : ℕ
  pub mother : Option ℕ

-- ATTACHX and SCHEDULE make the unit that they name
abbrev pub CardMakes : ℕ → ℕ → Op → LivingUnit → Type 0
CardMakes u rc (Attachx unit estai term) x = (rc ≡ 0) × (x.unit ≡ unit) × (x.mother ≡ Some u)
CardMakes u rc (Schedule unit) x = (rc ≡ 0) × (x.unit ≡ unit) × (x.mother ≡ None)
CardMakes u rc _ x = ⊥

abbrev pub EntryMakes : DeckView → ℕ → What → LivingUnit → Type 0
EntryMakes d u (Exec at rc) x = CardMakes u rc (op_at d at.prog at.op) x
EntryMakes d u _ x = ⊥

-- its DONE is its death, and its PURGE is
abbrev pub EntryKills : ℕ → What → LivingUnit → Type 0
EntryKills u (Done code to_task to_step) x = x.unit ≡ u
EntryKills u (Purge unit) x = x.unit ≡ unit
EntryKills u _ x = ⊥

-- the job step task lives from the start
abbrev pub units : Table LivingUnit
units = record {
  has = λ w x. life_of x.unit (Tree.lives w.tree) ≡ Lives x.mother;
  starts = λ d x. (x.unit ≡ job_step d) × (x.mother ≡ None);
  makes = λ d w n e x. EntryMakes d e.unit e.what x;
  kills = λ d w n e x. EntryKills e.unit e.what x;
}

-- the master lives from the start, until its MEMEND
abbrev pub IsMemEnd : What → Type 0
IsMemEnd MemEnd = Unit {0}
IsMemEnd _ = ⊥

abbrev pub master : Table (Unit {0})
master = record {
  has = λ w x. w.over ≡ false;
  starts = λ d x. Unit {0};
  makes = λ d w n e x. ⊥;
  kills = λ d w n e x. IsMemEnd e.what;
}

-- the units that live, and the master while it lives
pub record AreTheUnits (d : DeckView) (history : List Entry) : Type 0 where
  pub living : HasTheLiving units d history
  pub master_lives : HasTheLiving master d history
