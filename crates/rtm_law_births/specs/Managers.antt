-- Births and deaths of resource managers (Authorized Assembler Services Reference, RESMGR; which entries are deaths is
-- this profile's).
use Rattle.std.specs.Prelude.{List, Some, length, ℕ, ◌≡◌}
use Rattle.rtm_deck_items.specs.Reading.{op_at}
use Rattle.rtm_deck_items.specs.View.{DeckView}
use Rattle.rtm_deck_items.specs.declared.op.Op.{Op}
use Rattle.rtm_deck_items.specs.declared.op.Op.TheVariants.{MgrAdd, MgrDelete}
use Rattle.rtm_model.specs.declared.entry.Entry.{Entry}
use Rattle.rtm_model.specs.declared.entry.What.{What}
use Rattle.rtm_model.specs.declared.entry.What.TheVariants.{Exec, Leave, Purge}
use Rattle.rtm_model.specs.declared.holding.Manager1.{Manager1}
use Rattle.rtm_model.specs.declared.reg.Kind.TheVariants.{Mgr}
use Rattle.rtm_model.specs.Advance.{world}
use Rattle.rtm_model.specs.Ending.{newest_manager}
use Rattle.rtm_model.specs.Moments.{IsIn}
use Rattle.rtm_model.specs.Surroundings.{manager_task}
use Rattle.rtm_model.specs.inner.Soundness.{ManagersFall}
use Rattle.rtm_model.specs.World.{World}
use Rattle.rtm_law_births.specs.Life.{HasTheLiving, Table}

-- RESMGR ADD makes a manager, of the task that executes it or of the address space
abbrev pub CardMakes : ℕ → ℕ → ℕ → Op → Manager1 → Type 0
CardMakes n u rc (MgrAdd prog space) manager =
    (rc ≡ 0) × (manager ≡ record { born = n; prog = prog; task = manager_task u space })
CardMakes n u rc _ manager = ⊥

abbrev pub EntryMakes : DeckView → ℕ → ℕ → What → Manager1 → Type 0
EntryMakes d n u (Exec at rc) manager = CardMakes n u rc (op_at d at.prog at.op) manager
EntryMakes d n u _ manager = ⊥

-- RESMGR DELETE is the death of the newest manager of its program and task
abbrev pub CardKills : World → ℕ → ℕ → Op → Manager1 → Type 0
CardKills w u rc (MgrDelete prog space) manager =
    (rc ≡ 0) × (newest_manager prog (manager_task u space) w.managers ≡ Some manager)
CardKills w u rc _ manager = ⊥

-- so are its own LEAVE, and the PURGE of its task
abbrev pub EntryKills : DeckView → World → ℕ → What → Manager1 → Type 0
EntryKills d w u (Exec at rc) manager = CardKills w u rc (op_at d at.prog at.op) manager
EntryKills d w u (Leave kind born verdict logrec dump) manager = (kind ≡ Mgr) × (born ≡ manager.born)
EntryKills d w u (Purge unit) manager = manager.task ≡ Some unit
EntryKills d w u _ manager = ⊥

abbrev pub managers : Table Manager1
managers = record {
  has = λ w manager. IsIn manager w.managers;
  starts = λ d manager. ⊥;
  makes = λ d w n e manager. EntryMakes d n e.unit e.what manager;
  kills = λ d w n e manager. EntryKills d w e.unit e.what manager;
}

-- the list of managers has those that live, newest first
pub record AreTheManagers (d : DeckView) (history : List Entry) : Type 0 where
  pub living : HasTheLiving managers d history
  pub order : ManagersFall (length history) (World.managers (world d history))
