-- Recovery routines and the units that have them, and when a routine goes by its own LEAVE (Assembler Services
-- Reference, SETRP; the numbers of the verdicts are this profile's).
use Rattle.std.specs.Prelude.{Option, true, ℕ, ◌≡◌}
use Rattle.rtm_model.specs.declared.entry.Verdict.{Verdict}
use Rattle.rtm_model.specs.declared.entry.Verdict.TheVariants.{Bad, Fail, Perc, Retry}
use Rattle.rtm_model.specs.declared.error_record.ErrorRecord.{ErrorRecord}
use Rattle.rtm_model.specs.declared.reg.Kind.{Kind}
use Rattle.rtm_model.specs.declared.reg.Reg.{Reg}
use Rattle.rtm_model.specs.OwnChange.{has_remrec}
use Rattle.rtm_model.specs.Levels.{record_in}
use Rattle.rtm_model.specs.World.{Core}

-- a recovery routine, and the unit that has it
pub record UnitRoutine : Type 0 where
  pub unit : ℕ
  pub reg : Reg

-- a routine is gone after it has percolated, was judged bad or has failed; after a retry where REMREC stands in its
-- record
abbrev pub RemovesRoutine : Verdict → Option ErrorRecord → Type 0
RemovesRoutine Perc r = Unit {0}
RemovesRoutine Bad r = Unit {0}
RemovesRoutine Fail r = Unit {0}
RemovesRoutine (Retry place) r = has_remrec r ≡ true
RemovesRoutine _ r = ⊥

-- the LEAVE is that routine's, and removes it
pub record IsItsLeave (c : Core) (kind : Kind) (reg : Reg) (left : Kind) (born : ℕ) (verdict : Verdict) : Type 0 where
  pub kind_is : left ≡ kind
  pub born_is : born ≡ reg.born
  pub removes : RemovesRoutine verdict (record_in c.levels)
