-- Births and deaths of errors, and what changes their records (Authorized Assembler Services Guide, "Providing
-- recovery"; Assembler Services Reference, SETRP; RET15, and that each error belongs to a bracket, are this profile's).
use Rattle.std.specs.Prelude.{List, None, Option, Some, [], if◌then◌else◌, length, ℕ, ◌+◌, ◌==◌, ◌∷◌, ◌≡◌, ◌⊎◌}
use Rattle.rtm_deck_items.specs.Reading.{op_at}
use Rattle.rtm_deck_items.specs.View.{DeckView}
use Rattle.rtm_deck_items.specs.declared.op.Op.{Op}
use Rattle.rtm_deck_items.specs.declared.op.Op.TheVariants.{Ret15, SetRp}
use Rattle.rtm_model.specs.declared.abort.Abort.{Abort}
use Rattle.rtm_model.specs.declared.entry.Entry.{Entry}
use Rattle.rtm_model.specs.declared.entry.Verdict.{Verdict}
use Rattle.rtm_model.specs.declared.entry.Verdict.TheVariants.{Bad, Fail, Perc, Retry, Stop}
use Rattle.rtm_model.specs.declared.entry.What.{What}
use Rattle.rtm_model.specs.declared.entry.What.TheVariants.{Begin, Error, Exec, Land, Leave}
use Rattle.rtm_model.specs.declared.error_record.ErrorRecord.{ErrorRecord}
use Rattle.rtm_model.specs.Aborts.{abort_named}
use Rattle.rtm_model.specs.OwnChange.{error_record}
use Rattle.rtm_model.specs.Levels.{Bracket, after_inner_failure, depth_in, error_in, recovers}
use Rattle.rtm_model.specs.NextEntry.{landed_record}
use Rattle.rtm_model.specs.Record.{after_percolation, ret15_in, setrp_in}
use Rattle.rtm_model.specs.World.{Core, UnitOfWork, core_at, unit_at}
use Rattle.rtm_law_births.specs.Life.{HasTheStated, StateTable}
use Rattle.rtm_law_births.specs.Units.{IsPurgeOf}

-- an error of a unit, in the bracket of that depth: the number of brackets that enclose it
pub record UnitError : Type 0 where
  pub unit : ℕ
  pub depth : ℕ

-- an error with that record is open in the bracket of that depth
abbrev pub IsOpenAt : ℕ → ErrorRecord → List Bracket → Type 0
IsOpenAt depth r [] = ⊥
IsOpenAt depth r (l ∷ outer) = ((depth ≡ length outer) × (l.error ≡ Some r)) ⊎ IsOpenAt depth r outer

-- the record of an abort that lands
abbrev pub IsLanded : Option Abort → ErrorRecord → Type 0
IsLanded None r = ⊥
IsLanded (Some abort) r = r ≡ landed_record abort

-- ERROR and LAND make an error, in the innermost bracket; LAND that of the pending abort which it names
abbrev pub EntryMakes : DeckView → Core → List Abort → What → ℕ → ErrorRecord → Type 0
EntryMakes d c pending (Error at mark) depth r =
    (depth ≡ depth_in c.levels) × (r ≡ error_record c.doomed mark (op_at d at.prog at.op))
EntryMakes d c pending (Land class from mark) depth r =
    (depth ≡ depth_in c.levels) × IsLanded (abort_named class from pending) r
EntryMakes d c pending _ depth r = ⊥

-- the error is the one that the innermost bracket's routine was entered for: it is open in the bracket around that one
abbrev pub IsEnteredFor : List Bracket → ℕ → Type 0
IsEnteredFor levels depth = depth + 1 ≡ depth_in levels

-- Its deaths are the LEAVE with Retry of a routine that was entered for it, and the LEAVE with Fail of its own bracket
abbrev pub VerdictKills : List Bracket → Verdict → ℕ → Type 0
VerdictKills levels (Retry place) depth = IsEnteredFor levels depth
VerdictKills levels Fail depth = depth ≡ depth_in levels
VerdictKills levels _ depth = ⊥

-- and the unit's BEGIN; and its PURGE
abbrev pub EntryKills : Core → What → ℕ → Type 0
EntryKills c (Leave kind born verdict logrec dump) depth = VerdictKills c.levels verdict depth
EntryKills c (Begin code dump) depth = Unit {0}
EntryKills c _ depth = ⊥

-- Its record is changed by SETRP and RET15 in a routine that was entered for it
abbrev pub card_changes : List Bracket → Op → ErrorRecord → ErrorRecord
card_changes levels (SetRp setrp) r = if recovers levels then setrp_in setrp r else r
card_changes levels (Ret15 rc label) r = if recovers levels then ret15_in rc label r else r
card_changes levels _ r = r

-- and by the routine's end: it has percolated, or has failed by the error that was open in its own bracket
abbrev pub verdict_changes : List Bracket → Verdict → ErrorRecord → ErrorRecord
verdict_changes levels Perc r = after_percolation r
verdict_changes levels Stop r = after_percolation r
verdict_changes levels Bad r = after_percolation r
verdict_changes levels Fail r = after_inner_failure (error_in levels) r
verdict_changes levels _ r = r

abbrev pub entry_changes : DeckView → Core → What → ErrorRecord → ErrorRecord
entry_changes d c (Exec at rc) r = card_changes c.levels (op_at d at.prog at.op) r
entry_changes d c (Leave kind born verdict logrec dump) r = verdict_changes c.levels verdict r
entry_changes d c _ r = r

-- of the error that the innermost bracket's routine was entered for, and of no other
abbrev pub changes_at : DeckView → Core → What → ℕ → ErrorRecord → ErrorRecord
changes_at d c what depth r = if depth + 1 == depth_in c.levels then entry_changes d c what r else r

abbrev pub errors : StateTable UnitError ErrorRecord
errors = record {
  has = λ w x r. IsOpenAt x.depth r (Core.levels (core_at x.unit w));
  starts = λ d x r. ⊥;
  makes = λ d w n e x r.
      (x.unit ≡ e.unit) × EntryMakes d (core_at e.unit w) (UnitOfWork.pending (unit_at e.unit w.units)) e.what x.depth r;
  kills = λ d w n e x. ((x.unit ≡ e.unit) × EntryKills (core_at e.unit w) e.what x.depth) ⊎ IsPurgeOf x.unit e.what;
  changes = λ d w n e x r.
      if x.unit == e.unit then changes_at d (core_at e.unit w) e.what x.depth r else r;
}

-- the open errors are those that live, each with its record
abbrev pub AreTheErrors : DeckView → List Entry → Type 0
AreTheErrors d history = HasTheStated errors d history
