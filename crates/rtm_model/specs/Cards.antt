-- What the card at a unit's place does: errors of mode first, in their order, then the card's own row.
use Rattle.std.specs.Prelude.{Bool, List, None, Option, Some, false, if◌then◌else◌, is_some, length, nat_le, not, true, ℕ, ◌&&◌, ◌==◌, ◌||◌}
use Rattle.std.specs.List.{list_any}
use Rattle.std.specs.Option.{option_map_or}
use Rattle.rtm_codes.specs.declared.code.Code.{Code}
use Rattle.rtm_codes.specs.declared.code.Code.TheVariants.{Sys}
use Rattle.rtm_codes.specs.Code.{same_code}
use Rattle.rtm_deck_items.specs.declared.op.Op.{Op}
use Rattle.rtm_deck_items.specs.declared.op.Op.TheVariants.{Abend, Abterm, Attachx, Branch, Detach, EstaexCt, EstaexOv, EstaexZero, Free, FrrAdd, FrrDelete, FrrPurge, FrrReplace, Get, IfClup, IfCode, IfPerc, Link, Memterm, MgrAdd, MgrDelete, Nop, Post, Ret15, Return, Schedule, SetRp, Wait, WaitTask, Xctl}
use Rattle.rtm_model.specs.declared.surroundings.Surroundings.{Surroundings}
use Rattle.rtm_model.specs.declared.entry.Fate.{Fate}
use Rattle.rtm_model.specs.declared.entry.Fate.TheVariants.{Late, Merged, Queued}
use Rattle.rtm_model.specs.declared.error_record.ErrorRecord.{ErrorRecord}
use Rattle.rtm_model.specs.declared.outcome.Outcome.{Outcome}
use Rattle.rtm_model.specs.declared.outcome.Outcome.TheVariants.{Abends, Executed, Returns, Waits}
use Rattle.rtm_model.specs.declared.reg.Reg.{Reg}
use Rattle.rtm_model.specs.Blocks.{has_full_bracket, has_one_block, newest_birth}
use Rattle.rtm_model.specs.Chains.{newest_of, newest_owned}
use Rattle.rtm_model.specs.Levels.{Bracket, depth_in, is_bare, is_manager, record_in, recovers}
use Rattle.rtm_model.specs.Limits.{deepest, most_estaes, most_frrs}
use Rattle.rtm_model.specs.World.{Core}

-- System completion codes of cards that stand where they may not, or find no room. 07D, 0F8 and 23E are those of MVS
-- System Codes, at places that are this profile's; those that begin with EE are this profile's own.
abbrev pub too_many_frrs : Code
too_many_frrs = Sys 0x07D

abbrev pub wrong_mode : Code
wrong_mode = Sys 0x0F8

abbrev pub not_a_subtask : Code
not_a_subtask = Sys 0x23E

abbrev pub too_many_blocks : Code
too_many_blocks = Sys 0xEE1

abbrev pub too_many_estaes : Code
too_many_estaes = Sys 0xEE2

abbrev pub too_deep : Code
too_deep = Sys 0xEE3

abbrev pub too_many_holdings : Code
too_many_holdings = Sys 0xEE4

abbrev pub too_many_managers : Code
too_many_managers = Sys 0xEE5

abbrev pub out_of_routine : Code
out_of_routine = Sys 0xEE6

abbrev pub without_sdwa : Code
without_sdwa = Sys 0xEE7

-- Errors of mode (this profile)

-- where a card may stand
pub data Mode : Type 0 where
  -- in any unit
  Anywhere : Mode
  -- in a task in which no FRR lives
  ForTask : Mode
  -- in such a task, and in no resource manager
  ForTaskOutsideManager : Mode
  -- in any unit in which no resource manager runs
  OutsideManager : Mode
  -- in a recovery routine
  ForRoutine : Mode
  -- in a recovery routine that was given an SDWA
  ForSdwa : Mode

abbrev pub mode_of : Op → Mode
mode_of Nop = Anywhere
mode_of (Get class id) = Anywhere
mode_of (Free class id) = Anywhere
mode_of (Link prog) = ForTask
mode_of (Xctl prog) = ForTask
mode_of Return = Anywhere
mode_of (Abend code reason dump step) = Anywhere
mode_of (EstaexCt prog term cancel xctl) = ForTask
mode_of (EstaexOv prog term cancel xctl) = ForTask
mode_of EstaexZero = ForTask
mode_of (FrrAdd prog) = Anywhere
mode_of FrrDelete = Anywhere
mode_of (FrrReplace prog) = Anywhere
mode_of FrrPurge = Anywhere
mode_of (Attachx unit estai term) = ForTaskOutsideManager
mode_of (Detach unit stae) = ForTaskOutsideManager
mode_of (Abterm unit code reason dump retry) = Anywhere
mode_of (Memterm code) = OutsideManager
mode_of (MgrAdd prog space) = ForTaskOutsideManager
mode_of (MgrDelete prog space) = ForTaskOutsideManager
mode_of (Schedule unit) = OutsideManager
mode_of (Wait event) = ForTaskOutsideManager
mode_of (WaitTask unit) = ForTaskOutsideManager
mode_of (Post event) = Anywhere
mode_of (SetRp setrp) = ForSdwa
mode_of (Ret15 rc label) = ForRoutine
mode_of (Branch label) = Anywhere
mode_of (IfCode code label) = ForRoutine
mode_of (IfClup label) = ForSdwa
mode_of (IfPerc label) = ForSdwa

abbrev pub is_for_task : Mode → Bool
is_for_task Anywhere = false
is_for_task ForTask = true
is_for_task ForTaskOutsideManager = true
is_for_task OutsideManager = false
is_for_task ForRoutine = false
is_for_task ForSdwa = false

abbrev pub is_outside_manager : Mode → Bool
is_outside_manager Anywhere = false
is_outside_manager ForTask = false
is_outside_manager ForTaskOutsideManager = true
is_outside_manager OutsideManager = true
is_outside_manager ForRoutine = false
is_outside_manager ForSdwa = false

abbrev pub is_for_routine : Mode → Bool
is_for_routine Anywhere = false
is_for_routine ForTask = false
is_for_routine ForTaskOutsideManager = false
is_for_routine OutsideManager = false
is_for_routine ForRoutine = true
is_for_routine ForSdwa = true

abbrev pub is_for_sdwa : Mode → Bool
is_for_sdwa Anywhere = false
is_for_sdwa ForTask = false
is_for_sdwa ForTaskOutsideManager = false
is_for_sdwa OutsideManager = false
is_for_sdwa ForRoutine = false
is_for_sdwa ForSdwa = true

-- the card is for a task in which no FRR lives
abbrev pub wants_task : Op → Bool
wants_task op = is_for_task (mode_of op)

-- the card is for a unit in which no resource manager runs
abbrev pub wants_no_manager : Op → Bool
wants_no_manager op = is_outside_manager (mode_of op)

-- the card is for a recovery routine
abbrev pub wants_routine : Op → Bool
wants_routine op = is_for_routine (mode_of op)

-- the card is for a routine that has an SDWA
abbrev pub wants_sdwa : Op → Bool
wants_sdwa op = is_for_sdwa (mode_of op)

-- an FRR of the unit lives, of whatever bracket
abbrev pub has_frr : List Reg → Bool
has_frr frrs = not (length frrs == 0)

-- the routine is a resource manager
abbrev pub manages : Option Reg → Bool
manages None = false
manages (Some reg) = is_manager reg.kind

-- some bracket of the unit is a resource manager's
abbrev pub in_manager : List Bracket → Bool
in_manager levels = list_any (λ level. manages level.routine) levels

-- the card's error of mode: the first that applies
abbrev pub mode_error : Core → Surroundings → Op → Option Code
mode_error c a op =
    if wants_task op && (a.srb || has_frr c.frrs) then Some wrong_mode
    else if wants_no_manager op && in_manager c.levels then Some wrong_mode
    else if wants_routine op && not (recovers c.levels) then Some out_of_routine
    else if wants_sdwa op && is_bare c.levels then Some without_sdwa
    else None

-- The rows

-- an error that isn't an ABEND's own has no reason, asks for no dump, and does not end the job step (this profile)
abbrev pub fails : Code → Outcome
fails code = Abends code None false false

-- the error where it applies, else the card is executed
abbrev pub unless : Bool → Code → Outcome
unless failed code = if failed then fails code else Executed 0

-- whether what the card speaks of is there: 0, else that return code (this profile)
abbrev pub rc_if : Bool → ℕ → ℕ
rc_if there otherwise = if there then 0 else otherwise

-- a wait is over, or goes on (Assembler Services Reference, WAIT)
abbrev pub waits_for : Bool → Outcome
waits_for there = if there then Executed 0 else Waits

-- the return code of a card that posts an abort (this profile)
abbrev pub fate_rc : Fate → ℕ
fate_rc Queued = 0
fate_rc Merged = 4
fate_rc Late = 8

-- the unit's innermost bracket is its last, in which no recovery routine is made (this profile)
abbrev pub is_deepest : List Bracket → Bool
is_deepest levels = nat_le deepest (depth_in levels)

-- SETFRR A: so many FRRs of a unit live at most (this profile; Authorized Assembler Services Reference, SETFRR)
abbrev pub frr_row : List Bracket → List Reg → Outcome
frr_row levels frrs = if is_deepest levels then fails too_deep else unless (length frrs == most_frrs) too_many_frrs

-- ESTAEX CT: so many ESTAE routines of a unit live at most (this profile; Assembler Services Reference, ESTAEX)
abbrev pub estae_row : List Bracket → List Reg → Outcome
estae_row levels estaes = if is_deepest levels then fails too_deep else unless (length estaes == most_estaes) too_many_estaes

-- ESTAEX OV and ESTAEX 0 speak of the bracket's newest ESTAE routine, if the request block that runs has made it
abbrev pub newest_owned_here : Core → Option Reg
newest_owned_here c = newest_owned (depth_in c.levels) (newest_birth c.blocks) c.estaes

-- SETFRR D and R speak of the bracket's newest FRR
abbrev pub frr_here : Core → Option Reg
frr_here c = newest_of (depth_in c.levels) c.frrs

-- a branch that depends on the routine's record: taken 4, else 0 (this profile)
abbrev pub branch_row : (ErrorRecord → Bool) → Option ErrorRecord → Outcome
branch_row test r = Executed (if option_map_or test r false then 4 else 0)

-- the card's row: what it does where no error of mode applies
abbrev pub row : Core → Surroundings → Op → Outcome
row c a Nop = Executed 0
row c a (Get class id) = unless a.crowded too_many_holdings
row c a (Free class id) = Executed (rc_if a.found 4)
row c a (Link prog) = unless (has_full_bracket c.blocks) too_many_blocks
row c a (Xctl prog) = Executed 0
row c a Return = if has_one_block c.blocks then Returns else Executed 0
row c a (Abend code reason dump step) = Abends code reason dump step
row c a (EstaexCt prog term cancel xctl) = estae_row c.levels c.estaes
row c a (EstaexOv prog term cancel xctl) = Executed (rc_if (is_some (newest_owned_here c)) 8)
row c a EstaexZero = Executed (rc_if (is_some (newest_owned_here c)) 8)
row c a (FrrAdd prog) = frr_row c.levels c.frrs
row c a FrrDelete = Executed (rc_if (is_some (frr_here c)) 4)
row c a (FrrReplace prog) = Executed (rc_if (is_some (frr_here c)) 4)
row c a FrrPurge = Executed 0
row c a (Attachx unit estai term) = Executed (rc_if a.unborn 8)
row c a (Detach unit stae) = if a.own then Executed (fate_rc a.fate) else fails not_a_subtask
row c a (Abterm unit code reason dump retry) = Executed (fate_rc a.fate)
row c a (Memterm code) = Executed 0
row c a (MgrAdd prog space) = unless a.crowded too_many_managers
row c a (MgrDelete prog space) = Executed (rc_if a.found 4)
row c a (Schedule unit) = Executed (rc_if a.unborn 8)
row c a (Wait event) = waits_for a.found
row c a (WaitTask unit) = waits_for a.found
row c a (Post event) = Executed (if a.found then 4 else 0)
row c a (SetRp setrp) = Executed 0
row c a (Ret15 rc label) = Executed 0
row c a (Branch label) = Executed 0
row c a (IfCode code label) = branch_row (λ r. same_code r.code code) (record_in c.levels)
row c a (IfClup label) = branch_row (λ r. r.flags.clup) (record_in c.levels)
row c a (IfPerc label) = branch_row (λ r. r.flags.perc) (record_in c.levels)

-- an error of mode comes before the row, and before waiting
abbrev pub outcome_by : Option Code → Outcome → Outcome
outcome_by (Some code) other = fails code
outcome_by None other = other

-- what the card does
abbrev pub outcome : Core → Surroundings → Op → Outcome
outcome c a op = outcome_by (mode_error c a op) (row c a op)
