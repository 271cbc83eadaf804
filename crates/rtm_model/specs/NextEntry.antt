-- The one entry that a unit may make next, or none: the first case that applies (this profile).
use Rattle.std.specs.Prelude.{Bool, List, None, Option, Some, false, if◌then◌else◌, is_none, is_some, not, position, true, ℕ, ◌&&◌, ◌==◌}
use Rattle.std.specs.Option.{option_map_or}
use Rattle.rtm_codes.specs.declared.code.Code.{Code}
use Rattle.rtm_codes.specs.declared.code.Code.TheVariants.{Sys}
use Rattle.rtm_deck_items.specs.Reading.{op_at}
use Rattle.rtm_deck_items.specs.View.{DeckView}
use Rattle.rtm_model.specs.declared.abort.Abort.{Abort}
use Rattle.rtm_model.specs.declared.surroundings.Surroundings.{Surroundings}
use Rattle.rtm_model.specs.declared.block.Block.{Block}
use Rattle.rtm_model.specs.declared.block.Place.{Place}
use Rattle.rtm_model.specs.declared.entry.Verdict.{Verdict}
use Rattle.rtm_model.specs.declared.entry.Verdict.TheVariants.{Fail, Retry}
use Rattle.rtm_model.specs.declared.entry.What.{What}
use Rattle.rtm_model.specs.declared.entry.What.TheVariants.{Begin, Done, Enter, Error, Exec, Land, Leave, MemEnd, Purge, Release}
use Rattle.rtm_model.specs.declared.error_record.ErrorRecord.{ErrorRecord}
use Rattle.rtm_model.specs.declared.error_record.RecordFlags.{RecordFlags}
use Rattle.rtm_model.specs.declared.holding.Holding.{Holding}
use Rattle.rtm_model.specs.declared.holding.Manager1.{Manager1}
use Rattle.rtm_model.specs.declared.mark.Mark.{Mark}
use Rattle.rtm_model.specs.declared.outcome.Outcome.{Outcome}
use Rattle.rtm_model.specs.declared.outcome.Outcome.TheVariants.{Abends, Executed, Returns, Waits}
use Rattle.rtm_model.specs.declared.reg.Kind.{Kind}
use Rattle.rtm_model.specs.declared.reg.Kind.TheVariants.{Estae, Estai, Frr, Mgr}
use Rattle.rtm_model.specs.declared.reg.Reg.{Reg}
use Rattle.rtm_model.specs.Aborts.{is_interruptible}
use Rattle.rtm_model.specs.Blocks.{newest_birth, newest_block, oldest_birth, place_of_born, without_bracket}
use Rattle.rtm_model.specs.Cards.{has_frr, outcome}
use Rattle.rtm_model.specs.Levels.{Bracket, choice_of, current, depth_in, error_here, error_in, first_eligible, record_in, shielded, verdict_in}
use Rattle.rtm_model.specs.Surroundings.{surroundings}
use Rattle.rtm_model.specs.Record.{fresh, mark_of, no_flags}
use Rattle.rtm_model.specs.Tasks.{Tree, is_living}
use Rattle.rtm_model.specs.World.{Beginning, Core, World, core_at, lives_in, master}

-- What a record is at first

-- a card's error: no retry where the unit is doomed (this profile)
abbrev pub card_record : Bool → Code → Option ℕ → Bool → Bool → ErrorRecord
card_record doomed code reason dump step =
    fresh code reason (record no_flags { clup = doomed; dump = dump; step = step })

-- a landed abort: what it asks for (this profile)
abbrev pub landed_flags : Abort → RecordFlags
landed_flags abort =
    record no_flags { clup = not abort.retry; term_only = abort.term_only; dump = abort.dump }

abbrev pub landed_record : Abort → ErrorRecord
landed_record abort = fresh abort.code abort.reason (landed_flags abort)

-- what an entry shows of the routine of a manager: the end code alone (this profile)
abbrev pub end_mark : Code → Mark
end_mark code = record { code = code; reason = None; clup = false; perc = false; staf = false }

-- An error is open (Authorized Assembler Services Guide, "Providing recovery")

-- the first routine that is eligible for the error of the innermost bracket
abbrev pub eligible_routine : Core → ErrorRecord → Option Reg
eligible_routine c r = first_eligible (depth_in c.levels) r.flags.term_only c.frrs c.estaes c.estais

-- ESTAE and ESTAI routines get no SDWA where the region is short of storage for one; an FRR always has one, and a
-- resource manager never asks for one (this profile)
abbrev pub is_entered_bare : Bool → Kind → Bool
is_entered_bare sdwa Frr = false
is_entered_bare sdwa Estae = not sdwa
is_entered_bare sdwa Estai = not sdwa
is_entered_bare sdwa Mgr = false

-- it is entered
abbrev pub enter_of : Bool → ErrorRecord → Reg → What
enter_of sdwa r reg = Enter reg.kind reg.born (mark_of r) (is_entered_bare sdwa reg.kind)

-- none is eligible: the routine in whose bracket the error is open has failed
abbrev pub failure_of : Reg → What
failure_of own = Leave own.kind own.born Fail false false

-- none is eligible in the outermost bracket: the unit begins to end
abbrev pub begin_of : ErrorRecord → What
begin_of r = Begin r.code r.flags.dump

abbrev pub handling_of : Bool → ErrorRecord → Option Reg → Option Reg → What
handling_of sdwa r routine own = choice_of (enter_of sdwa r) failure_of (begin_of r) routine own

-- An abort lands (the points of interruption are this profile's)

-- no abort interrupts a unit that has begun to end
abbrev pub interruptible : Core → Bool
interruptible c =
    is_none c.begun && is_interruptible (has_frr c.frrs) (shielded c.levels) c.doomed (error_here c.levels)

-- the abort that lands next
abbrev pub next_landing : Core → Surroundings → Option Abort
next_landing c a = if interruptible c then a.abort else None

abbrev pub land_of : Abort → What
land_of abort = Land abort.class abort.from (mark_of (landed_record abort))

-- A routine's last request block returns (Authorized Assembler Services Guide, "Providing recovery")

-- the request block of the error's bracket under which a routine would be retried: for an FRR the newest, for an
-- ESTAE routine the one that made it, for an ESTAI routine the oldest (the last is this profile's)
abbrev pub retry_birth_of : Kind → ℕ → List (List Block) → ℕ
retry_birth_of Frr owner outer = newest_birth outer
retry_birth_of Estae owner outer = owner
retry_birth_of Estai owner outer = oldest_birth outer
retry_birth_of Mgr owner outer = 0

abbrev pub retry_birth : Reg → List (List Block) → ℕ
retry_birth reg outer = retry_birth_of reg.kind reg.owner outer

-- the program in which a retry label is sought: that in which that request block stands
abbrev pub retry_prog : Core → Reg → ℕ
retry_prog c reg = Place.prog (place_of_born (retry_birth reg (without_bracket c.blocks)) (without_bracket c.blocks))

abbrev pub is_retry : Verdict → Bool
is_retry (Retry place) = true
is_retry _ = false

-- the record is to be logged, and a dump is to be taken
abbrev pub is_logged : Option ErrorRecord → Bool
is_logged r = option_map_or (λ r. r.flags.logrec) r false

abbrev pub is_dumped : Option ErrorRecord → Bool
is_dumped r = option_map_or (λ r. r.flags.dump) r false

-- the routine is left; a dump is taken at a retry alone (this profile)
abbrev pub leave_by_verdict : Reg → Option ErrorRecord → Verdict → What
leave_by_verdict reg r verdict = Leave reg.kind reg.born verdict (is_logged r) (is_dumped r && is_retry verdict)

abbrev pub leave_of : DeckView → Core → Reg → What
leave_of d c reg = leave_by_verdict reg (record_in c.levels) (verdict_in d (retry_prog c reg) c.levels)

-- A unit's last request block returns: it begins to end, abnormally where a subtask of it lives (MVS System Codes,
-- A03; its exact place is this profile's)
abbrev pub normal_end : Code
normal_end = Sys 0

abbrev pub with_subtasks : Code
with_subtasks = Sys 0xA03

abbrev pub last_return : DeckView → Core → Surroundings → Option Reg → What
last_return d c a (Some reg) = leave_of d c reg
last_return d c a None = Begin (if a.subtask then with_subtasks else normal_end) false

-- The card at the place

abbrev pub card_entry_by : DeckView → Core → Surroundings → Place → Outcome → Option What
card_entry_by d c a place (Executed rc) = Some (Exec place rc)
card_entry_by d c a place (Abends code reason dump step) =
    Some (Error place (mark_of (card_record c.doomed code reason dump step)))
card_entry_by d c a place Waits = None
card_entry_by d c a place Returns = Some (last_return d c a (current c.levels))

-- what the unit's card does; a unit without a request block has none
abbrev pub card_entry_at : DeckView → Core → Surroundings → Option Block → Option What
card_entry_at d c a None = None
card_entry_at d c a (Some block) =
    card_entry_by d c a block.place (outcome c a (op_at d (Place.prog block.place) (Place.op block.place)))

abbrev pub card_entry : DeckView → Core → Surroundings → Option What
card_entry d c a = card_entry_at d c a (newest_block c.blocks)

-- The ending of a unit, and memory end (the order is this profile's)

-- the managers come first, newest first
abbrev pub manager_or : Code → Option Manager1 → What → What
manager_or code (Some manager) rest = Enter Mgr manager.born (end_mark code) false
manager_or code None rest = rest

-- then the holdings, by class, newest first
abbrev pub release_or : Option Holding → What → What
release_or (Some holding) rest = Release holding.class holding.id holding.owner
release_or None rest = rest

-- whether an error led to the unit's end, and whether its record had STEP
abbrev pub is_from_error : Beginning → Bool
is_from_error begun = is_some begun.cause

abbrev pub ends_step : Beginning → Bool
ends_step begun = option_map_or (λ r. r.flags.step) begun.cause false

-- the unit has ended; the aborts that this posts: to the related task of an SRB that an error ended, and to the job
-- step task where the error was to end the job step (this profile)
abbrev pub done_of : Beginning → Surroundings → What
done_of begun a =
    Done begun.code (if is_from_error begun then a.to_task else None) (if ends_step begun then a.to_step else None)

-- the next act of a unit that has begun to end; while a subtask of it lives there is none
abbrev pub unit_act : Beginning → Surroundings → Option What
unit_act begun a =
    if a.subtask then None else Some (manager_or begun.code a.manager (release_or a.holding (done_of begun a)))

-- the master's next act: first each living unit is purged, by number
abbrev pub master_act : Code → Option ℕ → Surroundings → What
master_act code (Some unit) a = Purge unit
master_act code None a = manager_or code a.manager (release_or a.holding MemEnd)

-- The cases

-- no bracket is open but the outermost
abbrev pub is_outermost : List Bracket → Bool
is_outermost levels = depth_in levels == 0

-- an open error comes first, whose routines get an SDWA or not, then the abort that lands, then the rest
abbrev pub first_case : Bool → Core → Option ErrorRecord → Option Abort → Option What → Option What
first_case sdwa c (Some r) abort rest = Some (handling_of sdwa r (eligible_routine c r) (current c.levels))
first_case sdwa c None (Some abort) rest = Some (land_of abort)
first_case sdwa c None None rest = rest

-- with no bracket open, a unit that has begun to end goes on with its ending; any other with its card
abbrev pub ending_or_card : DeckView → Core → Surroundings → Option Beginning → Option What
ending_or_card d c a None = card_entry d c a
ending_or_card d c a (Some begun) = if is_outermost c.levels then unit_act begun a else card_entry d c a

-- the next entry of a living unit
abbrev pub next_unit : DeckView → Core → Surroundings → Option What
next_unit d c a = first_case d.sdwa c (error_in c.levels) (next_landing c a) (ending_or_card d c a c.begun)

-- the master's next entry at memory end, of that end code and where that unit is the first that lives
abbrev pub next_master : DeckView → Core → Surroundings → Code → Option ℕ → Option What
next_master d c a code living =
    first_case d.sdwa c (error_in c.levels) None
    (if is_outermost c.levels then Some (master_act code living a) else card_entry d c a)

-- Once memory end has begun, no unit but the master has an entry; the master has none before, and none once the
-- address space has ended.
abbrev pub next_of_unit : DeckView → World → ℕ → Option Code → Option What
next_of_unit d w u (Some code) = None
next_of_unit d w u None = if lives_in w u then next_unit d (core_at u w) (surroundings d w u) else None

abbrev pub next_of_master : DeckView → World → Option Code → Option What
next_of_master d w None = None
next_of_master d w (Some code) =
    if w.over then None
    else next_master d (core_at (master d) w) (surroundings d w (master d)) code (position is_living (Tree.lives w.tree))

-- the one entry that the unit of that number may make, or none
abbrev pub next : DeckView → World → ℕ → Option What
next d w u = if u == master d then next_of_master d w w.memory_end else next_of_unit d w u w.memory_end
