-- What an entry changes of its own unit's control blocks (this profile, unless a line says otherwise).
use Rattle.std.specs.Prelude.{Bool, List, None, Option, Some, [], false, filter, find, nat_le, not, true, ℕ, ◌&&◌, ◌+◌, ◌==◌, ◌||◌, ◌∷◌, if◌then◌else◌}
use Rattle.std.specs.Option.{option_map, option_map_or}
use Rattle.rtm_codes.specs.declared.code.Code.{Code}
use Rattle.rtm_deck_items.specs.Reading.{label_at, op_at}
use Rattle.rtm_deck_items.specs.View.{DeckView}
use Rattle.rtm_deck_items.specs.declared.op.Op.{Op}
use Rattle.rtm_deck_items.specs.declared.op.Op.TheVariants.{Abend, Abterm, Attachx, Branch, Detach, EstaexCt, EstaexOv, EstaexZero, Free, FrrAdd, FrrDelete, FrrPurge, FrrReplace, Get, IfClup, IfCode, IfPerc, Link, Memterm, MgrAdd, MgrDelete, Nop, Post, Ret15, Return, Schedule, SetRp, Wait, WaitTask, Xctl}
use Rattle.rtm_model.specs.declared.abort.Abort.{Abort}
use Rattle.rtm_model.specs.declared.block.Place.{Place}
use Rattle.rtm_model.specs.declared.entry.Verdict.{Verdict}
use Rattle.rtm_model.specs.declared.entry.Verdict.TheVariants.{Retry, Stop}
use Rattle.rtm_model.specs.declared.entry.What.{What}
use Rattle.rtm_model.specs.declared.entry.What.TheVariants.{Arrive, Begin, Done, Enter, Error, Exec, Land, Leave, MemEnd, Purge, Release}
use Rattle.rtm_model.specs.declared.error_record.ErrorRecord.{ErrorRecord}
use Rattle.rtm_model.specs.declared.holding.Manager1.{Manager1}
use Rattle.rtm_model.specs.declared.mark.Mark.{Mark}
use Rattle.rtm_model.specs.declared.reg.Kind.{Kind}
use Rattle.rtm_model.specs.declared.reg.Kind.TheVariants.{Estae, Estai, Frr, Mgr}
use Rattle.rtm_model.specs.declared.reg.Reg.{Reg}
use Rattle.rtm_model.specs.Aborts.{abort_named, after_landing}
use Rattle.rtm_model.specs.Blocks.{after_return, cut_to, newest_birth, with_bracket, with_linked, with_place, with_program, without_bracket}
use Rattle.rtm_model.specs.Chains.{after_cancel, after_overlay, after_xctl, is_of_depth, with_in_place, without_born, without_depth, without_first, without_owner}
use Rattle.rtm_model.specs.Levels.{after_enter, after_error, after_leave, after_ret15, after_setrp, current, depth_in, error_in, is_frr, outermost_alone, record_in}
use Rattle.rtm_model.specs.NextEntry.{card_record, landed_record, retry_birth}
use Rattle.rtm_model.specs.Record.{is_estai}
use Rattle.rtm_model.specs.World.{Core, UnitOfWork}
use Rattle.rtm_model.specs.Births.{block_birth, manager_routine, new_estae, new_frr}

-- What a card changes of its own unit

-- the place behind a place
abbrev pub next_place : Place → Place
next_place place = record { prog = place.prog; op = place.op + 1 }

-- the unit runs on at the place
abbrev pub move_to : Place → Core → Core
move_to place c = record c { blocks = with_place place c.blocks }

-- where a branch goes: to the operation that carries the label (this profile)
abbrev pub label_place : DeckView → Place → List ℕ → Place
label_place d at label =
    option_map_or (λ op. record { prog = at.prog; op = op }) (label_at d at.prog label) (next_place at)

-- a branch that was taken, or not
abbrev pub branch_place : DeckView → Place → List ℕ → ℕ → Place
branch_place d at label rc = if rc == 4 then label_place d at label else next_place at

-- where the unit goes on after a card: at the next one, but for a branch (this profile)
abbrev pub place_after : DeckView → Place → ℕ → Op → Place
place_after d at rc (Branch label) = label_place d at label
place_after d at rc (IfCode code label) = branch_place d at label rc
place_after d at rc (IfClup label) = branch_place d at label rc
place_after d at rc (IfPerc label) = branch_place d at label rc
place_after d at rc Nop = next_place at
place_after d at rc (Get class id) = next_place at
place_after d at rc (Free class id) = next_place at
place_after d at rc (Link prog) = next_place at
place_after d at rc (Xctl prog) = next_place at
place_after d at rc Return = next_place at
place_after d at rc (Abend code reason dump step) = next_place at
place_after d at rc (EstaexCt prog term cancel xctl) = next_place at
place_after d at rc (EstaexOv prog term cancel xctl) = next_place at
place_after d at rc EstaexZero = next_place at
place_after d at rc (FrrAdd prog) = next_place at
place_after d at rc FrrDelete = next_place at
place_after d at rc (FrrReplace prog) = next_place at
place_after d at rc FrrPurge = next_place at
place_after d at rc (Attachx unit estai term) = next_place at
place_after d at rc (Detach unit stae) = next_place at
place_after d at rc (Abterm unit code reason dump retry) = next_place at
place_after d at rc (Memterm code) = next_place at
place_after d at rc (MgrAdd prog space) = next_place at
place_after d at rc (MgrDelete prog space) = next_place at
place_after d at rc (Schedule unit) = next_place at
place_after d at rc (Wait event) = next_place at
place_after d at rc (WaitTask unit) = next_place at
place_after d at rc (Post event) = next_place at
place_after d at rc (SetRp setrp) = next_place at
place_after d at rc (Ret15 rc2 label) = next_place at

-- what a card changes of its unit's own control blocks, where the unit goes on at that place. A LINK's caller stands
-- there when it is returned to; XCTL goes on under the same request block; RETURN ends one, and its ESTAE routines
-- go with it.
abbrev pub own_card : ℕ → Place → Op → Core → Core
own_card n place (Link prog) c = record c { blocks = with_linked (block_birth n) prog (with_place place c.blocks) }
own_card n place (Xctl prog) c = record c {
  blocks = with_program prog c.blocks;
  estaes = after_xctl (newest_birth c.blocks) c.estaes;
}
own_card n place Return c = record c {
  blocks = after_return c.blocks;
  estaes = without_owner (newest_birth c.blocks) c.estaes;
}
own_card n place (EstaexCt prog term cancel xctl) c =
    move_to place (record c { estaes = new_estae n c prog term cancel xctl ∷ c.estaes })
own_card n place (EstaexOv prog term cancel xctl) c = move_to place (record c {
  estaes = after_overlay (depth_in c.levels) (newest_birth c.blocks) (new_estae n c prog term cancel xctl) c.estaes;
})
own_card n place EstaexZero c =
    move_to place (record c { estaes = after_cancel (depth_in c.levels) (newest_birth c.blocks) c.estaes })
own_card n place (FrrAdd prog) c = move_to place (record c { frrs = new_frr n c prog ∷ c.frrs })
own_card n place FrrDelete c =
    move_to place (record c { frrs = without_first (is_of_depth (depth_in c.levels)) c.frrs })
own_card n place (FrrReplace prog) c =
    move_to place (record c { frrs = with_in_place (is_of_depth (depth_in c.levels)) (new_frr n c prog) c.frrs })
own_card n place FrrPurge c = move_to place (record c { frrs = without_depth (depth_in c.levels) c.frrs })
own_card n place (SetRp setrp) c = move_to place (record c { levels = after_setrp setrp c.levels })
own_card n place (Ret15 rc label) c = move_to place (record c { levels = after_ret15 rc label c.levels })
own_card n place Nop c = move_to place c
own_card n place (Get class id) c = move_to place c
own_card n place (Free class id) c = move_to place c
own_card n place (Abend code reason dump step) c = move_to place c
own_card n place (Attachx unit estai term) c = move_to place c
own_card n place (Detach unit stae) c = move_to place c
own_card n place (Abterm unit code reason dump retry) c = move_to place c
own_card n place (Memterm code) c = move_to place c
own_card n place (MgrAdd prog space) c = move_to place c
own_card n place (MgrDelete prog space) c = move_to place c
own_card n place (Schedule unit) c = move_to place c
own_card n place (Wait event) c = move_to place c
own_card n place (WaitTask unit) c = move_to place c
own_card n place (Post event) c = move_to place c
own_card n place (Branch label) c = move_to place c
own_card n place (IfCode code label) c = move_to place c
own_card n place (IfClup label) c = move_to place c
own_card n place (IfPerc label) c = move_to place c

-- What other entries change of their own unit

-- a dump is asked for, and the job step is to end, by an ABEND alone
abbrev pub asks_dump : Op → Bool
asks_dump (Abend code reason dump step) = dump
asks_dump _ = false

abbrev pub asks_step : Op → Bool
asks_step (Abend code reason dump step) = step
asks_step _ = false

-- the record of a card's error
abbrev pub error_record : Bool → Mark → Op → ErrorRecord
error_record doomed mark op = card_record doomed mark.code mark.reason (asks_dump op) (asks_step op)

-- an error is open in the innermost bracket
abbrev pub with_error : ErrorRecord → Core → Core
with_error r c = record c { levels = after_error r c.levels }

-- an abort has landed; after one without retry the unit is doomed
abbrev pub with_landed : Option Abort → Core → Core
with_landed None c = c
with_landed (Some abort) c = record c {
  levels = after_error (landed_record abort) c.levels;
  doomed = c.doomed || not abort.retry;
}

-- the routine of that birth
abbrev pub routine_born_at : ℕ → List Reg → Option Reg
routine_born_at born regs = find (λ reg. reg.born == born) regs

abbrev pub routine_named : Kind → ℕ → List Manager1 → Core → Option Reg
routine_named Frr born managers c = routine_born_at born c.frrs
routine_named Estae born managers c = routine_born_at born c.estaes
routine_named Estai born managers c = routine_born_at born c.estais
routine_named Mgr born managers c = option_map manager_routine (find (λ manager. manager.born == born) managers)

-- a routine is entered: a bracket is opened for it, with one request block at its first operation
abbrev pub with_routine_entered : ℕ → Bool → Option Reg → Core → Core
with_routine_entered n bare None c = c
with_routine_entered n bare (Some reg) c = record c {
  blocks = with_bracket (block_birth n) reg.prog c.blocks;
  levels = after_enter reg bare c.levels;
}

-- REMREC stands in the record
abbrev pub has_remrec : Option ErrorRecord → Bool
has_remrec r = option_map_or (λ r. r.flags.remrec) r false

-- the routine is gone after its verdict, but for a retry without REMREC (Assembler Services Reference, SETRP)
abbrev pub is_gone_after : Verdict → Option ErrorRecord → Bool
is_gone_after (Retry place) r = has_remrec r
is_gone_after _ r = true

-- the routines without that one, where it is gone
abbrev pub without_left : Bool → ℕ → List Reg → List Reg
without_left gone born regs = if gone then without_born born regs else regs

abbrev pub frrs_left : Bool → Kind → ℕ → List Reg → List Reg
frrs_left gone kind born frrs = without_left (gone && is_frr kind) born frrs

abbrev pub is_estae : Kind → Bool
is_estae Estae = true
is_estae _ = false

abbrev pub estaes_left : Bool → Kind → ℕ → List Reg → List Reg
estaes_left gone kind born estaes = without_left (gone && is_estae kind) born estaes

-- after a Stop all ESTAI routines of the unit are gone (Assembler Services Reference, SETRP RC=16)
abbrev pub estais_left : Verdict → Bool → Kind → ℕ → List Reg → List Reg
estais_left Stop gone kind born estais = []
estais_left _ gone kind born estais = without_left (gone && is_estai kind) born estais

-- without the ESTAE routines of request blocks that are newer than the one of that birth
abbrev pub without_newer_owners : ℕ → List Reg → List Reg
without_newer_owners born estaes = filter (λ reg. nat_le reg.owner born) estaes

-- a retry: the newer request blocks of the error's bracket are gone, with their ESTAE routines, and the one under
-- which the routine is retried goes on at the place (Authorized Assembler Services Guide, "Providing recovery")
abbrev pub with_retry : Place → ℕ → Core → Core
with_retry place born c = record c {
  blocks = with_place place (cut_to born c.blocks);
  estaes = without_newer_owners born c.estaes;
}

abbrev pub after_retry : Verdict → Option Reg → Core → Core
after_retry (Retry place) (Some reg) c = with_retry place (retry_birth reg c.blocks) c
after_retry _ routine c = c

-- the innermost bracket is closed: what was born in it is gone
abbrev pub with_bracket_closed : Verdict → Core → Core
with_bracket_closed verdict c = record c {
  blocks = without_bracket c.blocks;
  levels = after_leave verdict c.levels;
  frrs = without_depth (depth_in c.levels) c.frrs;
  estaes = without_depth (depth_in c.levels) c.estaes;
}

-- the routine itself is gone, or stays
abbrev pub without_routine : Verdict → Bool → Kind → ℕ → Core → Core
without_routine verdict gone kind born c = record c {
  frrs = frrs_left gone kind born c.frrs;
  estaes = estaes_left gone kind born c.estaes;
  estais = estais_left verdict gone kind born c.estais;
}

-- a routine is left
abbrev pub with_routine_left : Kind → ℕ → Verdict → Core → Core
with_routine_left kind born verdict c =
    after_retry verdict (current c.levels)
    (without_routine verdict (is_gone_after verdict (record_in c.levels)) kind born (with_bracket_closed verdict c))

-- the unit begins to end: its request blocks, its error and its recovery routines are gone
abbrev pub after_begin : Code → Core → Core
after_begin code c = record {
  blocks = [];
  levels = outermost_alone;
  frrs = [];
  estaes = [];
  estais = [];
  doomed = c.doomed;
  begun = Some (record { code = code; cause = error_in c.levels });
}

-- what an entry changes of its own unit's control blocks, where those managers live and those aborts are pending
abbrev pub own_entry : DeckView → ℕ → List Manager1 → List Abort → What → Core → Core
own_entry d n managers pending (Exec at rc) c =
    own_card n (place_after d at rc (op_at d at.prog at.op)) (op_at d at.prog at.op) c
own_entry d n managers pending (Error at mark) c = with_error (error_record c.doomed mark (op_at d at.prog at.op)) c
own_entry d n managers pending (Land class from mark) c = with_landed (abort_named class from pending) c
own_entry d n managers pending (Enter kind reg mark bare) c = with_routine_entered n bare (routine_named kind reg managers c) c
own_entry d n managers pending (Leave kind reg verdict logrec dump) c = with_routine_left kind reg verdict c
own_entry d n managers pending (Begin code dump) c = after_begin code c
own_entry d n managers pending (Arrive cmd _) c = c
own_entry d n managers pending (Release class id owner) c = c
own_entry d n managers pending (Done code to_task to_step) c = c
own_entry d n managers pending (Purge unit) c = c
own_entry d n managers pending MemEnd c = c

-- what it changes of the unit's pending aborts: a landed one is gone, and at the unit's end all are
abbrev pub own_pending : What → List Abort → List Abort
own_pending (Land class from mark) pending = after_landing class from pending
own_pending (Begin code dump) pending = []
own_pending _ pending = pending

abbrev pub own_change : DeckView → ℕ → List Manager1 → What → UnitOfWork → UnitOfWork
own_change d n managers what unit = record unit {
  core = own_entry d n managers unit.pending what unit.core;
  pending = own_pending what unit.pending;
}
