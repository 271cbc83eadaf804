-- The conditions on a deck alone, whatever spells it: its numbers, names and labels, and its limits (this profile).
use Rattle.std.specs.Prelude.{ℕ, ◌+◌, Bool, true, false, not, ◌&&◌, ◌||◌, ◌==◌, if◌then◌else◌, nat_le, nat_lt, List, [], ◌∷◌, length, map, Option, Some, None, is_some, slice_get, bytes_eq}
use Rattle.std.specs.Option.{option_map_or}
use Rattle.std.specs.List.{list_all, list_any}
use Rattle.rtm_codes.specs.declared.code.Code.{Code}
use Rattle.rtm_codes.specs.declared.code.Code.TheVariants.{Sys, User}
use Rattle.rtm_cards.specs.Limits.{most_cards, most_programs, most_units, most_commands, most_entries, default_entries}
use Rattle.rtm_deck_operands.specs.Name.{is_padded_name}
use Rattle.rtm_deck_operands.specs.Value.{is_return_code}
use Rattle.rtm_deck_items.specs.declared.deck.Line.{Line}
use Rattle.rtm_deck_items.specs.declared.deck.Unit.{Unit as UnitCard}
use Rattle.rtm_deck_items.specs.declared.deck.UnitKind.{UnitKind}
use Rattle.rtm_deck_items.specs.declared.deck.UnitKind.TheVariants.{Task, Srb}
use Rattle.rtm_deck_items.specs.declared.deck.Command.{Command}
use Rattle.rtm_deck_items.specs.declared.op.Op.{Op}
use Rattle.rtm_deck_items.specs.declared.op.Op.TheVariants.{Nop, Get, Free, Link, Xctl, Return, Abend, EstaexCt, EstaexOv, EstaexZero, FrrAdd, FrrDelete, FrrReplace, FrrPurge, Attachx, Detach, Abterm, Memterm, MgrAdd, MgrDelete, Schedule, Wait, WaitTask, Post, SetRp, Ret15, Branch, IfCode, IfClup, IfPerc}
use Rattle.rtm_deck_items.specs.declared.op.Setrp.{Setrp}
use Rattle.rtm_deck_items.specs.View.{ProgramView, DeckView}
use Rattle.rtm_deck_items.specs.Reading.{is_task_card, carries}

-- the number is a completion code's
abbrev pub is_code : Code → Bool
is_code (Sys n) = nat_le n 4095
is_code (User n) = nat_le n 4095

-- a code that a card may set: any but S000
abbrev pub is_abend_code : Code → Bool
is_abend_code (Sys n) = nat_le 1 n && nat_le n 4095
is_abend_code (User n) = nat_le n 4095

-- a reason code has 32 bits
abbrev pub is_reason : Option ℕ → Bool
is_reason None = true
is_reason (Some n) = nat_lt n 4294967296

-- SETRP's RC= is 0, 4 or 16
abbrev pub is_setrp_rc : Option ℕ → Bool
is_setrp_rc None = true
is_setrp_rc (Some n) = is_return_code n

abbrev pub is_setrp_code : Option Code → Bool
is_setrp_code None = true
is_setrp_code (Some code) = is_abend_code code

-- some option is given
abbrev pub gives_some : Setrp → Bool
gives_some s = is_some s.rc || is_some s.retaddr || is_some s.remrec || is_some s.compcod || is_some s.reason || is_some s.dump || is_some s.logrec || is_some s.fresdwa

-- the program of that number is there
abbrev pub is_program : DeckView → ℕ → Bool
is_program d prog = nat_lt prog (length d.programs)

abbrev pub is_program_or_none : DeckView → Option ℕ → Bool
is_program_or_none d None = true
is_program_or_none d (Some prog) = is_program d prog

-- there is such a unit, and it is a task
abbrev pub is_task_in : DeckView → ℕ → Bool
is_task_in d unit = option_map_or is_task_card (slice_get d.units unit) false

-- there is such a unit, and it is an SRB
abbrev pub is_srb_in : DeckView → ℕ → Bool
is_srb_in d unit = option_map_or (λ card. not (is_task_card card)) (slice_get d.units unit) false

-- a card of these carries the label
abbrev pub has_label : List ℕ → List Line → Bool
has_label label lines = list_any (carries label) lines

-- a card of some program carries the label
abbrev pub has_label_anywhere : DeckView → List ℕ → Bool
has_label_anywhere d label = list_any (λ p. has_label label p.lines) d.programs

-- the label of a branch: a name that a card of the same program carries
abbrev pub is_own_label : List Line → List ℕ → Bool
is_own_label lines label = is_padded_name label && has_label label lines

-- the label of a retry: a name that a card of some program carries
abbrev pub is_retry_label : DeckView → Option (List ℕ) → Bool
is_retry_label d None = true
is_retry_label d (Some label) = is_padded_name label && has_label_anywhere d label

-- what SETRP's options may be
abbrev pub is_setrp : DeckView → Setrp → Bool
is_setrp d s = is_setrp_rc s.rc && is_retry_label d s.retaddr && is_setrp_code s.compcod && is_reason s.reason && gives_some s

-- the numbers of an operation are in their ranges, what it names is there, and its labels are found
abbrev pub is_op : DeckView → List Line → Op → Bool
is_op d lines Nop = true
is_op d lines (Get class id) = nat_le id 999999
is_op d lines (Free class id) = nat_le id 999999
is_op d lines (Link prog) = is_program d prog
is_op d lines (Xctl prog) = is_program d prog
is_op d lines Return = true
is_op d lines (Abend code reason dump step) = is_abend_code code && is_reason reason
is_op d lines (EstaexCt prog term cancel xctl) = is_program d prog
is_op d lines (EstaexOv prog term cancel xctl) = is_program d prog
is_op d lines EstaexZero = true
is_op d lines (FrrAdd prog) = is_program d prog
is_op d lines FrrDelete = true
is_op d lines (FrrReplace prog) = is_program d prog
is_op d lines FrrPurge = true
is_op d lines (Attachx unit estai term) = is_task_in d unit && is_program_or_none d estai && (is_some estai || not term)
is_op d lines (Detach unit stae) = is_task_in d unit
is_op d lines (Abterm unit code reason dump retry) = is_task_in d unit && is_abend_code code && is_reason reason
is_op d lines (Memterm code) = is_abend_code code
is_op d lines (MgrAdd prog space) = is_program d prog
is_op d lines (MgrDelete prog space) = is_program d prog
is_op d lines (Schedule unit) = is_srb_in d unit
is_op d lines (Wait event) = nat_le event 255
is_op d lines (WaitTask unit) = is_task_in d unit
is_op d lines (Post event) = nat_le event 255
is_op d lines (SetRp setrp) = is_setrp d setrp
is_op d lines (Ret15 rc label) = is_return_code rc && is_retry_label d label
is_op d lines (Branch label) = is_own_label lines label
is_op d lines (IfCode code label) = is_code code && is_own_label lines label
is_op d lines (IfClup label) = is_own_label lines label
is_op d lines (IfPerc label) = is_own_label lines label

-- the names are distinct
abbrev pub are_distinct : List (List ℕ) → Bool
are_distinct [] = true
are_distinct (name ∷ names) = not (list_any (bytes_eq name) names) && are_distinct names

-- the labels of some cards, in order
abbrev pub labels_in : List Line → List (List ℕ)
labels_in [] = []
labels_in (line ∷ lines) = option_map_or (λ label. label ∷ labels_in lines) line.label (labels_in lines)

-- a label is a name
abbrev pub is_label : Option (List ℕ) → Bool
is_label None = true
is_label (Some label) = is_padded_name label

-- a program is named, its labels are distinct names, and its cards may stand there
abbrev pub is_program_of : DeckView → ProgramView → Bool
is_program_of d p = is_padded_name p.name && list_all (λ line. is_label line.label && is_op d p.lines line.op) p.lines && are_distinct (labels_in p.lines)

-- an SRB may have a related task, and a task has none
abbrev pub is_related : DeckView → UnitKind → Option ℕ → Bool
is_related d kind None = true
is_related d Task (Some unit) = false
is_related d Srb (Some unit) = is_task_in d unit

-- a unit of work is named, and its program and its related task are there
abbrev pub is_unit_of : DeckView → UnitCard → Bool
is_unit_of d unit = is_padded_name unit.name && is_program d unit.prog && is_related d unit.kind unit.related

-- a command cancels a task, once so many entries stand
abbrev pub is_command_of : DeckView → Command → Bool
is_command_of d command = is_task_in d command.target && nat_le command.at most_entries

-- REGION has to stand there: the limit isn't the default, or routines get no SDWA
abbrev pub has_region : ℕ → Bool → Bool
has_region limit sdwa = not (limit == default_entries) || not sdwa

-- one more where REGION has to stand there
abbrev pub region_cards : ℕ → Bool → ℕ
region_cards limit sdwa = if has_region limit sdwa then 1 else 0

-- the cards of these programs, with PROG and PEND
abbrev pub program_cards : List ProgramView → ℕ
program_cards [] = 0
program_cards (p ∷ ps) = length p.lines + 2 + program_cards ps

-- one for OPER and one for each command, where there are any
abbrev pub command_cards : List Command → ℕ
command_cards [] = 0
command_cards (command ∷ commands) = 2 + length commands

-- how many cards spell the deck at least: those of its programs with PROG and PEND, its units and commands, and END
abbrev pub cards_needed : DeckView → ℕ
cards_needed d = region_cards d.limit d.sdwa + program_cards d.programs + length d.units + command_cards d.commands + 1

-- the numbers of entries, programs, units, commands and cards are within their limits
abbrev pub keeps_limits : DeckView → Bool
keeps_limits d =
    nat_le 1 d.limit && nat_le d.limit most_entries && nat_le (length d.programs) most_programs && nat_le (length d.units) most_units
    && nat_le (length d.commands) most_commands && nat_le (cards_needed d) most_cards

-- the programs are distinct by their names, and the units are
abbrev pub has_distinct_names : DeckView → Bool
has_distinct_names d = are_distinct (map (λ p. p.name) d.programs) && are_distinct (map (λ u. u.name) d.units)

-- The conditions on a deck alone: the limits, distinct names, a task, and each program, unit and command as it may be.
abbrev pub is_well_formed : DeckView → Bool
is_well_formed d = keeps_limits d && has_distinct_names d && list_any is_task_card d.units && list_all (is_program_of d) d.programs && list_all (is_unit_of d) d.units && list_all (is_command_of d) d.commands
