-- The text of a trace, format 1 (this profile).
use Rattle.std.specs.Prelude.{ℕ, ◌+◌, ◌/◌, ◌%◌, Bool, ◌==◌, if◌then◌else◌, List, [], ◌∷◌, ◌++◌, length, map, Option, Some, None, slice_get, codes, decimal}
use Rattle.rtm_codes.specs.declared.code.Code.{Code}
use Rattle.rtm_codes.specs.Code.{text_of, digit_char}
use Rattle.rtm_deck_items.specs.declared.deck.Unit.{Unit as UnitCard}
use Rattle.rtm_deck_operands.specs.declared.value.Res.{Res}
use Rattle.rtm_deck_operands.specs.declared.value.Res.TheVariants as res
use Rattle.rtm_deck_operands.specs.Name.{trimmed_text}
use Rattle.rtm_deck_items.specs.View.{ProgramView, DeckView}
use Rattle.rtm_model.specs.declared.block.Place.{Place}
use Rattle.rtm_model.specs.declared.entry.Class.{Class}
use Rattle.rtm_model.specs.declared.entry.Class.TheVariants as class
use Rattle.rtm_model.specs.declared.entry.End.{End}
use Rattle.rtm_model.specs.declared.entry.End.TheVariants.{Ended, Stalled, Limit}
use Rattle.rtm_model.specs.declared.entry.Entry.{Entry}
use Rattle.rtm_model.specs.declared.entry.Fate.{Fate}
use Rattle.rtm_model.specs.declared.entry.Fate.TheVariants.{Queued, Merged, Late}
use Rattle.rtm_model.specs.declared.entry.Verdict.{Verdict}
use Rattle.rtm_model.specs.declared.entry.Verdict.TheVariants.{Retry, Perc, Stop, Bad, Fail, Over}
use Rattle.rtm_model.specs.declared.entry.What.{What}
use Rattle.rtm_model.specs.declared.entry.What.TheVariants.{Exec, Error, Land, Enter, Leave, Arrive, Begin, Release, Done, Purge, MemEnd}
use Rattle.rtm_model.specs.declared.mark.Mark.{Mark}
use Rattle.rtm_model.specs.declared.reg.Kind.{Kind}
use Rattle.rtm_model.specs.declared.reg.Kind.TheVariants as kind

-- a unit's name without its padding, an asterisk for the master; nothing where there is no such unit
abbrev pub name_in : Option UnitCard → List ℕ
name_in None = []
name_in (Some unit) = trimmed_text unit.name

abbrev pub unit_text : DeckView → ℕ → List ℕ
unit_text d u = if u == length d.units then 42 ∷ [] else name_in (slice_get d.units u)

-- a program's name without its padding; nothing where there is no such program
abbrev pub program_in : Option ProgramView → List ℕ
program_in None = []
program_in (Some program) = trimmed_text program.name

-- program, point, number of the operation
abbrev pub place_text : DeckView → Place → List ℕ
place_text d place = program_in (slice_get d.programs place.prog) ++ codes "." ++ decimal place.op

-- eight hexadecimal digits
unfoldable pub reason_digits : ℕ → List ℕ
reason_digits n = map digit_char ((n / 268435456 % 16) ∷ (n / 16777216 % 16) ∷ (n / 1048576 % 16) ∷ (n / 65536 % 16) ∷ (n / 4096 % 16) ∷ (n / 256 % 16) ∷ (n / 16 % 16) ∷ (n % 16) ∷ [])

abbrev pub reason_text : Option ℕ → List ℕ
reason_text None = []
reason_text (Some n) = codes " REASON=" ++ reason_digits n

-- the text where the flag stands
abbrev pub flag_text : Bool → List ℕ → List ℕ
flag_text flag text = if flag then text else []

abbrev pub mark_text : Mark → List ℕ
mark_text mark = text_of mark.code ++ reason_text mark.reason ++ flag_text mark.clup (codes " CLUP") ++ flag_text mark.perc (codes " PERC") ++ flag_text mark.staf (codes " STAF")

abbrev pub kind_text : Kind → List ℕ
kind_text kind.Frr = codes "FRR"
kind_text kind.Estae = codes "ESTAE"
kind_text kind.Estai = codes "ESTAI"
kind_text kind.Mgr = codes "MGR"

abbrev pub class_text : Class → List ℕ
class_text class.Cancel = codes "CANCEL"
class_text class.Detach = codes "DETACH"
class_text class.Mother = codes "MOTHER"
class_text class.Step = codes "STEP"
class_text class.Abterm = codes "ABTERM"
class_text class.Srb = codes "SRB"

abbrev pub res_text : Res → List ℕ
res_text res.Enq = codes "ENQ"
res_text res.Stor = codes "STOR"
res_text res.Dsn = codes "DSN"
res_text res.Timr = codes "TIMR"

abbrev pub fate_text : Fate → List ℕ
fate_text Queued = codes "QUEUED"
fate_text Merged = codes "MERGED"
fate_text Late = codes "LATE"

-- the fate of an abort that was posted, behind these words
abbrev pub posted_text : List ℕ → Option Fate → List ℕ
posted_text words None = []
posted_text words (Some fate) = words ++ fate_text fate

abbrev pub verdict_text : DeckView → Verdict → List ℕ
verdict_text d (Retry place) = codes "RETRY " ++ place_text d place
verdict_text d Perc = codes "PERC"
verdict_text d Stop = codes "STOP"
verdict_text d Bad = codes "BAD"
verdict_text d Fail = codes "FAIL"
verdict_text d Over = codes "OVER"

-- the parts of longer entries
abbrev pub land_text : Class → ℕ → Mark → List ℕ
land_text class from mark = codes "LAND " ++ class_text class ++ codes " " ++ decimal from ++ codes " " ++ mark_text mark

-- a routine that is entered bare is given no SDWA (this profile)
abbrev pub enter_text : Kind → ℕ → Mark → Bool → List ℕ
enter_text kind reg mark bare =
    codes "ENTER " ++ kind_text kind ++ codes " " ++ decimal reg ++ codes " " ++ mark_text mark ++ flag_text bare (codes " NOSDWA")

abbrev pub left_text : DeckView → Kind → ℕ → Verdict → List ℕ
left_text d kind reg verdict = codes "LEAVE " ++ kind_text kind ++ codes " " ++ decimal reg ++ codes " " ++ verdict_text d verdict

abbrev pub done_text : Code → Option Fate → Option Fate → List ℕ
done_text code to_task to_step = codes "DONE " ++ text_of code ++ posted_text (codes " TASK=") to_task ++ posted_text (codes " STEP=") to_step

abbrev pub arrive_text : ℕ → Fate → List ℕ
arrive_text cmd fate = codes "ARRIVE " ++ decimal cmd ++ codes " " ++ fate_text fate

abbrev pub begin_text : Code → Bool → List ℕ
begin_text code dump = codes "BEGIN " ++ text_of code ++ flag_text dump (codes " DUMP")

-- what an entry says
abbrev pub what_text : DeckView → What → List ℕ
what_text d (Exec at rc) = codes "EXEC " ++ place_text d at ++ codes " RC=" ++ decimal rc
what_text d (Error at mark) = codes "ERROR " ++ place_text d at ++ codes " " ++ mark_text mark
what_text d (Land class from mark) = land_text class from mark
what_text d (Enter kind reg mark bare) = enter_text kind reg mark bare
what_text d (Leave kind reg verdict logrec dump) = left_text d kind reg verdict ++ flag_text logrec (codes " LOGREC") ++ flag_text dump (codes " DUMP")
what_text d (Arrive cmd fate) = arrive_text cmd fate
what_text d (Begin code dump) = begin_text code dump
what_text d (Release class id owner) = codes "RELEASE " ++ res_text class ++ codes " " ++ decimal id ++ codes " " ++ unit_text d owner
what_text d (Done code to_task to_step) = done_text code to_task to_step
what_text d (Purge unit) = codes "PURGE " ++ unit_text d unit
what_text d MemEnd = codes "MEMEND"

-- the unit, and what the entry says
abbrev pub entry_text : DeckView → Entry → List ℕ
entry_text d e = unit_text d e.unit ++ codes " " ++ what_text d e.what

-- a line for an entry of that index
abbrev pub line_text : DeckView → ℕ → Entry → List ℕ
line_text d n e = decimal n ++ codes " " ++ entry_text d e ++ codes "\n"

-- a line for each entry, of which the first has that index
abbrev pub lines_text : DeckView → ℕ → List Entry → List ℕ
lines_text d n [] = []
lines_text d n (e ∷ es) = line_text d n e ++ lines_text d (n + 1) es

abbrev pub end_text : End → List ℕ
end_text Ended = codes "ENDED"
end_text Stalled = codes "STALLED"
end_text Limit = codes "LIMIT"

-- the last line
abbrev pub end_line : End → List ℕ
end_line end = codes "END " ++ end_text end ++ codes "\n"

-- the whole text: the format, the entries, the end
abbrev pub trace_text : DeckView → List Entry → End → List ℕ
trace_text d entries end = codes "RTMTRACE 1\n" ++ lines_text d 0 entries ++ end_line end
