-- Reading a trace, computed. What is read is said by IsTraceOf and IsFirstBadLine: this keeps them by the laws of
-- proofs/, and nobody has to believe it.
use Rattle.std.specs.Prelude.{ℕ, ◌+◌, Bool, true, ◌&&◌, nat_lt, nat_le, if◌then◌else◌, List, [], ◌∷◌, ◌++◌, length, Option, Some, None, is_some, option_map, option_and_then, bytes_eq, codes, Result, Ok, Err}
use Rattle.rtm_codes.specs.declared.code.Code.{Code}
use Rattle.rtm_codes.specs.Code.{in_range}
use Rattle.rtm_codes.specs.Reading.{code_in}
use Rattle.rtm_deck_items.specs.Reading.{lines_of}
use Rattle.rtm_deck_items.specs.View.{DeckView}
use Rattle.rtm_model.specs.declared.block.Place.{Place}
use Rattle.rtm_model.specs.declared.entry.End.{End}
use Rattle.rtm_model.specs.declared.entry.Entry.{Entry}
use Rattle.rtm_model.specs.declared.entry.Fate.{Fate}
use Rattle.rtm_model.specs.declared.entry.Verdict.{Verdict}
use Rattle.rtm_model.specs.declared.entry.Verdict.TheVariants.{Retry}
use Rattle.rtm_model.specs.declared.entry.What.{What}
use Rattle.rtm_model.specs.declared.entry.What.TheVariants.{Exec, Error, Land, Enter, Leave, Arrive, Begin, Release, Done, Purge, MemEnd}
use Rattle.rtm_model.specs.declared.mark.Mark.{Mark}
use Rattle.rtm_trace.specs.declared.form.Form.{Form}
use Rattle.rtm_trace.specs.declared.form.Form.TheVariants as form
use Rattle.rtm_trace.specs.Text.{line_text}
use Rattle.rtm_trace.specs.Lines.{first_line}
use Rattle.rtm_trace.specs.View.{TraceView}
use Rattle.rtm_trace.specs.inner.Words.{word_of, rest_of, before, behind, number_in, NamesView, names_of, number_of_name, kind_in, class_in, res_in, fate_in, plain_verdict, form_in, end_in}

-- an asterisk is the master, whose number is the number of units
abbrev pub unit_in : NamesView → ℕ → List ℕ → Option ℕ
unit_in names count word = if bytes_eq word (codes "*") then Some count else number_of_name names.units word

abbrev pub place_in : NamesView → List ℕ → Option Place
place_in names word = option_and_then
    (λ prog. option_map (λ op. record { prog = prog; op = op }) (number_in 10 65536 (behind 46 word)))
    (number_of_name names.programs (before 46 word))

-- an index of 32 bits
abbrev pub index_in : List ℕ → Option ℕ
index_in word = number_in 10 4294967296 word

-- a flag where it stands first, and what stands behind it if it does
abbrev pub flag_in : List ℕ → List ℕ → Bool
flag_in text line = bytes_eq (word_of line) text

abbrev pub behind_flag : List ℕ → List ℕ → List ℕ
behind_flag text line = if flag_in text line then rest_of line else line

-- the reason that a word tells
abbrev pub reason_in : List ℕ → Option ℕ
reason_in word =
    if bytes_eq (before 61 word) (codes "REASON") then number_in 16 4294967296 (behind 61 word) else None

-- a mark, and whether the word that tells of no SDWA stands behind it
abbrev pub mark_of_flags : Code → Option ℕ → List ℕ → Mark × Bool
mark_of_flags code reason line = let perc = behind_flag (codes "CLUP") line in let staf = behind_flag (codes "PERC") perc in (
  record {
    code = code;
    reason = reason;
    clup = flag_in (codes "CLUP") line;
    perc = flag_in (codes "PERC") perc;
    staf = flag_in (codes "STAF") staf;
  },
  flag_in (codes "NOSDWA") (behind_flag (codes "STAF") staf),
)

abbrev pub mark_behind_reason : Code → Option ℕ → List ℕ → Mark × Bool
mark_behind_reason code None line = mark_of_flags code None line
mark_behind_reason code (Some reason) line = mark_of_flags code (Some reason) (rest_of line)

abbrev pub mark_behind_code : Code → List ℕ → Mark × Bool
mark_behind_code code line = mark_behind_reason code (reason_in (word_of line)) line

abbrev pub mark_in : List ℕ → Option (Mark × Bool)
mark_in line = option_map (λ code. mark_behind_code code (rest_of line)) (code_in (word_of line))

-- the fate that a word tells behind that key
abbrev pub fate_behind : List ℕ → List ℕ → Option Fate
fate_behind key word = if bytes_eq (before 61 word) key then fate_in (behind 61 word) else None

abbrev pub behind_fate : List ℕ → List ℕ → List ℕ
behind_fate key line = if is_some (fate_behind key (word_of line)) then rest_of line else line

abbrev pub verdict_in : NamesView → List ℕ → Option Verdict
verdict_in names line =
    if bytes_eq (word_of line) (codes "RETRY") then option_map Retry (place_in names (word_of (rest_of line)))
    else plain_verdict (word_of line)

abbrev pub behind_verdict : List ℕ → List ℕ
behind_verdict line = if bytes_eq (word_of line) (codes "RETRY") then rest_of (rest_of line) else rest_of line

abbrev pub exec_in : NamesView → List ℕ → Option What
exec_in names line = option_and_then
    (λ at. option_map (λ rc. Exec at rc) (number_in 10 256 (behind 61 (word_of (rest_of line)))))
    (place_in names (word_of line))

abbrev pub error_in : NamesView → List ℕ → Option What
error_in names line = option_and_then (λ at. option_map (λ found. Error at found.0) (mark_in (rest_of line))) (place_in names (word_of line))

abbrev pub land_in : List ℕ → Option What
land_in line = option_and_then
    (λ class. option_and_then
    (λ from. option_map (λ found. Land class from found.0) (mark_in (rest_of (rest_of line))))
    (index_in (word_of (rest_of line))))
    (class_in (word_of line))

abbrev pub enter_in : List ℕ → Option What
enter_in line = option_and_then
    (λ kind. option_and_then
    (λ reg. option_map (λ found. Enter kind reg found.0 found.1) (mark_in (rest_of (rest_of line))))
    (index_in (word_of (rest_of line))))
    (kind_in (word_of line))

abbrev pub leave_in : NamesView → List ℕ → Option What
leave_in names line = let flags = behind_verdict (rest_of (rest_of line)) in option_and_then
    (λ kind. option_and_then
    (λ reg. option_map
    (λ verdict. Leave kind reg verdict (flag_in (codes "LOGREC") flags) (flag_in (codes "DUMP") (behind_flag (codes "LOGREC") flags)))
    (verdict_in names (rest_of (rest_of line))))
    (index_in (word_of (rest_of line))))
    (kind_in (word_of line))

abbrev pub arrive_in : List ℕ → Option What
arrive_in line = option_and_then
    (λ cmd. option_map (λ fate. Arrive cmd fate) (fate_in (word_of (rest_of line))))
    (number_in 10 256 (word_of line))

abbrev pub begin_in : List ℕ → Option What
begin_in line = option_map (λ code. Begin code (flag_in (codes "DUMP") (rest_of line))) (code_in (word_of line))

abbrev pub release_in : NamesView → ℕ → List ℕ → Option What
release_in names count line = option_and_then
    (λ class. option_and_then
    (λ id. option_map (λ owner. Release class id owner) (unit_in names count (word_of (rest_of (rest_of line)))))
    (index_in (word_of (rest_of line))))
    (res_in (word_of line))

abbrev pub done_in : List ℕ → Option What
done_in line = option_map
    (λ code. Done code (fate_behind (codes "TASK") (word_of (rest_of line))) (fate_behind (codes "STEP") (word_of (behind_fate (codes "TASK") (rest_of line)))))
    (code_in (word_of line))

abbrev pub purge_in : NamesView → ℕ → List ℕ → Option What
purge_in names count line = option_map (λ unit. Purge unit) (unit_in names count (word_of line))

-- what an entry of that form says
abbrev pub what_as : NamesView → ℕ → Form → List ℕ → Option What
what_as names count form.Exec line = exec_in names line
what_as names count form.Error line = error_in names line
what_as names count form.Land line = land_in line
what_as names count form.Enter line = enter_in line
what_as names count form.Leave line = leave_in names line
what_as names count form.Arrive line = arrive_in line
what_as names count form.Begin line = begin_in line
what_as names count form.Release line = release_in names count line
what_as names count form.Done line = done_in line
what_as names count form.Purge line = purge_in names count line
what_as names count form.MemEnd line = Some MemEnd

abbrev pub what_in : NamesView → ℕ → List ℕ → Option What
what_in names count line = option_and_then (λ form. what_as names count form (rest_of line)) (form_in (word_of line))

-- the entry behind the index
abbrev pub entry_in : NamesView → ℕ → List ℕ → Option Entry
entry_in names count line = option_and_then
    (λ unit. option_map (λ what. record { unit = unit; what = what }) (what_in names count (rest_of line)))
    (unit_in names count (word_of line))

abbrev pub line_in : NamesView → ℕ → List ℕ → Option Entry
line_in names count line = entry_in names count (rest_of line)

-- a place of the deck
abbrev pub is_place : DeckView → Place → Bool
is_place d place =
    nat_lt place.prog (length d.programs) && nat_le 1 place.op && nat_le place.op (length (lines_of d place.prog) + 1)

abbrev pub is_reason : Option ℕ → Bool
is_reason None = true
is_reason (Some n) = nat_lt n 4294967296

abbrev pub is_mark : Mark → Bool
is_mark mark = in_range mark.code && is_reason mark.reason

abbrev pub verdict_fits : DeckView → Verdict → Bool
verdict_fits d (Retry place) = is_place d place
verdict_fits d _ = true

abbrev pub what_fits : DeckView → What → Bool
what_fits d (Exec at rc) = is_place d at && nat_lt rc 256
what_fits d (Error at mark) = is_place d at && is_mark mark
what_fits d (Land class from mark) = nat_lt from 4294967296 && is_mark mark
what_fits d (Enter kind reg mark bare) = nat_lt reg 4294967296 && is_mark mark
what_fits d (Leave kind reg verdict logrec dump) = nat_lt reg 4294967296 && verdict_fits d verdict
what_fits d (Arrive cmd _) = nat_lt cmd (length d.commands)
what_fits d (Begin code dump) = in_range code
what_fits d (Release class id owner) = nat_le id 999999 && nat_le owner (length d.units)
what_fits d (Done code to_task to_step) = in_range code
what_fits d (Purge unit) = nat_lt unit (length d.units)
what_fits d MemEnd = true

-- the test that an entry fits the deck
abbrev pub fits : DeckView → Entry → Bool
fits d e = nat_le e.unit (length d.units) && what_fits d e.what

-- the entry, where it fits and its line is this one
abbrev pub confirmed_entry : DeckView → ℕ → List ℕ → Entry → Option Entry
confirmed_entry d n line e = if fits d e && bytes_eq (line_text d n e) line then Some e else None

-- the entry of that index whose line it is
abbrev pub entry_on : DeckView → ℕ → List ℕ → Option Entry
entry_on d n line = option_and_then (confirmed_entry d n line) (line_in (names_of d) (length d.units) line)

-- a trace that ends; a line behind the end is bad
abbrev pub trace_at_end : List Entry → End → List (List ℕ) → Result TraceView ℕ
trace_at_end entries end [] = Ok (record { entries = entries; end = end })
trace_at_end entries end (line ∷ lines) = Err (length entries + 3)

-- how it goes on behind the lines of some entries, where the next line is that end or that entry's, or else neither
abbrev pub read_line : List Entry → Option End → Option Entry → List (List ℕ) → (Entry → Result TraceView ℕ) → Result TraceView ℕ
read_line entries (Some end) found lines others = trace_at_end entries end lines
read_line entries None (Some e) lines others = others e
read_line entries None None lines others = Err (length entries + 2)

abbrev pub read_on : DeckView → List Entry → List (List ℕ) → Result TraceView ℕ
read_on d entries [] = Err (length entries + 2)
read_on d entries (line ∷ lines) =
    read_line entries (end_in line) (entry_on d (length entries) line) lines (λ e. read_on d (entries ++ e ∷ []) lines)

-- The lines of a trace, of which the first is the format's.
abbrev pub read_lines : DeckView → List (List ℕ) → Result TraceView ℕ
read_lines d [] = Err 1
read_lines d (line ∷ lines) = if bytes_eq line first_line then read_on d [] lines else Err 1
