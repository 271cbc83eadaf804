-- The levels of a unit: its brackets, newest first, each with the routine that runs in it and its open error, and what
-- changes them (Authorized Assembler Services Guide, "Providing recovery"; the numbers and the order of several ESTAI
-- routines are this profile's). The list's last is the outermost bracket, which is always there.
use Rattle.std.specs.Prelude.{ℕ, ◌-◌, Bool, true, false, not, ◌||◌, ◌==◌, if◌then◌else◌, List, [], ◌∷◌, length, Option, Some, None, is_some}
use Rattle.std.specs.Option.{option_map}
use Rattle.std.specs.List.{list_any}
use Rattle.rtm_deck_items.specs.declared.op.Setrp.{Setrp}
use Rattle.rtm_deck_items.specs.View.{DeckView}
use Rattle.rtm_model.specs.declared.entry.Verdict.{Verdict}
use Rattle.rtm_model.specs.declared.entry.Verdict.TheVariants.{Retry, Perc, Stop, Bad, Fail, Over}
use Rattle.rtm_model.specs.declared.error_record.ErrorRecord.{ErrorRecord}
use Rattle.rtm_model.specs.declared.reg.Reg.{Reg}
use Rattle.rtm_model.specs.declared.reg.Kind.{Kind}
use Rattle.rtm_model.specs.declared.reg.Kind.TheVariants.{Frr, Mgr}
use Rattle.rtm_model.specs.Record.{value_or, setrp_in, ret15_in, after_percolation, inner_failed, verdict}
use Rattle.rtm_model.specs.Chains.{newest_of, next_estae, next_estai}

-- a bracket: the recovery routine or resource manager that runs in it (none in the outermost), whether that was entered
-- bare, without an SDWA, and the record of the error that is open in it
pub record Bracket : Type 0 where
  pub routine : Option Reg
  pub bare : Bool
  pub error : Option ErrorRecord

-- the levels of a unit at its birth: the outermost bracket alone
abbrev pub outermost_alone : List Bracket
outermost_alone = record { routine = None; bare = false; error = None } ∷ []

-- What is read of levels.

-- the newest bracket
abbrev pub innermost_bracket : List Bracket → Option Bracket
innermost_bracket [] = None
innermost_bracket (l ∷ ls) = Some l

-- the bracket that encloses it
abbrev pub enclosing_bracket : List Bracket → Option Bracket
enclosing_bracket [] = None
enclosing_bracket (l ∷ ls) = innermost_bracket ls

-- its routine, if it is there and has one
abbrev pub routine_of : Option Bracket → Option Reg
routine_of None = None
routine_of (Some l) = l.routine

-- the record of its open error
abbrev pub error_of : Option Bracket → Option ErrorRecord
error_of None = None
error_of (Some l) = l.error

-- the routine that runs in the newest bracket
abbrev pub current : List Bracket → Option Reg
current ls = routine_of (innermost_bracket ls)

-- the routine of the bracket was entered without an SDWA
abbrev pub is_bare_bracket : Option Bracket → Bool
is_bare_bracket None = false
is_bare_bracket (Some l) = l.bare

-- the routine that runs in the newest bracket was entered without an SDWA
abbrev pub is_bare : List Bracket → Bool
is_bare ls = is_bare_bracket (innermost_bracket ls)

-- the record of the error that is open in the newest bracket
abbrev pub error_in : List Bracket → Option ErrorRecord
error_in ls = error_of (innermost_bracket ls)

-- an error is open in the newest bracket
abbrev pub error_here : List Bracket → Bool
error_here ls = is_some (error_in ls)

-- how many brackets enclose the newest one
abbrev pub depth_in : List Bracket → ℕ
depth_in ls = length ls - 1

-- a resource manager, and no recovery routine
abbrev pub is_manager : Kind → Bool
is_manager Mgr = true
is_manager _ = false

-- a functional recovery routine
abbrev pub is_frr : Kind → Bool
is_frr Frr = true
is_frr _ = false

-- the routine is a recovery routine, and no resource manager
abbrev pub is_recovery : Option Reg → Bool
is_recovery None = false
is_recovery (Some reg) = not (is_manager reg.kind)

-- a recovery routine runs in the newest bracket
abbrev pub recovers : List Bracket → Bool
recovers ls = is_recovery (current ls)

-- the record of the routine that runs in the newest bracket: that of the error which it was entered for, open in the
-- enclosing bracket, whether or not it was given to the routine; a resource manager has none
abbrev pub record_in : List Bracket → Option ErrorRecord
record_in ls = if recovers ls then error_of (enclosing_bracket ls) else None

-- no abort interrupts a routine of that kind: an FRR, a resource manager, and one with CANCEL=NO (that option:
-- Assembler Services Reference, ESTAEX; the rest is this profile's). An ESTAI routine never shields: it has
-- CANCEL=YES always.
abbrev pub shields : Option Reg → Bool
shields None = false
shields (Some reg) = is_frr reg.kind || is_manager reg.kind || not reg.cancel

-- some bracket's routine is such a one
abbrev pub shielded : List Bracket → Bool
shielded ls = list_any (λ l. shields l.routine) ls

-- Which routine gets control for an error: FRRs before ESTAE routines, both of the error's bracket and newest first;
-- in the outermost bracket ESTAI routines after them, nearest attacher first. A TERM-only record admits routines with
-- TERM=YES alone, and no FRR. (In one bracket each living FRR is younger than each living ESTAE routine, so this is the
-- order of falling birth.)

-- the newest FRR of the bracket; a TERM-only record admits none (this profile)
abbrev pub next_frr : ℕ → Bool → List Reg → Option Reg
next_frr depth term_only frrs = if term_only then None else newest_of depth frrs

-- the ESTAI routine, in the outermost bracket alone
abbrev pub next_estai_at : ℕ → Bool → List Reg → Option Reg
next_estai_at depth term_only estais = if depth == 0 then next_estai term_only estais else None

-- the first eligible routine for an error of the bracket of that depth
abbrev pub first_eligible : ℕ → Bool → List Reg → List Reg → List Reg → Option Reg
first_eligible depth term_only frrs estaes estais =
    value_or (next_frr depth term_only frrs) (value_or (next_estae depth term_only estaes) (next_estai_at depth term_only estais))

-- What an open error leads to: `enter` of the first eligible routine; where there is none, `fail` of the routine in
-- whose bracket the error is open, or in the outermost bracket `begin`, the begin of the unit's end.
abbrev pub choice_of : {A : Type 0} → (Reg → A) → (Reg → A) → A → Option Reg → Option Reg → A
choice_of enter fail begin (Some reg) routine = enter reg
choice_of enter fail begin None (Some own) = fail own
choice_of enter fail begin None None = begin

-- The verdict at the end of the routine in the newest bracket: by its record, where the request block of a retry
-- stands in that program; Over where it has none, as a resource manager.
abbrev pub verdict_of_routine : DeckView → ℕ → Option Reg → Option ErrorRecord → Verdict
verdict_of_routine d prog (Some reg) (Some r) = verdict d reg.kind prog r
verdict_of_routine d prog _ _ = Over

abbrev pub verdict_in : DeckView → ℕ → List Bracket → Verdict
verdict_in d prog ls = verdict_of_routine d prog (current ls) (record_in ls)

-- What changes levels.

-- the newest of them changed
abbrev pub at_innermost : (Bracket → Bracket) → List Bracket → List Bracket
at_innermost f [] = []
at_innermost f (l ∷ ls) = f l ∷ ls

-- the one that encloses it changed
abbrev pub at_enclosing : (Bracket → Bracket) → List Bracket → List Bracket
at_enclosing f [] = []
at_enclosing f (l ∷ ls) = l ∷ at_innermost f ls

-- that error is open in the bracket, or none
abbrev pub with_open : Option ErrorRecord → Bracket → Bracket
with_open error l = record l { error = error }

-- the record of the bracket's open error changed
abbrev pub on_record : (ErrorRecord → ErrorRecord) → Bracket → Bracket
on_record f l = with_open (option_map f l.error) l

-- an error or a landed abort opens an error in the newest bracket
abbrev pub after_error : ErrorRecord → List Bracket → List Bracket
after_error r ls = at_innermost (with_open (Some r)) ls

-- a routine is entered, with an SDWA or bare, in a bracket of its own
abbrev pub after_enter : Reg → Bool → List Bracket → List Bracket
after_enter reg bare ls = record { routine = Some reg; bare = bare; error = None } ∷ ls

-- SETRP in the routine of the newest bracket changes its record
abbrev pub after_setrp : Setrp → List Bracket → List Bracket
after_setrp s ls = if recovers ls then at_enclosing (on_record (setrp_in s)) ls else ls

-- RET15 in the routine of the newest bracket changes its record
abbrev pub after_ret15 : ℕ → Option (List ℕ) → List Bracket → List Bracket
after_ret15 rc label ls = if recovers ls then at_enclosing (on_record (ret15_in rc label)) ls else ls

-- the routine has failed by the error that was open in its bracket
abbrev pub after_inner_failure : Option ErrorRecord → ErrorRecord → ErrorRecord
after_inner_failure None outer = outer
after_inner_failure (Some inner) outer = inner_failed inner outer

-- the enclosing bracket after the routine of the newest one, in which that error was open, was left
abbrev pub after_verdict : Verdict → Option ErrorRecord → Bracket → Bracket
after_verdict (Retry place) inner l = with_open None l
after_verdict Perc inner l = on_record after_percolation l
after_verdict Stop inner l = on_record after_percolation l
after_verdict Bad inner l = on_record after_percolation l
after_verdict Fail inner l = on_record (after_inner_failure inner) l
after_verdict Over inner l = l

-- the routine of the newest bracket was left with that verdict: its bracket is closed
abbrev pub after_leave : Verdict → List Bracket → List Bracket
after_leave verdict [] = []
after_leave verdict (l ∷ ls) = at_innermost (after_verdict verdict l.error) ls
