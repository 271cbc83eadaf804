-- Words in which decks and histories are written here: units and programs by number, places by program and operation.
use Rattle.std.specs.Prelude.{Bool, List, None, Option, Some, [], false, suc, take, true, zero, ℕ, ◌+◌, ◌++◌, ◌∷◌}
use Rattle.rtm_codes.specs.declared.code.Code.{Code}
use Rattle.rtm_deck_items.specs.View.{DeckView, ProgramView}
use Rattle.rtm_deck_items.specs.declared.deck.Command.{Command}
use Rattle.rtm_deck_items.specs.declared.deck.Line.{Line}
use Rattle.rtm_deck_items.specs.declared.op.Op.{Op}
use Rattle.rtm_deck_operands.specs.declared.value.Res.{Res}
use Rattle.rtm_deck_items.specs.declared.op.Setrp.{Setrp}
use Rattle.rtm_deck_operands.specs.declared.value.Three.{Three}
use Rattle.rtm_model.specs.declared.entry.Class.{Class}
use Rattle.rtm_model.specs.declared.entry.Entry.{Entry}
use Rattle.rtm_model.specs.declared.entry.Fate.{Fate}
use Rattle.rtm_model.specs.declared.entry.Verdict.{Verdict}
use Rattle.rtm_model.specs.declared.entry.Verdict.TheVariants.{Over, Retry}
use Rattle.rtm_model.specs.declared.entry.What.TheVariants.{Arrive, Begin, Done, Enter, Error, Exec, Land, Leave, MemEnd, Purge, Release}
use Rattle.rtm_model.specs.declared.holding.Holding.{Holding}
use Rattle.rtm_model.specs.declared.mark.Mark.{Mark}
use Rattle.rtm_model.specs.declared.reg.Kind.{Kind}
use Rattle.rtm_model.specs.declared.reg.Kind.TheVariants.{Mgr}
use Rattle.rtm_model.specs.declared.reg.Reg.{Reg}
use Rattle.rtm_model.specs.ChainLaw.{Leaving}
use Rattle.rtm_model.specs.Entries.{Opening}
use Rattle.rtm_model.specs.Record.{verdict}
use Rattle.rtm_model.specs.declared.entry.Class.{Class}
use Rattle.rtm_deck_items.specs.declared.deck.Unit.{Unit as UnitCard}
use Rattle.rtm_deck_items.specs.declared.deck.UnitKind.TheVariants.{Task, Srb}

-- Decks

abbrev pub card : Op → Line
card op = record { label = None; op = op }

abbrev pub labelled_line : List ℕ → Op → Line
labelled_line label op = record { label = Some label; op = op }

abbrev pub program : List ℕ → List Line → ProgramView
program name lines = record { name = name; lines = lines }

abbrev pub task : List ℕ → ℕ → UnitCard
task name prog = record { name = name; kind = Task; prog = prog; related = None }

abbrev pub srb : List ℕ → ℕ → Option ℕ → UnitCard
srb name prog related = record { name = name; kind = Srb; prog = prog; related = related }

abbrev pub cancel : ℕ → ℕ → Bool → Command
cancel target at dump = record { target = target; at = at; dump = dump }

-- A deck: whether routines get an SDWA, the limit of entries, the programs, the units and the commands.
abbrev pub deck_with : Bool → ℕ → List ProgramView → List UnitCard → List Command → DeckView
deck_with sdwa limit programs units commands = record {
  limit = limit;
  sdwa = sdwa;
  programs = programs;
  units = units;
  commands = commands;
}

-- one whose routines get an SDWA
abbrev pub deck_of : ℕ → List ProgramView → List UnitCard → List Command → DeckView
deck_of = deck_with true

-- one whose ESTAE and ESTAI routines get none
abbrev pub bare_deck_of : ℕ → List ProgramView → List UnitCard → List Command → DeckView
bare_deck_of = deck_with false

-- RC=, RETADDR=, REMREC=, COMPCOD=, REASON=, DUMP=, RECORD=, FRESDWA=
abbrev pub setrp :
    Option ℕ → Option (List ℕ) → Option Bool → Option Code → Option ℕ → Option Three → Option Three → Option Bool
    → Setrp
setrp rc retaddr remrec compcod reason dump logrec fresdwa = record {
  rc = rc;
  retaddr = retaddr;
  remrec = remrec;
  compcod = compcod;
  reason = reason;
  dump = dump;
  logrec = logrec;
  fresdwa = fresdwa;
}

-- Routines, each with its birth and its program: made by the first request block of a unit, in the outermost bracket,
-- by a card with CANCEL=YES alone
abbrev pub routine : Kind → ℕ → ℕ → Reg
routine kind born prog = record {
  kind = kind;
  born = born;
  owner = 0;
  depth = 0;
  prog = prog;
  term = false;
  cancel = true;
  xctl = false;
}

-- ENTERs and LEAVEs by their index, and holdings

abbrev pub opening : ℕ → Kind → ℕ → Opening
opening at kind born = record { at = at; kind = kind; born = born }

abbrev pub leaving : ℕ → Kind → ℕ → Verdict → Leaving
leaving at kind born verdict = record { at = at; kind = kind; born = born; verdict = verdict }

abbrev pub holding : ℕ → Res → ℕ → ℕ → Holding
holding born class id owner = record { born = born; class = class; id = id; owner = owner }

-- Entries, each with its unit first

-- a mark of a code alone
abbrev pub mark : Code → Mark
mark code = record { code = code; reason = None; clup = false; perc = false; staf = false }

-- a mark with its reason, CLUP, PERC and STAF
abbrev pub full_mark : Code → Option ℕ → Bool → Bool → Bool → Mark
full_mark code reason clup perc staf = record { code = code; reason = reason; clup = clup; perc = perc; staf = staf }

abbrev pub exec : ℕ → ℕ → ℕ → ℕ → Entry
exec u prog op rc = record { unit = u; what = Exec (record { prog = prog; op = op }) rc }

abbrev pub error : ℕ → ℕ → ℕ → Mark → Entry
error u prog op mark = record { unit = u; what = Error (record { prog = prog; op = op }) mark }

abbrev pub land : ℕ → Class → ℕ → Mark → Entry
land u class from mark = record { unit = u; what = Land class from mark }

abbrev pub enter : ℕ → Kind → ℕ → Mark → Entry
enter u kind reg mark = record { unit = u; what = Enter kind reg mark false }

-- a routine that gets no SDWA
abbrev pub enter_bare : ℕ → Kind → ℕ → Mark → Entry
enter_bare u kind reg mark = record { unit = u; what = Enter kind reg mark true }

abbrev pub retry : ℕ → ℕ → Verdict
retry prog op = Retry (record { prog = prog; op = op })

-- a routine is left, with LOGREC and DUMP
abbrev pub leave_with : ℕ → Kind → ℕ → Verdict → Bool → Bool → Entry
leave_with u kind reg verdict logrec dump = record { unit = u; what = Leave kind reg verdict logrec dump }

-- without either
abbrev pub leave : ℕ → Kind → ℕ → Verdict → Entry
leave u kind reg verdict = leave_with u kind reg verdict false false

abbrev pub arrive : ℕ → ℕ → Fate → Entry
arrive u cmd fate = record { unit = u; what = Arrive cmd fate }

abbrev pub begin : ℕ → Code → Bool → Entry
begin u code dump = record { unit = u; what = Begin code dump }

abbrev pub release : ℕ → Res → ℕ → ℕ → Entry
release u class id owner = record { unit = u; what = Release class id owner }

-- a unit has ended, with what became of the aborts to its related task and to the job step task
abbrev pub done_with : ℕ → Code → Option Fate → Option Fate → Entry
done_with u code to_task to_step = record { unit = u; what = Done code to_task to_step }

-- without either
abbrev pub plain_done : ℕ → Code → Entry
plain_done u code = done_with u code None None

abbrev pub purge : ℕ → ℕ → Entry
purge u unit = record { unit = u; what = Purge unit }

abbrev pub memend : ℕ → Entry
memend u = record { unit = u; what = MemEnd }

-- the first n entries of a history, and then that one
abbrev pub front_and : List Entry → ℕ → Entry → List Entry
front_and history n e = take n history ++ e ∷ []

-- Many entries alike

-- so many cards of a program one after the other, from that operation on, each with the return code 0
abbrev pub execs : ℕ → ℕ → ℕ → ℕ → List Entry
execs u prog op zero = []
execs u prog op (suc more) = exec u prog op 0 ∷ execs u prog (op + 1) more

-- so many resource managers, of which the oldest was born at that entry and each other one entry later, run, newest
-- first
abbrev pub managers_run : ℕ → ℕ → ℕ → Mark → List Entry
managers_run u oldest zero mark = []
managers_run u oldest (suc more) mark =
    enter u Mgr (oldest + more) mark ∷ leave u Mgr (oldest + more) Over ∷ managers_run u oldest more mark
