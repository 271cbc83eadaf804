-- The deck of the word `load`: tasks of which each ends abnormally and is retried forty times, and then ends abnormally
-- for good (this profile).
use Rattle.std.specs.Prelude.{ℕ, ◌+◌, true, false, List, [], ◌∷◌, ◌++◌, map, Some, None, codes}
use Rattle.std.specs.List.{flat_map}
use Rattle.rtm_codes.specs.declared.code.Code.TheVariants.{Sys, User}
use Rattle.rtm_deck_operands.specs.declared.value.Res.TheVariants.{Enq, Stor, Dsn}
use Rattle.rtm_deck_operands.specs.Name.{padded_text}
use Rattle.rtm_deck_operands.specs.Numeral.{decimal_of}
use Rattle.rtm_deck_items.specs.declared.deck.Line.{Line}
use Rattle.rtm_deck_items.specs.declared.deck.Unit.{Unit as UnitCard}
use Rattle.rtm_deck_items.specs.declared.deck.UnitKind.TheVariants.{Task}
use Rattle.rtm_deck_items.specs.declared.op.Op.{Op}
use Rattle.rtm_deck_items.specs.declared.op.Op.TheVariants.{Nop, Get, Link, Abend, EstaexCt, FrrAdd, Attachx, WaitTask, SetRp}
use Rattle.rtm_deck_items.specs.declared.op.Setrp.{Setrp}
use Rattle.rtm_deck_items.specs.View.{ProgramView, DeckView}
use Rattle.rtm_deck_load.specs.Counts.{one_to, routines}

-- The numbers of the programs: MAIN is 0, then WORK, SUB, the routines KEEP1 to KEEP40, PASS and WATCH.

abbrev pub work : ℕ
work = 1

abbrev pub sub : ℕ
sub = 2

abbrev pub keep : ℕ → ℕ
keep k = sub + k

abbrev pub pass : ℕ
pass = 43

abbrev pub watch : ℕ
watch = 44

-- a name of a word and a decimal number behind it
abbrev pub numbered_name : List ℕ → ℕ → List ℕ
numbered_name word number = padded_text (word ++ decimal_of number)

-- a card without a label
abbrev pub card : Op → Line
card op = record { label = None; op = op }

abbrev pub program : List ℕ → List Line → ProgramView
program name lines = record { name = name; lines = lines }

-- a task that runs the program of that number first
abbrev pub task : List ℕ → ℕ → UnitCard
task name prog = record { name = name; kind = Task; prog = prog; related = None }

-- the task of that number is attached, with WATCH as its ESTAI routine
abbrev pub attach : ℕ → Line
attach i = card (Attachx i (Some watch) false)

-- the end of the task of that number is waited for
abbrev pub await : ℕ → Line
await i = card (WaitTask i)

-- MAIN attaches each task, and then waits for each
abbrev pub main_program : ℕ → ProgramView
main_program n = program (codes "MAIN    ") (card (Get Enq 0) ∷ map attach (one_to n) ++ map await (one_to n))

-- a routine is made, and SUB called; the retry goes on behind the call
abbrev pub round : ℕ → List Line
round k =
    card (EstaexCt (keep k) false true false) ∷
    card (Link sub) ∷
    record { label = Some (numbered_name (codes "BACK") k); op = Nop } ∷
    []

-- WORK does so once for each routine, and then ends abnormally
abbrev pub work_program : ProgramView
work_program =
    program (codes "WORK    ") (card (Get Stor 1) ∷ flat_map round (one_to routines) ++ card (Abend (User 2) None false false) ∷ [])

-- SUB ends abnormally, under an FRR that percolates
abbrev pub sub_program : ProgramView
sub_program = program (codes "SUB     ") (card (Get Dsn 2) ∷ card (FrrAdd pass) ∷ card (Abend (Sys 0x0C4) None false false) ∷ [])

-- a retry at that label, which takes the routine away
abbrev pub retry_at : List ℕ → Setrp
retry_at label = record {
  rc = Some 4;
  retaddr = Some label;
  remrec = Some true;
  compcod = None;
  reason = None;
  dump = None;
  logrec = None;
  fresdwa = None;
}

-- the routine of that number retries
abbrev pub keep_program : ℕ → ProgramView
keep_program k = program (numbered_name (codes "KEEP") k) (card (SetRp (retry_at (numbered_name (codes "BACK") k))) ∷ [])

-- the routines PASS and WATCH do nothing, and so percolate
abbrev pub load_programs : ℕ → List ProgramView
load_programs n =
    main_program n ∷ work_program ∷ sub_program ∷ map keep_program (one_to routines)
    ++ program (codes "PASS    ") [] ∷ program (codes "WATCH   ") [] ∷ []

-- the task of that number
abbrev pub worker : ℕ → UnitCard
worker i = task (numbered_name (codes "T") i) work

-- JOB is the job step task
abbrev pub load_units : ℕ → List UnitCard
load_units n = task (codes "JOB     ") 0 ∷ map worker (one_to n)

-- the deck of that many tasks beside the job step task
unfoldable pub load_deck : ℕ → DeckView
load_deck n = record { limit = 100000; sdwa = true; programs = load_programs n; units = load_units n; commands = [] }
