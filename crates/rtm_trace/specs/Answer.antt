-- What the reader answers.
use Rattle.std.specs.Prelude.{◌≡◌, ℕ, List, Result, Ok, Err, Vec}
use Rattle.std.specs.declared.alloc.Global.{Global}
use Rattle.rtm_deck_items.specs.View.{DeckView}
use Rattle.rtm_model.specs.declared.entry.End.{End}
use Rattle.rtm_model.specs.declared.entry.Entry.{Entry}
use Rattle.rtm_trace.specs.declared.fault.TraceFault.{TraceFault}
use Rattle.rtm_trace.specs.declared.fault.TraceFault.TheVariants.{Memory, BadLine}
use Rattle.rtm_trace.specs.Lines.{IsFirstBadLine}
use Rattle.rtm_trace.specs.View.{TraceView, trace_of}

-- what the reader answers: entries with an end, or a fault
abbrev pub Answered : Type 0
Answered = Result (Vec Entry Global × End) TraceFault

-- Want of memory, or exactly the first bad line of the bytes.
abbrev pub IsFaultOf : DeckView → List ℕ → TraceFault → Type 0
IsFaultOf d bytes Memory = Unit {0}
IsFaultOf d bytes (BadLine line) = IsFirstBadLine d bytes line

-- That trace, but for want of memory.
abbrev pub IsThatTrace : TraceView → Answered → Type 0
IsThatTrace t (Ok read) = trace_of read ≡ t
IsThatTrace t (Err Memory) = Unit {0}
IsThatTrace t (Err (BadLine line)) = ⊥

-- That bad line, but for want of memory.
abbrev pub IsThatLine : ℕ → Answered → Type 0
IsThatLine number (Ok read) = ⊥
IsThatLine number (Err Memory) = Unit {0}
IsThatLine number (Err (BadLine line)) = line ≡ number

-- That reading, but for want of memory.
abbrev pub Gives : Answered → Result TraceView ℕ → Type 0
Gives (Ok read) r = r ≡ Ok (trace_of read)
Gives (Err Memory) r = Unit {0}
Gives (Err (BadLine line)) r = r ≡ Err line
