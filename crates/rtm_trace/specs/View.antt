-- A trace as plain data: what contracts see of it.
use Rattle.std.specs.Prelude.{List, Vec}
use Rattle.std.specs.declared.alloc.Global.{Global}
use Rattle.rtm_model.specs.declared.entry.End.{End}
use Rattle.rtm_model.specs.declared.entry.Entry.{Entry}

-- a trace: its entries, oldest first, and how it ends
pub record TraceView : Type 0 where
  pub entries : List Entry
  pub end : End

-- the trace that the reader gives, with its entries in a vector
abbrev pub trace_of : Vec Entry Global × End → TraceView
trace_of (entries, end) = record { entries = entries.items; end = end }
