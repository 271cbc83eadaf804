use Rattle.std.proofs.Common.{◌≡◌, ◌++◌, map, drop}
use Rattle.rtm_trace.specs.inner.Labels.{program_label}
use Rattle.rtm_trace.proofs.labels.program_labels.Given as goal

-- with the labels of the programs that are left, these are all
abbrev pub invariant-loop-program : goal.invariant-loop-program
invariant-loop-program l = l.labels.items ++ map program_label (drop l.program-index l.programs) ≡ map program_label l.programs
