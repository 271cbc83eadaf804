use Rattle.std.proofs.Common.{◌≡◌, ◌++◌, take, drop}
use Rattle.rtm_trace.specs.inner.Words.{before, behind}
use Rattle.rtm_trace.proofs.word.len_before.Given as goal

-- what was passed, with the front of the rest, is the front, and the same stands behind it
abbrev pub invariant-loop-i : goal.invariant-loop-i
invariant-loop-i l = record {
  front : take l.i l.word ++ before l.stop (drop l.i l.word) ≡ before l.stop l.word;
  back : behind l.stop (drop l.i l.word) ≡ behind l.stop l.word;
}
