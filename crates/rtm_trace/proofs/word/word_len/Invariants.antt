use Rattle.std.proofs.Common.{◌≡◌, ◌++◌, take, drop}
use Rattle.rtm_trace.specs.inner.Words.{word_of, rest_of}
use Rattle.rtm_trace.proofs.word.word_len.Given as goal

-- what was passed, with the word in the rest, is the word, and the same stands behind it
abbrev pub invariant-loop-i : goal.invariant-loop-i
invariant-loop-i l = record {
  word : take l.i l.line ++ word_of (drop l.i l.line) ≡ word_of l.line;
  rest : rest_of (drop l.i l.line) ≡ rest_of l.line;
}
