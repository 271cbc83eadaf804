use Rattle.std.proofs.Common.{◌≡◌, ◌+◌, ◌≤◌, [], length}
use Rattle.rtm_trace.specs.inner.Known.{AreKnown}
use Rattle.rtm_trace.specs.Lines.{text_lines}
use Rattle.rtm_trace.specs.inner.Reading.{read_on}
use Rattle.rtm_trace.proofs.read.read_on.Given as goal

-- Reading on gives what reading from the start gives, and each entry took a byte at least.
abbrev pub invariant-lines : goal.invariant-lines
invariant-lines l = record {
  read : read_on l.deck l.entries.items (text_lines l.rest) ≡ read_on l.deck [] (text_lines l.initial.rest);
  room : length l.entries.items + length l.rest ≤ length l.initial.rest;
  known : AreKnown l.deck l.places;
}

abbrev pub decreases-lines : goal.decreases-lines
decreases-lines l = length l.rest
