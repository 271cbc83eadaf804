use Rattle.std.proofs.Common.{◌≡◌, ◌≤◌, take}
use Rattle.rtm_board.specs.All.{AreAll}
use Rattle.rtm_trace_judge.proofs.judging.follow.Given as goal

-- The entries so far stand, and those are within the limit.
abbrev pub invariant-entries : goal.invariant-entries
invariant-entries l = record {
  deck : l.system.deck ≡ l.fn.system.deck;
  notes : AreAll l.system.deck l.notes;
  so_far : l.system.trace ≡ take l.index l.entries;
  few : l.index ≤ l.fn.system.deck.limit;
}
