use Rattle.std.proofs.Common.{◌≤◌, ◌-◌, length}
use Rattle.rtm_board.specs.All.{AreAll}
use Rattle.rtm_system_tests.proofs.step_tests.runs_beside.Given as goal

abbrev pub invariant-turns : goal.invariant-turns
invariant-turns g l = record {
  turn_in : l.turn ≤ length l.turning.deck.units;
  notes : AreAll l.turning.deck l.notes;
}

abbrev pub decreases-turns : goal.decreases-turns
decreases-turns g l = l.turning.deck.limit - length l.turning.trace
