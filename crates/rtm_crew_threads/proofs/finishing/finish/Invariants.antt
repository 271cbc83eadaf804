use Rattle.std.proofs.Common.{length, ◌-◌, ◌≡◌, ◌≤◌}
use Rattle.rtm_board.specs.All.{AreAll}
use Rattle.rtm_crew_threads.proofs.finishing.finish.Given as goal

abbrev pub invariant-turns : goal.invariant-turns
invariant-turns g l = record {
  deck : l.region.system.deck ≡ l.fn.region.system.deck;
  turn_in : l.turn ≤ length l.region.system.deck.units;
  notes : AreAll l.region.system.deck l.notes;
}

abbrev pub decreases-turns : goal.decreases-turns
decreases-turns g l = l.region.system.deck.limit - length l.region.system.trace
