use Rattle.std.proofs.Common.{◌≡◌, ◌≤◌, ◌-◌, length}
use Rattle.rtm_model.specs.Turns.{seq}
use Rattle.rtm_board.specs.All.{AreAll}
use Rattle.rtm_crew.proofs.TurnLemmas.{made_and_left}
use Rattle.rtm_crew.proofs.run.seq_run.Given as goal

-- What was made and what follows is the whole.
abbrev pub invariant-turns : goal.invariant-turns
invariant-turns g l = record {
  deck : l.region.system.deck ≡ l.fn.region.system.deck;
  turn_in : l.turn ≤ length l.region.system.deck.units;
  notes : AreAll l.region.system.deck l.notes;
  so_far : made_and_left l.region.system l.turn ≡ seq l.fn.region.system.deck;
}

abbrev pub decreases-turns : goal.decreases-turns
decreases-turns g l = l.region.system.deck.limit - length l.region.system.trace
