use Rattle.std.proofs.Common.{◌≤◌, length}
use Rattle.rtm_chains.proofs.tests.inherits_sixty_three_estais.Given as goal

abbrev pub invariant-loop-born : goal.invariant-loop-born
invariant-loop-born g l = length l.mother ≤ l.born
