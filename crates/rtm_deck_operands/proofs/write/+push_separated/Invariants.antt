use Rattle.std.proofs.Common.{length}
use Rattle.rtm_deck_operands.proofs.write.+push_separated.Given as goal

abbrev pub decreases-push_separated : goal.decreases-push_separated
decreases-push_separated l = length l.slots.now
