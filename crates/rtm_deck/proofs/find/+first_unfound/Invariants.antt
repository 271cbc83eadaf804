use Rattle.std.proofs.Common.{length}
use Rattle.rtm_deck.proofs.find.+first_unfound.Given as goal

abbrev pub decreases-first_unfound : goal.decreases-first_unfound
decreases-first_unfound l = length l.slots.now
