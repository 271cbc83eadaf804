use Rattle.std.proofs.Common.{◌≡◌, drop}
use Rattle.rtm_deck.specs.inner.Building.{region_from}
use Rattle.rtm_deck.proofs.build.region_of.Given as goal

-- what REGION of the cards that are left says is what that of all says
abbrev pub invariant-loop-read : goal.invariant-loop-read
invariant-loop-read l = region_from (drop l.read-index l.reads) ≡ region_from l.reads
