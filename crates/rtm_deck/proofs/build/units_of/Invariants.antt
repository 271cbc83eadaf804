use Rattle.std.proofs.Common.{◌≡◌, ◌++◌, drop}
use Rattle.rtm_deck.specs.inner.Building.{units_from}
use Rattle.rtm_deck.proofs.build.units_of.Given as goal

-- with the units that are left, these are all
abbrev pub invariant-loop-read : goal.invariant-loop-read
invariant-loop-read l = l.units.items ++ units_from l.seen (drop l.read-index l.reads) ≡ units_from l.seen l.reads
