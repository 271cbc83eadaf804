use Rattle.std.proofs.Common.{◌≡◌, ◌++◌, drop}
use Rattle.rtm_deck.specs.inner.Building.{lines_from}
use Rattle.rtm_deck.proofs.build.lines_of.Given as goal

-- with the cards that are left, these are all
abbrev pub invariant-loop-read : goal.invariant-loop-read
invariant-loop-read l = l.lines.items ++ lines_from l.seen (drop l.read-index l.reads) ≡ lines_from l.seen l.reads
