use Rattle.std.proofs.Common.{◌≡◌, ◌+◌, drop}
use Rattle.rtm_deck.specs.inner.Building.{line_count}
use Rattle.rtm_deck.proofs.build.line_count.Given as goal

-- with the cards that are left, these are all
abbrev pub invariant-loop-i : goal.invariant-loop-i
invariant-loop-i l = l.i + line_count (drop l.i l.reads) ≡ line_count l.reads
