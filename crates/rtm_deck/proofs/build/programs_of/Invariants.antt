use Rattle.std.proofs.Common.{◌≡◌, ◌++◌, drop}
use Rattle.rtm_deck.specs.inner.Building.{programs_from}
use Rattle.rtm_deck.proofs.build.programs_of.Given as goal

-- with the programs that are left, these are all
abbrev pub invariant-loop-i : goal.invariant-loop-i
invariant-loop-i l = l.programs.items ++ programs_from l.seen (drop l.i l.reads) ≡ programs_from l.seen l.reads
