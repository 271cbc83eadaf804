use Rattle.std.proofs.Common.{◌≡◌, ◌++◌, drop}
use Rattle.rtm_deck.specs.inner.Building.{commands_from}
use Rattle.rtm_deck.proofs.build.commands_of.Given as goal

-- with the commands that are left, these are all
abbrev pub invariant-loop-read : goal.invariant-loop-read
invariant-loop-read l = l.commands.items ++ commands_from l.seen (drop l.read-index l.reads) ≡ commands_from l.seen l.reads
