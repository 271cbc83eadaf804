use Rattle.std.proofs.Common.{◌≡◌, drop, []}
use Rattle.rtm_deck.specs.inner.References.{first_nameless}
use Rattle.rtm_deck.proofs.find.find_names.Given as goal

-- the least card of those that are left is the least of all
abbrev pub invariant-loop-i : goal.invariant-loop-i
invariant-loop-i l = first_nameless l.seen l.own.keys (drop l.i l.reads) ≡ first_nameless l.seen [] l.reads
