use Rattle.std.proofs.Common.{◌-◌}
use Rattle.rtm_cards.proofs.Parts.{IsCutSoFar}
use Rattle.rtm_cards.proofs.operands.operands_of.Given as goal

-- the operands so far, with those of what is left, are all
abbrev pub invariant-parts : goal.invariant-parts
invariant-parts l = IsCutSoFar l.bytes l.fn.field l.operands.items l.rest

abbrev pub decreases-parts : goal.decreases-parts
decreases-parts l = l.rest.to - l.rest.from
