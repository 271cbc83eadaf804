use Rattle.std.proofs.Common.{◌-◌}
use Rattle.rtm_cards.proofs.CutTo.{IsCutTo}
use Rattle.rtm_cards.proofs.cut.cut_lines.Given as goal

abbrev pub invariant-cards : goal.invariant-cards
invariant-cards l = IsCutTo l.bytes l.cards.items l.lines l.rest

abbrev pub decreases-cards : goal.decreases-cards
decreases-cards l = l.rest.to - l.rest.from
