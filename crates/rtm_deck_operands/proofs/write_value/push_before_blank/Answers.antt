use Rattle.rtm_deck_operands.proofs.Written.{trimmed_text-more}
use Rattle.rtm_deck_operands.proofs.write_value.push_before_blank.Goals as goal

pub loop-byte-preserved : goal.loop-byte-preserved
loop-byte-preserved c = trimmed_text-more _ _ _ _ _ c.loop-byte-test.true c.if-byte-eq32.false c.loop-byte.invariant c.in_ok-push.ensures.items
