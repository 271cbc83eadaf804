use Rattle.rtm_deck_operands.proofs.CanonTexts.{separated_operands-join}
use Rattle.rtm_deck_operands.proofs.laws.fields_are_joined.Goals as goal

pub returns : goal.returns
returns c = separated_operands-join 32
