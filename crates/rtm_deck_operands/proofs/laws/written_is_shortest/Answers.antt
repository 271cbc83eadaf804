use Rattle.rtm_deck_operands.proofs.CanonTexts.{field-shortest}
use Rattle.rtm_deck_operands.proofs.laws.written_is_shortest.Goals as goal

pub returns : goal.returns
returns c = field-shortest
