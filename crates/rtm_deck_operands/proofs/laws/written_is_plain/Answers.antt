use Rattle.rtm_deck_operands.proofs.SlotReading.{table_parts}
use Rattle.rtm_deck_operands.proofs.CanonTexts.{canon_is_plain}
use Rattle.rtm_deck_operands.proofs.laws.written_is_plain.Goals as goal

pub returns : goal.returns
returns c = λ slots values made fit.
    let t = table_parts slots made in canon_is_plain slots values t.made fit
