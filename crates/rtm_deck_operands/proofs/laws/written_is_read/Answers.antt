use Rattle.rtm_deck_operands.specs.Slot.{canon_operands}
use Rattle.rtm_deck_operands.proofs.SlotReading.{table_parts, read_slots-spelled}
use Rattle.rtm_deck_operands.proofs.CanonTexts.{SpellsSlots-canon}
use Rattle.rtm_deck_operands.proofs.laws.written_is_read.Goals as goal

pub returns-clause-spelled : goal.returns-clause-spelled
returns-clause-spelled c = λ slots values made fit.
    let t = table_parts slots made in SpellsSlots-canon slots values t.made fit

pub returns-clause-read : goal.returns-clause-read
returns-clause-read c = λ slots values made fit.
    let t = table_parts slots made in
    read_slots-spelled slots (canon_operands slots values) values t.order t.made (SpellsSlots-canon slots values t.made fit)
