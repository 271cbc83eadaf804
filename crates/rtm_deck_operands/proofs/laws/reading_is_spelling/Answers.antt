use Rattle.rtm_deck_operands.proofs.SlotReading.{table_parts, read_slots-Some, read_slots-spelled}
use Rattle.rtm_deck_operands.proofs.laws.reading_is_spelling.Goals as goal

pub returns : goal.returns
returns c = λ slots operands values made.
    let t = table_parts slots made in
    (read_slots-Some slots operands values, read_slots-spelled slots operands values t.order t.made)
