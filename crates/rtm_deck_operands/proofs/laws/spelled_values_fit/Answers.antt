use Rattle.rtm_deck_operands.proofs.SlotReading.{table_parts, slots_fit-spelled}
use Rattle.rtm_deck_operands.proofs.laws.spelled_values_fit.Goals as goal

pub returns : goal.returns
returns c = λ slots operands values made s.
    let t = table_parts slots made in slots_fit-spelled slots operands values t.made s
