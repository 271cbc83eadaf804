use Rattle.std.proofs.Common.{sym, ◌∙◌}
use Rattle.std.proofs.lemmas.Option.{same_Some}
use Rattle.rtm_deck_operands.proofs.SlotReading.{table_parts, read_slots-spelled}
use Rattle.rtm_deck_operands.proofs.laws.spelling_is_unique.Goals as goal

pub returns : goal.returns
returns c = λ slots operands values others made s t.
    let p = table_parts slots made in
    same_Some values others
    (sym (read_slots-spelled slots operands values p.order p.made s) ∙ read_slots-spelled slots operands others p.order p.made t)
