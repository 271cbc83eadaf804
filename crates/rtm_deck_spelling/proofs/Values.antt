-- Operands spell at most one list of values for a table that can be read.
use Rattle.std.proofs.Common.{◌≡◌, ℕ, List, Option, sym, ◌∙◌}
use Rattle.std.proofs.lemmas.Option.{same_Some}
use Rattle.rtm_deck_operands.specs.declared.value.Value.{Value}
use Rattle.rtm_deck_operands.specs.declared.slot.Slot.{Slot}
use Rattle.rtm_deck_operands.specs.Slot.{SpellsSlots, IsWellMade}
use Rattle.rtm_deck_operands.proofs.SlotReading.{table_parts, read_slots-spelled}

pub one_list_of_values : (slots : List Slot) (operands : List (List ℕ)) (vs ws : List (Option Value))
    → IsWellMade slots → SpellsSlots slots operands vs → SpellsSlots slots operands ws → vs ≡ ws
one_list_of_values slots operands vs ws made p q =
    let t = table_parts slots made in
    same_Some vs ws (sym (read_slots-spelled slots operands vs t.order t.made p) ∙ read_slots-spelled slots operands ws t.order t.made q)
