-- What is known of the operands of a card that is written.
use Rattle.std.proofs.Common.{ℕ, ◌<◌, List, [], ◌∷◌, length, Option, refl, arith}
use Rattle.std.specs.Prelude.{IsTrue}
use Rattle.std.specs.List.{list_all, AllByRecursion}
use Rattle.std.proofs.lemmas.Bool.{and_parts}
use Rattle.rtm_deck_operands.specs.declared.value.Value.{Value}
use Rattle.rtm_deck_operands.specs.declared.slot.Slot.{Slot}
use Rattle.rtm_deck_operands.specs.Slot.{SpellsSlots, FitsSlots, IsWellMade, canon_operands, is_operand_byte, is_operand_text, well_made}
use Rattle.rtm_deck_operands.proofs.SlotReading.{table_parts}
use Rattle.rtm_deck_operands.proofs.CanonTexts.{SpellsSlots-canon, canon_is_plain}
use Rattle.rtm_deck_items.specs.declared.form.CardForm.{CardForm}
use Rattle.rtm_deck_items.specs.declared.form.CardForm.TheVariants.{Region}
use Rattle.rtm_deck_items.specs.Forms.{slots_of}
use Rattle.rtm_deck_canon.proofs.Each.{each}

-- a text that can stand between commas
abbrev pub IsPlain : List ℕ → Type 0
IsPlain text = (0 < length text) × IsTrue (list_all is_operand_byte text)

-- the table of each form can be read
pub slots_well_made : (form : CardForm) → IsTrue (well_made (slots_of form))
slots_well_made Region = refl
slots_well_made _ = refl

-- what is written spells the values
pub canon_spelled : (slots : List Slot) (given : List (Option Value)) → IsWellMade slots → FitsSlots slots given → SpellsSlots slots (canon_operands slots given) given
canon_spelled slots given made fit = SpellsSlots-canon slots given (table_parts slots made).made fit

plain_text : (text : List ℕ) → IsTrue (is_operand_text text) → IsPlain text
plain_text [] h = absurd cc
plain_text (b ∷ bs) h = (omega arith, (and_parts _ (list_all is_operand_byte (b ∷ bs)) h).1)

-- what is written stands between commas as it is
pub canon_plain : (slots : List Slot) (given : List (Option Value)) → IsWellMade slots → FitsSlots slots given → AllByRecursion IsPlain (canon_operands slots given)
canon_plain slots given made fit =
    each (λ (text : List ℕ). IsTrue (is_operand_text text)) IsPlain plain_text (canon_operands slots given) (canon_is_plain slots given (table_parts slots made).made fit)
