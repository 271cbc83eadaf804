-- The canonical text of a deck (this profile).
use Rattle.std.specs.Prelude.{ℕ, not, ◌==◌, List, [], ◌∷◌, ◌++◌, Option, length, map}
use Rattle.std.specs.List.{flat_map}
use Rattle.rtm_cards.specs.Text.{blank, line_feed}
use Rattle.rtm_deck_operands.specs.declared.value.Value.{Value}
use Rattle.rtm_deck_operands.specs.Slot.{canon_operands, field_of}
use Rattle.rtm_deck_items.specs.declared.form.CardForm.{CardForm}
use Rattle.rtm_deck_items.specs.Forms.{operation_of, slots_of}
use Rattle.rtm_deck_items.specs.View.{DeckView}
use Rattle.rtm_deck_items.specs.WellFormed.{has_region}
use Rattle.rtm_deck_items.specs.Items.{Item, Block, ProgramBlock, UnitBlock, form_of, values_of, name_of, items_of}

-- A card: its name or nothing, a blank, the operation, and where there are operands a blank and the operands between
-- commas, those at their default left out.
abbrev pub card_line : List ℕ → CardForm → List (Option Value) → List ℕ
card_line name form values = name ++ blank ∷ operation_of form ++ field_of (canon_operands (slots_of form) values)

-- the card that says the item, in the deck whose programs and units it names
abbrev pub item_line : DeckView → Item → List ℕ
item_line d item = card_line (name_of item) (form_of item) (values_of d item)

-- the programs before the units
abbrev pub canon_blocks : DeckView → List Block
canon_blocks d = map ProgramBlock d.programs ++ map UnitBlock d.units

-- REGION where the limit isn't the default or routines get no SDWA, the programs and the units in their order, OPER
-- where there is a command, END
abbrev pub canon_items : DeckView → List Item
canon_items d = items_of (has_region d.limit d.sdwa) (not (length d.commands == 0)) (canon_blocks d) d

-- the canonical text: a line for each card, ended by a line feed
abbrev pub canon : DeckView → List ℕ
canon d = flat_map (λ item. item_line d item ++ line_feed ∷ []) (canon_items d)
