-- Items whose values fit the slots of their form, which can be written on a card.
use Rattle.std.specs.Prelude.{Bool}
use Rattle.std.specs.List.{list_all}
use Rattle.rtm_deck_operands.specs.Slot.{slots_fit}
use Rattle.rtm_deck_items.specs.declared.deck.Line.{Line}
use Rattle.rtm_deck_items.specs.declared.deck.Unit.{Unit as UnitCard}
use Rattle.rtm_deck_items.specs.declared.deck.Command.{Command}
use Rattle.rtm_deck_items.specs.Forms.{slots_of}
use Rattle.rtm_deck_items.specs.View.{ProgramView, DeckView}
use Rattle.rtm_deck_items.specs.Items.{Item, ProgramCard, UnitOfWork, CommandCard, form_of, values_of}

-- the values of the item fit their slots
abbrev pub item_fits : DeckView → Item → Bool
item_fits d item = slots_fit (slots_of (form_of item)) (values_of d item)

abbrev pub line_fits : DeckView → Line → Bool
line_fits d line = item_fits d (ProgramCard line)

abbrev pub program_fits : DeckView → ProgramView → Bool
program_fits d p = list_all (line_fits d) p.lines

abbrev pub unit_fits : DeckView → UnitCard → Bool
unit_fits d unit = item_fits d (UnitOfWork unit)

abbrev pub command_fits : DeckView → Command → Bool
command_fits d command = item_fits d (CommandCard command)
