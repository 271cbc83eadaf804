-- The text of parts of a deck: a line for each card, ended by a line feed.
use Rattle.std.specs.Prelude.{ℕ, ◌==◌, List, [], ◌∷◌, ◌++◌, length, if◌then◌else◌}
use Rattle.std.specs.List.{flat_map}
use Rattle.rtm_cards.specs.Text.{line_feed}
use Rattle.rtm_deck_items.specs.declared.deck.Line.{Line}
use Rattle.rtm_deck_items.specs.declared.deck.Unit.{Unit as UnitCard}
use Rattle.rtm_deck_items.specs.declared.deck.Command.{Command}
use Rattle.rtm_deck_items.specs.View.{ProgramView, DeckView}
use Rattle.rtm_deck_items.specs.WellFormed.{has_region}
use Rattle.rtm_deck_items.specs.Items.{Item, RegionCard, ProgramStart, ProgramCard, ProgramEnd, UnitOfWork, CommandsStart, CommandCard, DeckEnd}
use Rattle.rtm_deck_items.specs.Canon.{item_line}

-- the card that says the item, with its line feed
abbrev pub item_text : DeckView → Item → List ℕ
item_text d item = item_line d item ++ line_feed ∷ []

-- REGION, where it has to stand there
abbrev pub region_text : DeckView → List ℕ
region_text d = if has_region d.limit d.sdwa then item_text d (RegionCard d.limit d.sdwa) else []

abbrev pub line_text : DeckView → Line → List ℕ
line_text d line = item_text d (ProgramCard line)

-- PROG, the cards of the program, and PEND
abbrev pub program_text : DeckView → ProgramView → List ℕ
program_text d p = item_text d (ProgramStart p.name) ++ flat_map (line_text d) p.lines ++ item_text d ProgramEnd

abbrev pub unit_text : DeckView → UnitCard → List ℕ
unit_text d unit = item_text d (UnitOfWork unit)

abbrev pub command_text : DeckView → Command → List ℕ
command_text d command = item_text d (CommandCard command)

-- OPER and the commands, where there are any
abbrev pub commands_text : DeckView → List Command → List ℕ
commands_text d commands =
    if length commands == 0 then [] else item_text d CommandsStart ++ flat_map (command_text d) commands

-- the text of the whole deck
abbrev pub whole_text : DeckView → List ℕ
whole_text d =
    region_text d ++ flat_map (program_text d) d.programs ++ flat_map (unit_text d) d.units
    ++ commands_text d d.commands ++ item_text d DeckEnd
