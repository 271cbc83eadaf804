-- The parts of a deck, found again among its items.
use Rattle.std.proofs.Common.{◌≡◌, ℕ, Bool, true, false, not, List, [], ◌∷◌, refl, ap, sym, ◌∙◌}
use Rattle.rtm_deck_items.specs.declared.deck.Line.{Line}
use Rattle.rtm_deck_items.specs.declared.deck.Unit.{Unit as UnitCard}
use Rattle.rtm_deck_items.specs.declared.deck.Command.{Command}
use Rattle.rtm_deck_items.specs.View.{ProgramView, DeckView}
use Rattle.rtm_deck_items.specs.Items.{Item, RegionCard, ProgramStart, ProgramCard, UnitOfWork, CommandCard, Block, ProgramBlock, UnitBlock, items_of}
use Rattle.rtm_deck_items.specs.Spelling.{programs_in, units_in, SpellsDeck}
use Rattle.rtm_cards.specs.Limits.{default_entries}
use Rattle.rtm_cards.specs.Cards.{CardText}
use Rattle.rtm_deck_spelling.proofs.LaidOut.{lines_then, blocks_then, commands_then_end, closing, opening, laid_out}

-- the limit and whether routines get an SDWA: of REGION, or the defaults
abbrev region_among : List Item → ℕ × Bool
region_among [] = (default_entries, true)
region_among (RegionCard limit sdwa ∷ items) = (limit, sdwa)
region_among (item ∷ items) = region_among items

abbrev lines_up_to_end : List Item → List Line
lines_up_to_end [] = []
lines_up_to_end (ProgramCard line ∷ items) = line ∷ lines_up_to_end items
lines_up_to_end (item ∷ items) = []

abbrev programs_among : List Item → List ProgramView
programs_among [] = []
programs_among (ProgramStart name ∷ items) = record { name = name; lines = lines_up_to_end items } ∷ programs_among items
programs_among (item ∷ items) = programs_among items

abbrev units_among : List Item → List UnitCard
units_among [] = []
units_among (UnitOfWork unit ∷ items) = unit ∷ units_among items
units_among (item ∷ items) = units_among items

abbrev commands_among : List Item → List Command
commands_among [] = []
commands_among (CommandCard command ∷ items) = command ∷ commands_among items
commands_among (item ∷ items) = commands_among items

-- the deck that the items are those of
abbrev pub deck_of : List Item → DeckView
deck_of items = record { limit = (region_among items).0; sdwa = (region_among items).1; programs = programs_among items; units = units_among items; commands = commands_among items }

lines_found : (lines : List Line) (rest : List Item) → lines_up_to_end (lines_then lines rest) ≡ lines
lines_found [] rest = refl
lines_found (line ∷ lines) rest = ap (λ (xs : List Line). line ∷ xs) (lines_found lines rest)

region_past_lines : (lines : List Line) (rest : List Item) → region_among (lines_then lines rest) ≡ region_among rest
region_past_lines [] rest = refl
region_past_lines (line ∷ lines) rest = region_past_lines lines rest

programs_past_lines : (lines : List Line) (rest : List Item) → programs_among (lines_then lines rest) ≡ programs_among rest
programs_past_lines [] rest = refl
programs_past_lines (line ∷ lines) rest = programs_past_lines lines rest

units_past_lines : (lines : List Line) (rest : List Item) → units_among (lines_then lines rest) ≡ units_among rest
units_past_lines [] rest = refl
units_past_lines (line ∷ lines) rest = units_past_lines lines rest

commands_past_lines : (lines : List Line) (rest : List Item) → commands_among (lines_then lines rest) ≡ commands_among rest
commands_past_lines [] rest = refl
commands_past_lines (line ∷ lines) rest = commands_past_lines lines rest

region_past_blocks : (blocks : List Block) (rest : List Item) → region_among (blocks_then blocks rest) ≡ region_among rest
region_past_blocks [] rest = refl
region_past_blocks (ProgramBlock p ∷ blocks) rest = region_past_lines p.lines (blocks_then blocks rest) ∙ region_past_blocks blocks rest
region_past_blocks (UnitBlock u ∷ blocks) rest = region_past_blocks blocks rest

commands_past_blocks : (blocks : List Block) (rest : List Item) → commands_among (blocks_then blocks rest) ≡ commands_among rest
commands_past_blocks [] rest = refl
commands_past_blocks (ProgramBlock p ∷ blocks) rest = commands_past_lines p.lines (blocks_then blocks rest) ∙ commands_past_blocks blocks rest
commands_past_blocks (UnitBlock u ∷ blocks) rest = commands_past_blocks blocks rest

same_program : (name : List ℕ) (ls ms : List Line) (ps qs : List ProgramView) → ls ≡ ms → ps ≡ qs → record { name = name; lines = ls } ∷ ps ≡ record { name = name; lines = ms } ∷ qs
same_program name ls ms ps qs e f = rw (e, f) refl

programs_found : (blocks : List Block) (rest : List Item) → programs_among rest ≡ [] → programs_among (blocks_then blocks rest) ≡ programs_in blocks
programs_found [] rest e = e
programs_found (ProgramBlock p ∷ blocks) rest e =
    same_program p.name (lines_up_to_end (lines_then p.lines (blocks_then blocks rest))) p.lines
    (programs_among (lines_then p.lines (blocks_then blocks rest))) (programs_in blocks)
    (lines_found p.lines (blocks_then blocks rest)) (programs_past_lines p.lines (blocks_then blocks rest) ∙ programs_found blocks rest e)
programs_found (UnitBlock u ∷ blocks) rest e = programs_found blocks rest e

units_found : (blocks : List Block) (rest : List Item) → units_among rest ≡ [] → units_among (blocks_then blocks rest) ≡ units_in blocks
units_found [] rest e = e
units_found (ProgramBlock p ∷ blocks) rest e = units_past_lines p.lines (blocks_then blocks rest) ∙ units_found blocks rest e
units_found (UnitBlock u ∷ blocks) rest e = ap (λ (xs : List UnitCard). u ∷ xs) (units_found blocks rest e)

no_region_among_commands : (commands : List Command) → region_among (commands_then_end commands) ≡ (default_entries, true)
no_region_among_commands [] = refl
no_region_among_commands (command ∷ commands) = no_region_among_commands commands

no_programs_among_commands : (commands : List Command) → programs_among (commands_then_end commands) ≡ []
no_programs_among_commands [] = refl
no_programs_among_commands (command ∷ commands) = no_programs_among_commands commands

no_units_among_commands : (commands : List Command) → units_among (commands_then_end commands) ≡ []
no_units_among_commands [] = refl
no_units_among_commands (command ∷ commands) = no_units_among_commands commands

commands_found : (commands : List Command) → commands_among (commands_then_end commands) ≡ commands
commands_found [] = refl
commands_found (command ∷ commands) = ap (λ (xs : List Command). command ∷ xs) (commands_found commands)

no_region_in_closing : (oper : Bool) (commands : List Command) → region_among (closing oper commands) ≡ (default_entries, true)
no_region_in_closing true commands = no_region_among_commands commands
no_region_in_closing false commands = refl

no_programs_in_closing : (oper : Bool) (commands : List Command) → programs_among (closing oper commands) ≡ []
no_programs_in_closing true commands = no_programs_among_commands commands
no_programs_in_closing false commands = refl

no_units_in_closing : (oper : Bool) (commands : List Command) → units_among (closing oper commands) ≡ []
no_units_in_closing true commands = no_units_among_commands commands
no_units_in_closing false commands = refl

commands_in_closing : (oper : Bool) (commands : List Command) → (not oper ≡ true → commands ≡ []) → commands_among (closing oper commands) ≡ commands
commands_in_closing true commands h = commands_found commands
commands_in_closing false commands h = sym (h refl)

region_laid : (region : Bool) (limit : ℕ) (sdwa : Bool) (rest : List Item) → region_among rest ≡ (default_entries, true)
    → (not region ≡ true → limit ≡ default_entries) → (not region ≡ true → sdwa ≡ true) → region_among (opening region limit sdwa rest) ≡ (limit, sdwa)
region_laid true limit sdwa rest e h g = refl
region_laid false limit sdwa rest e h g = e ∙ rw (h refl, g refl) refl

programs_laid : (region : Bool) (limit : ℕ) (sdwa : Bool) (rest : List Item) → programs_among (opening region limit sdwa rest) ≡ programs_among rest
programs_laid true limit sdwa rest = refl
programs_laid false limit sdwa rest = refl

units_laid : (region : Bool) (limit : ℕ) (sdwa : Bool) (rest : List Item) → units_among (opening region limit sdwa rest) ≡ units_among rest
units_laid true limit sdwa rest = refl
units_laid false limit sdwa rest = refl

commands_laid : (region : Bool) (limit : ℕ) (sdwa : Bool) (rest : List Item) → commands_among (opening region limit sdwa rest) ≡ commands_among rest
commands_laid true limit sdwa rest = refl
commands_laid false limit sdwa rest = refl

same_deck : (d : DeckView) (region : ℕ × Bool) (programs : List ProgramView) (units : List UnitCard) (commands : List Command)
    → region ≡ (d.limit, d.sdwa) → programs ≡ d.programs → units ≡ d.units → commands ≡ d.commands
    → record { limit = region.0; sdwa = region.1; programs = programs; units = units; commands = commands } ≡ d
same_deck d region programs units commands e f g h = rw (e, f, g, h) refl

-- a deck is what its items are those of
pub deck_found : (cards : List CardText) (d : DeckView) (s : SpellsDeck cards d) → deck_of (items_of s.region s.oper s.blocks d) ≡ d
deck_found cards d s =
    let rest = closing s.oper d.commands in
    let inner = blocks_then s.blocks rest in
    ap deck_of (laid_out s.region s.oper s.blocks d)
    ∙ same_deck d (region_among (opening s.region d.limit d.sdwa inner)) (programs_among (opening s.region d.limit d.sdwa inner)) (units_among (opening s.region d.limit d.sdwa inner)) (commands_among (opening s.region d.limit d.sdwa inner))
    (region_laid s.region d.limit d.sdwa inner (region_past_blocks s.blocks rest ∙ no_region_in_closing s.oper d.commands) s.limit s.sdwa)
    (programs_laid s.region d.limit d.sdwa inner ∙ (programs_found s.blocks rest (no_programs_in_closing s.oper d.commands) ∙ s.programs))
    (units_laid s.region d.limit d.sdwa inner ∙ (units_found s.blocks rest (no_units_in_closing s.oper d.commands) ∙ s.units))
    (commands_laid s.region d.limit d.sdwa inner ∙ (commands_past_blocks s.blocks rest ∙ commands_in_closing s.oper d.commands s.commands))
