-- The items of a deck, laid out one behind the other.
use Rattle.std.proofs.Common.{◌≡◌, ℕ, Bool, true, false, List, [], ◌∷◌, ◌++◌, map, refl, ap, ◌∙◌, append_assoc}
use Rattle.std.specs.List.{flat_map}
use Rattle.rtm_deck_items.specs.declared.deck.Line.{Line}
use Rattle.rtm_deck_items.specs.declared.deck.Command.{Command}
use Rattle.rtm_deck_items.specs.View.{DeckView}
use Rattle.rtm_deck_items.specs.Items.{Item, RegionCard, ProgramStart, ProgramCard, ProgramEnd, UnitOfWork, CommandsStart, CommandCard, DeckEnd, Block, ProgramBlock, UnitBlock, items_of_block, opening_items, closing_items, items_of}

-- the cards of a program that follow PROG, and what follows PEND
abbrev pub lines_then : List Line → List Item → List Item
lines_then [] rest = ProgramEnd ∷ rest
lines_then (line ∷ lines) rest = ProgramCard line ∷ lines_then lines rest

-- programs and units, and what follows them
abbrev pub blocks_then : List Block → List Item → List Item
blocks_then [] rest = rest
blocks_then (ProgramBlock p ∷ blocks) rest = ProgramStart p.name ∷ lines_then p.lines (blocks_then blocks rest)
blocks_then (UnitBlock u ∷ blocks) rest = UnitOfWork u ∷ blocks_then blocks rest

-- commands, and END
abbrev pub commands_then_end : List Command → List Item
commands_then_end [] = DeckEnd ∷ []
commands_then_end (command ∷ commands) = CommandCard command ∷ commands_then_end commands

-- what follows programs and units
abbrev pub closing : Bool → List Command → List Item
closing true commands = CommandsStart ∷ commands_then_end commands
closing false commands = DeckEnd ∷ []

-- REGION where it is given, and what follows it
abbrev pub opening : Bool → ℕ → Bool → List Item → List Item
opening true limit sdwa rest = RegionCard limit sdwa ∷ rest
opening false limit sdwa rest = rest

-- all items of a deck
abbrev pub laid : Bool → Bool → List Block → DeckView → List Item
laid region oper blocks d = opening region d.limit d.sdwa (blocks_then blocks (closing oper d.commands))

lines_laid : (lines : List Line) (rest : List Item) → (map ProgramCard lines ++ ProgramEnd ∷ []) ++ rest ≡ lines_then lines rest
lines_laid [] rest = refl
lines_laid (line ∷ lines) rest = ap (λ (xs : List Item). ProgramCard line ∷ xs) (lines_laid lines rest)

blocks_laid : (blocks : List Block) (rest : List Item) → flat_map items_of_block blocks ++ rest ≡ blocks_then blocks rest
blocks_laid [] rest = refl
blocks_laid (ProgramBlock p ∷ blocks) rest =
    append_assoc (items_of_block (ProgramBlock p)) (flat_map items_of_block blocks) rest
    ∙ (ap (λ (xs : List Item). items_of_block (ProgramBlock p) ++ xs) (blocks_laid blocks rest)
    ∙ ap (λ (xs : List Item). ProgramStart p.name ∷ xs) (lines_laid p.lines (blocks_then blocks rest)))
blocks_laid (UnitBlock u ∷ blocks) rest = ap (λ (xs : List Item). UnitOfWork u ∷ xs) (blocks_laid blocks rest)

commands_laid : (commands : List Command) → map CommandCard commands ++ DeckEnd ∷ [] ≡ commands_then_end commands
commands_laid [] = refl
commands_laid (command ∷ commands) = ap (λ (xs : List Item). CommandCard command ∷ xs) (commands_laid commands)

closing_laid : (oper : Bool) (commands : List Command) → closing_items oper commands ++ DeckEnd ∷ [] ≡ closing oper commands
closing_laid true commands = ap (λ (xs : List Item). CommandsStart ∷ xs) (commands_laid commands)
closing_laid false commands = refl

regrouped : (a b c e : List Item) → ((a ++ b) ++ c) ++ e ≡ a ++ (b ++ (c ++ e))
regrouped a b c e = simp append_assoc

opening_laid : (region : Bool) (limit : ℕ) (sdwa : Bool) (rest : List Item) → opening_items region limit sdwa ++ rest ≡ opening region limit sdwa rest
opening_laid true limit sdwa rest = refl
opening_laid false limit sdwa rest = refl

pub laid_out : (region oper : Bool) (blocks : List Block) (d : DeckView) → items_of region oper blocks d ≡ laid region oper blocks d
laid_out region oper blocks d =
    regrouped (opening_items region d.limit d.sdwa) (flat_map items_of_block blocks) (closing_items oper d.commands) (DeckEnd ∷ [])
    ∙ (ap (λ (xs : List Item). opening_items region d.limit d.sdwa ++ (flat_map items_of_block blocks ++ xs)) (closing_laid oper d.commands)
    ∙ (ap (λ (xs : List Item). opening_items region d.limit d.sdwa ++ xs) (blocks_laid blocks (closing oper d.commands))
    ∙ opening_laid region d.limit d.sdwa (blocks_then blocks (closing oper d.commands))))
