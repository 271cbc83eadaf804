-- The text of a deck is that of its parts.
use Rattle.std.proofs.Common.{◌≡◌, ℕ, Bool, true, false, eqb, not, List, [], ◌∷◌, ◌++◌, length, map, refl, sym, ap, ◌∙◌, append_assoc}
use Rattle.std.specs.Prelude.{if◌then◌else◌}
use Rattle.std.specs.List.{flat_map}
use Rattle.std.proofs.lemmas.Grind.{flat_map-append}
use Rattle.std.proofs.lemmas.List.{append-nil}
use Rattle.std.proofs.lemmas.List.Folds.{flat_map-map}
use Rattle.rtm_deck_items.specs.declared.deck.Unit.{Unit as UnitCard}
use Rattle.rtm_deck_items.specs.declared.deck.Command.{Command}
use Rattle.rtm_deck_items.specs.View.{ProgramView, DeckView}
use Rattle.rtm_deck_items.specs.Items.{Item, RegionCard, ProgramStart, ProgramCard, ProgramEnd, CommandsStart, CommandCard, DeckEnd, ProgramBlock, UnitBlock, items_of_block, opening_items, closing_items}
use Rattle.rtm_deck_items.specs.WellFormed.{has_region}
use Rattle.rtm_deck_items.specs.Canon.{canon_blocks, canon}
use Rattle.rtm_deck_canon.specs.Text.{item_text, region_text, line_text, program_text, unit_text, command_text, commands_text, whole_text}

-- the text of some items, one after the other
abbrev texts : DeckView → List Item → List ℕ
texts d items = flat_map (item_text d) items

opening : (d : DeckView) → texts d (opening_items (has_region d.limit d.sdwa) d.limit d.sdwa) ≡ region_text d
opening d = go (has_region d.limit d.sdwa)
  where
    go : (t : Bool) → texts d (if t then RegionCard d.limit d.sdwa ∷ [] else []) ≡ (if t then item_text d (RegionCard d.limit d.sdwa) else [])
    go true = append-nil (item_text d (RegionCard d.limit d.sdwa))
    go false = refl

program : (d : DeckView) (p : ProgramView) → texts d (items_of_block (ProgramBlock p)) ≡ program_text d p
program d p =
    flat_map-append (item_text d) (ProgramStart p.name ∷ map ProgramCard p.lines) (ProgramEnd ∷ [])
    ∙ ap (λ (t : List ℕ). item_text d (ProgramStart p.name) ++ t ++ (item_text d ProgramEnd ++ [])) (flat_map-map (item_text d) ProgramCard p.lines)
    ∙ ap (λ (t : List ℕ). item_text d (ProgramStart p.name) ++ flat_map (line_text d) p.lines ++ t) (append-nil (item_text d ProgramEnd))

programs : (d : DeckView) (ps : List ProgramView) → texts d (flat_map items_of_block (map ProgramBlock ps)) ≡ flat_map (program_text d) ps
programs d [] = refl
programs d (p ∷ ps) =
    flat_map-append (item_text d) (items_of_block (ProgramBlock p)) (flat_map items_of_block (map ProgramBlock ps))
    ∙ ap (λ (t : List ℕ). t ++ texts d (flat_map items_of_block (map ProgramBlock ps))) (program d p)
    ∙ ap (λ (t : List ℕ). program_text d p ++ t) (programs d ps)

units : (d : DeckView) (us : List UnitCard) → texts d (flat_map items_of_block (map UnitBlock us)) ≡ flat_map (unit_text d) us
units d [] = refl
units d (u ∷ us) = ap (λ (t : List ℕ). unit_text d u ++ t) (units d us)

closing : (d : DeckView) (cs : List Command) → texts d (closing_items (not (eqb (length cs) 0)) cs) ≡ commands_text d cs
closing d cs = go (eqb (length cs) 0)
  where
    go : (t : Bool) → texts d (if not t then CommandsStart ∷ map CommandCard cs else []) ≡ (if t then [] else item_text d CommandsStart ++ flat_map (command_text d) cs)
    go true = refl
    go false = ap (λ (t : List ℕ). item_text d CommandsStart ++ t) (flat_map-map (item_text d) CommandCard cs)

blocks : (d : DeckView) → texts d (flat_map items_of_block (canon_blocks d)) ≡ flat_map (program_text d) d.programs ++ flat_map (unit_text d) d.units
blocks d =
    ap (texts d) (flat_map-append items_of_block (map ProgramBlock d.programs) (map UnitBlock d.units))
    ∙ flat_map-append (item_text d) (flat_map items_of_block (map ProgramBlock d.programs)) (flat_map items_of_block (map UnitBlock d.units))
    ∙ ap (λ (t : List ℕ). t ++ texts d (flat_map items_of_block (map UnitBlock d.units))) (programs d d.programs)
    ∙ ap (λ (t : List ℕ). flat_map (program_text d) d.programs ++ t) (units d d.units)

-- four lists of items, one after the other
four : (d : DeckView) (a b c e : List Item) → texts d (a ++ b ++ c ++ e) ≡ texts d a ++ texts d b ++ texts d c ++ texts d e
four d a b c e =
    flat_map-append (item_text d) (a ++ b ++ c) e
    ∙ ap (λ (t : List ℕ). t ++ texts d e) (flat_map-append (item_text d) (a ++ b) c)
    ∙ ap (λ (t : List ℕ). t ++ texts d c ++ texts d e) (flat_map-append (item_text d) a b)

-- the canonical text, part by part
pub canon_parts : (d : DeckView) → canon d ≡ whole_text d
canon_parts d =
    four d (opening_items (has_region d.limit d.sdwa) d.limit d.sdwa) (flat_map items_of_block (canon_blocks d)) (closing_items (not (eqb (length d.commands) 0)) d.commands) (DeckEnd ∷ [])
    ∙ ap (λ (t : List ℕ). t ++ texts d (flat_map items_of_block (canon_blocks d)) ++ texts d (closing_items (not (eqb (length d.commands) 0)) d.commands) ++ texts d (DeckEnd ∷ [])) (opening d)
    ∙ ap (λ (t : List ℕ). region_text d ++ t ++ texts d (closing_items (not (eqb (length d.commands) 0)) d.commands) ++ texts d (DeckEnd ∷ [])) (blocks d)
    ∙ ap (λ (t : List ℕ). region_text d ++ (flat_map (program_text d) d.programs ++ flat_map (unit_text d) d.units) ++ t ++ texts d (DeckEnd ∷ [])) (closing d d.commands)
    ∙ ap (λ (t : List ℕ). region_text d ++ (flat_map (program_text d) d.programs ++ flat_map (unit_text d) d.units) ++ commands_text d d.commands ++ t) (append-nil (item_text d DeckEnd))
    ∙ ap (λ (t : List ℕ). t ++ commands_text d d.commands ++ item_text d DeckEnd) (sym (append_assoc (region_text d) (flat_map (program_text d) d.programs) (flat_map (unit_text d) d.units)))

-- what is written one part after the other is the canonical text
pub written : (d : DeckView) (a b c e f : List ℕ) → a ≡ region_text d → b ≡ a ++ flat_map (program_text d) d.programs → c ≡ b ++ flat_map (unit_text d) d.units
    → e ≡ c ++ commands_text d d.commands → f ≡ e ++ item_text d DeckEnd → f ≡ canon d
written d a b c e f p q r s t =
    t ∙ ap (λ (x : List ℕ). x ++ item_text d DeckEnd) (s ∙ ap (λ (x : List ℕ). x ++ commands_text d d.commands) (r ∙ ap (λ (x : List ℕ). x ++ flat_map (unit_text d) d.units)
    (q ∙ ap (λ (x : List ℕ). x ++ flat_map (program_text d) d.programs) p))) ∙ sym (canon_parts d)
