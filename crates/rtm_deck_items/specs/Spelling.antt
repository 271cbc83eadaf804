-- How a deck is spelled: which bytes spell it, said apart from how they are read (this profile).
use Rattle.std.specs.Prelude.{◌≡◌, ℕ, Bool, true, IsTrue, not, ◌==◌, List, [], ◌∷◌, Option, length}
use Rattle.rtm_deck_operands.specs.declared.value.Value.{Value}
use Rattle.rtm_deck_operands.specs.declared.slot.Slot.{Slot}
use Rattle.rtm_deck_operands.specs.Slot.{SpellsSlots}
use Rattle.rtm_cards.specs.Limits.{default_entries}
use Rattle.rtm_cards.specs.Lines.{lines_of}
use Rattle.rtm_cards.specs.Cards.{CardText, cards_from}
use Rattle.rtm_cards.specs.Faults.{HasNoFault}
use Rattle.rtm_deck_items.specs.declared.deck.Unit.{Unit as UnitCard}
use Rattle.rtm_deck_items.specs.declared.form.CardForm.{CardForm}
use Rattle.rtm_deck_items.specs.Forms.{operation_of, slots_of, needs_some}
use Rattle.rtm_deck_items.specs.View.{ProgramView, DeckView}
use Rattle.rtm_deck_items.specs.Items.{Item, Block, ProgramBlock, UnitBlock, form_of, values_of, name_of, items_of}
use Rattle.rtm_deck_items.specs.WellFormed.{is_well_formed}

-- The operands spell the values of a form with these slots. What follows an operation without operands is a remark.
abbrev pub SpellsOperands : List Slot → List (List ℕ) → List (Option Value) → Type 0
SpellsOperands [] operands values = values ≡ []
SpellsOperands (slot ∷ slots) operands values = SpellsSlots (slot ∷ slots) operands values

-- The operands spell the values of the form, and some operand stands there where the form asks for one.
pub record SpellsForm (form : CardForm) (operands : List (List ℕ)) (values : List (Option Value)) : Type 0 where
  pub spelled : SpellsOperands (slots_of form) operands values
  pub some : IsTrue (needs_some form) → IsTrue (not (length operands == 0))

-- The card says the item, in the deck whose programs and units it names.
pub record SpellsItem (d : DeckView) (c : CardText) (item : Item) : Type 0 where
  pub name : c.name ≡ name_of item
  pub operation : c.op ≡ operation_of (form_of item)
  pub operands : SpellsForm (form_of item) c.operands (values_of d item)

-- Each card says the item that stands in its place.
abbrev pub SpellEach : DeckView → List CardText → List Item → Type 0
SpellEach d [] items = items ≡ []
SpellEach d (c ∷ cs) [] = ⊥
SpellEach d (c ∷ cs) (item ∷ items) = SpellsItem d c item × SpellEach d cs items

-- the programs among the blocks, in order
abbrev pub programs_in : List Block → List ProgramView
programs_in [] = []
programs_in (ProgramBlock program ∷ blocks) = program ∷ programs_in blocks
programs_in (UnitBlock unit ∷ blocks) = programs_in blocks

-- the units of work among the blocks, in order
abbrev pub units_in : List Block → List UnitCard
units_in [] = []
units_in (ProgramBlock program ∷ blocks) = units_in blocks
units_in (UnitBlock unit ∷ blocks) = unit ∷ units_in blocks

-- The cards, without comments and blank ones, spell the deck: an optional REGION, programs and units of work in any
-- order, an optional OPER with the commands, and END. Without REGION the limit is the default and routines get an SDWA,
-- without OPER there are no commands.
pub record SpellsDeck (cards : List CardText) (d : DeckView) : Type 0 where
  pub region : Bool
  pub oper : Bool
  pub blocks : List Block
  pub programs : programs_in blocks ≡ d.programs
  pub units : units_in blocks ≡ d.units
  pub limit : IsTrue (not region) → d.limit ≡ default_entries
  pub sdwa : IsTrue (not region) → d.sdwa ≡ true
  pub commands : IsTrue (not oper) → d.commands ≡ []
  pub each : SpellEach d cards (items_of region oper blocks d)

-- The bytes spell the deck: they can be cut into cards, which spell it, and it keeps the conditions on a deck alone.
pub record DeckText (bytes : List ℕ) (d : DeckView) : Type 0 where
  pub cut : HasNoFault bytes
  pub spelled : SpellsDeck (cards_from 1 (lines_of bytes)) d
  pub well_formed : IsTrue (is_well_formed d)

-- Some bytes spell the deck.
abbrev pub IsSpelled : DeckView → Type 0
IsSpelled d = ∥ ((bytes : List ℕ) × DeckText bytes d) ∥₁
