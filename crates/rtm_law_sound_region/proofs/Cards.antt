-- Each card of a well formed deck may stand there.
use Rattle.std.proofs.Common.{◌≡◌, ℕ, ◌<◌, Bool, false, not, List, length, Option, Some, None, refl}
use Rattle.std.specs.Prelude.{slice_get, IsTrue}
use Rattle.std.specs.Option.{option_map_or}
use Rattle.std.proofs.lemmas.Bool.{ltb-true}
use Rattle.std.proofs.lemmas.Option.{slice_get_within}
use Rattle.rtm_deck_items.specs.declared.deck.Line.{Line}
use Rattle.rtm_deck_items.specs.declared.deck.Unit.{Unit as UnitCard}
use Rattle.rtm_deck_items.specs.declared.op.Op.{Op}
use Rattle.rtm_deck_items.specs.View.{DeckView}
use Rattle.rtm_deck_items.specs.Reading.{is_task_card, lines_of, op_at}
use Rattle.rtm_deck_items.specs.WellFormed.{is_well_formed, is_op, is_program, is_srb_in, is_task_in}
use Rattle.rtm_model.proofs.SetrpCards.{op_fits}

-- the card may stand among some cards
pub record IsCard (d : DeckView) (op : Op) : Type 0 where
  pub lines : List Line
  pub fits : IsTrue (is_op d lines op)

-- the card that stands at an operation of a well formed deck; behind the last card it is RETURN
pub card_at : (d : DeckView) → IsTrue (is_well_formed d) → (prog op : ℕ) → IsCard d (op_at d prog op)
card_at d h prog op = record { lines = lines_of d prog; fits = op_fits d h prog op }

-- what the tests of a card say

pub program_in : (d : DeckView) (prog : ℕ) → IsTrue (is_program d prog) → prog < length d.programs
program_in d prog h = ltb-true _ _ h

unit_if : (d : DeckView) (unit : ℕ) (test : UnitCard → Bool) (o : Option UnitCard) → slice_get d.units unit ≡ o → IsTrue (option_map_or test o false) → unit < length d.units
unit_if d unit test None e h = absurd cc
unit_if d unit test (Some card) e h = slice_get_within d.units unit card e

pub task_in : (d : DeckView) (unit : ℕ) → IsTrue (is_task_in d unit) → unit < length d.units
task_in d unit h = unit_if d unit is_task_card (slice_get d.units unit) refl h

pub srb_in : (d : DeckView) (unit : ℕ) → IsTrue (is_srb_in d unit) → unit < length d.units
srb_in d unit h = unit_if d unit (λ card. not (is_task_card card)) (slice_get d.units unit) refl h
