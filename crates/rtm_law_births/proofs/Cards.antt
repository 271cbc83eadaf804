-- Cards of a well formed deck name units that are there.
use Rattle.std.proofs.Common.{◌≡◌, ℕ, ◌<◌, Bool, false, not, ◌&&◌, List, length, Option, Some, None, refl}
use Rattle.std.proofs.lemmas.Option.{slice_get_within}
use Rattle.std.specs.Option.{option_map_or}
use Rattle.std.specs.Prelude.{IsTrue, slice_get}
use Rattle.rtm_deck_items.specs.declared.deck.Line.{Line}
use Rattle.rtm_deck_items.specs.declared.op.Op.{Op}
use Rattle.rtm_deck_items.specs.declared.op.Op.TheVariants.{Attachx, Schedule}
use Rattle.rtm_deck_items.specs.Reading.{is_task_card, lines_of, op_at}
use Rattle.rtm_deck_items.specs.View.{DeckView}
use Rattle.rtm_deck_items.specs.WellFormed.{is_op, is_program_or_none, is_task_in, is_well_formed}
use Rattle.rtm_model.proofs.Lists.{both_true}
use Rattle.rtm_model.proofs.SetrpCards.{op_fits}

-- the unit that the card brings to life is there
abbrev pub NamesUnit : DeckView → Op → Type 0
NamesUnit d (Attachx unit estai term) = unit < length d.units
NamesUnit d (Schedule unit) = unit < length d.units
NamesUnit d _ = Unit {0}

there_if : {A : Type 0} (test : A → Bool) (xs : List A) (i : ℕ) (o : Option A) → slice_get xs i ≡ o → IsTrue (option_map_or test o false) → i < length xs
there_if test xs i None e h = absurd cc
there_if test xs i (Some x) e h = slice_get_within xs i x e

names_unit : (d : DeckView) (lines : List Line) (op : Op) → IsTrue (is_op d lines op) → NamesUnit d op
names_unit d lines (Attachx unit estai term) h =
    let both = (both_true (is_task_in d unit && is_program_or_none d estai) _ h).0 in
    there_if is_task_card d.units unit (slice_get d.units unit) refl (both_true (is_task_in d unit) (is_program_or_none d estai) both).0
names_unit d lines (Schedule unit) h = there_if (λ card. not (is_task_card card)) d.units unit (slice_get d.units unit) refl h
names_unit d lines _ h = tt

pub unit_named : (d : DeckView) → IsTrue (is_well_formed d) → (prog op : ℕ) → NamesUnit d (op_at d prog op)
unit_named d h prog op = names_unit d (lines_of d prog) (op_at d prog op) (op_fits d h prog op)
