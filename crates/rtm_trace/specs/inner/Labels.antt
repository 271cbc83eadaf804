-- The names of a deck's units and programs, each with what stands around it on lines.
use Rattle.std.specs.Prelude.{ℕ, List, [], ◌∷◌, ◌++◌, codes, map}
use Rattle.rtm_deck_items.specs.declared.deck.Unit.{Unit as UnitCard}
use Rattle.rtm_deck_items.specs.View.{ProgramView, DeckView}
use Rattle.rtm_deck_operands.specs.Name.{trimmed_text}

-- each unit behind a blank and before those bytes, and the master last
abbrev pub unit_label : List ℕ → UnitCard → List ℕ
unit_label behind unit = codes " " ++ trimmed_text unit.name ++ behind

abbrev pub unit_labels : List ℕ → List UnitCard → List (List ℕ)
unit_labels behind units = map (unit_label behind) units ++ (codes " *" ++ behind) ∷ []

abbrev pub program_label : ProgramView → List ℕ
program_label program = trimmed_text program.name ++ codes "."

abbrev pub program_labels : List ProgramView → List (List ℕ)
program_labels programs = map program_label programs

pub record LabelsView : Type 0 where
  pub units : List (List ℕ)
  pub execs : List (List ℕ)
  pub programs : List (List ℕ)

abbrev pub labels_of : DeckView → LabelsView
labels_of d = record {
  units = unit_labels (codes " ") d.units;
  execs = unit_labels (codes " EXEC ") d.units;
  programs = program_labels d.programs;
}
