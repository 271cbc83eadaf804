-- The labels of a deck, looked up.
use Rattle.std.proofs.Common.{◌≡◌, ℕ, zero, suc, ◌<◌, ◌≤◌, List, [], ◌∷◌, ◌++◌, length, refl, ap, ◌∙◌, arith}
use Rattle.std.specs.Prelude.{◌==◌, if◌then◌else◌, codes, slice_get, slice_index_or}
use Rattle.std.proofs.Math.Dec.{eqb-zero-suc, eqb-suc-suc}
use Rattle.rtm_deck_items.specs.declared.deck.Unit.{Unit as UnitCard}
use Rattle.rtm_deck_items.specs.View.{ProgramView, DeckView}
use Rattle.rtm_trace.specs.Text.{name_in, program_in, unit_text}
use Rattle.rtm_trace.specs.inner.Labels.{LabelsView, labels_of, program_labels, unit_labels}

unit_at : (back : List ℕ) (units : List UnitCard) (u : ℕ) (x : List ℕ) → u ≤ length units
    → slice_index_or (unit_labels back units) u x ≡ codes " " ++ (if u == length units then 42 ∷ [] else name_in (slice_get units u)) ++ back
unit_at back [] zero x h = refl
unit_at back [] (suc u) x h = absurd (omega arith)
unit_at back (c ∷ cs) zero x h = rw (eqb-zero-suc (length cs)) refl
unit_at back (c ∷ cs) (suc u) x h = rw (eqb-suc-suc u (length cs)) (unit_at back cs u x (omega arith))

program_at : (programs : List ProgramView) (i : ℕ) (x : List ℕ) → i < length programs → slice_index_or (program_labels programs) i x ≡ program_in (slice_get programs i) ++ codes "."
program_at [] i x h = absurd (omega arith)
program_at (p ∷ ps) zero x h = refl
program_at (p ∷ ps) (suc i) x h = program_at ps i x (omega arith)

-- what the labels of a deck say
pub unit_said : (labels : LabelsView) (d : DeckView) (u : ℕ) (x : List ℕ) → labels ≡ labels_of d → u ≤ length d.units → slice_index_or labels.units u x ≡ codes " " ++ unit_text d u ++ codes " "
unit_said labels d u x e h = ap (λ (l : LabelsView). slice_index_or l.units u x) e ∙ unit_at (codes " ") d.units u x h

pub exec_said : (labels : LabelsView) (d : DeckView) (u : ℕ) (x : List ℕ) → labels ≡ labels_of d → u ≤ length d.units → slice_index_or labels.execs u x ≡ codes " " ++ unit_text d u ++ codes " EXEC "
exec_said labels d u x e h = ap (λ (l : LabelsView). slice_index_or l.execs u x) e ∙ unit_at (codes " EXEC ") d.units u x h

pub program_said : (labels : LabelsView) (d : DeckView) (i : ℕ) (x : List ℕ) → labels ≡ labels_of d → i < length d.programs → slice_index_or labels.programs i x ≡ program_in (slice_get d.programs i) ++ codes "."
program_said labels d i x e h = ap (λ (l : LabelsView). slice_index_or l.programs i x) e ∙ program_at d.programs i x h
