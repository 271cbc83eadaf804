-- Places of a well formed deck: where a card may lead.
use Rattle.std.proofs.Common.{◌≡◌, ℕ, ◌+◌, ◌-◌, ◌<◌, ◌≤◌, Bool, true, false, List, [], ◌∷◌, length, Option, Some, None, refl, sym, subst, ap, arith}
use Rattle.std.specs.Prelude.{IfSome, position, slice_get, ◌==◌, if◌then◌else◌}
use Rattle.std.specs.Option.{option_map, option_map_or}
use Rattle.std.proofs.lemmas.Option.{slice_get_past, slice_get_within}
use Rattle.rtm_deck_items.specs.declared.deck.Line.{Line}
use Rattle.rtm_deck_items.specs.declared.op.Op.{Op}
use Rattle.rtm_deck_items.specs.declared.op.Op.TheVariants as ops
use Rattle.rtm_deck_items.specs.View.{ProgramView, DeckView}
use Rattle.rtm_deck_items.specs.Reading.{carries, label_at, lines_in, lines_of, op_at, op_in}
use Rattle.rtm_model.specs.declared.block.Place.{Place}
use Rattle.rtm_model.specs.Blocks.{first_place}
use Rattle.rtm_model.specs.OwnChange.{label_place, next_place, place_after}
use Rattle.rtm_model.specs.inner.Soundness.{IsPlace}
pub use Rattle.rtm_model.proofs.SetrpCards.{op_fits as card_may_stand}
use Rattle.std.proofs.lemmas.List.Quantifiers.{position-Some}

-- behind the last card stands a RETURN
behind : (lines : List Line) (op : ℕ) → length lines < op → op_in (slice_get lines (op - 1)) ≡ ops.Return
behind lines op h = ap op_in (slice_get_past lines (op - 1) (omega arith))

within : (n op : ℕ) → (n < op → ⊥) → op + 1 ≤ n + 1
within n op h = omega (arith, h)

-- a card other than RETURN has a place behind it
pub next_is_place : (d : DeckView) (at : Place) → IsPlace d at → (op_at d at.prog at.op ≡ ops.Return → ⊥) → IsPlace d (next_place at)
next_is_place d at p other = record {
  prog = p.prog;
  first = omega arith;
  last = within (length (lines_of d at.prog)) at.op (λ h. other (behind (lines_of d at.prog) at.op h));
}

-- a label's place
found_place : (d : DeckView) (at : Place) → IsPlace d (next_place at) → at.prog < length d.programs → (o : Option ℕ)
    → IfSome o (λ i. i < length (lines_of d at.prog))
    → IsPlace d (option_map_or (λ op. record { prog = at.prog; op = op }) (option_map (λ i. i + 1) o) (next_place at))
found_place d at next prog None h = next
found_place d at next prog (Some i) h = record { prog = prog; first = omega arith; last = omega arith }

position_in : {X : Type 0} (p : X → Bool) (xs : List X) (o : Option ℕ) → position p xs ≡ o → IfSome o (λ i. i < length xs)
position_in p [] None e = tt
position_in p [] (Some i) e = absurd cc
position_in p (x ∷ xs) None e = tt
position_in p (x ∷ xs) (Some i) e = (position-Some p (x ∷ xs) i x e).0

label_is_place : (d : DeckView) (at : Place) (label : List ℕ) → IsPlace d at → IsPlace d (next_place at) → IsPlace d (label_place d at label)
label_is_place d at label p next =
    found_place d at next p.prog (position (carries label) (lines_of d at.prog)) (position_in (carries label) (lines_of d at.prog) (position (carries label) (lines_of d at.prog)) refl)

if_place : (d : DeckView) (b : Bool) (x y : Place) → IsPlace d x → IsPlace d y → IsPlace d (if b then x else y)
if_place d true x y h i = h
if_place d false x y h i = i

after_by : (d : DeckView) (at : Place) (rc : ℕ) → IsPlace d at → IsPlace d (next_place at) → (op : Op) → IsPlace d (place_after d at rc op)
after_by d at rc p next (ops.Branch label) = label_is_place d at label p next
after_by d at rc p next (ops.IfCode code label) = if_place d (rc == 4) (label_place d at label) (next_place at) (label_is_place d at label p next) next
after_by d at rc p next (ops.IfClup label) = if_place d (rc == 4) (label_place d at label) (next_place at) (label_is_place d at label p next) next
after_by d at rc p next (ops.IfPerc label) = if_place d (rc == 4) (label_place d at label) (next_place at) (label_is_place d at label p next) next
after_by d at rc p next _ = next

-- after a card other than RETURN its request block stands at a place
pub after_is_place : (d : DeckView) (at : Place) (rc : ℕ) → IsPlace d at → (op_at d at.prog at.op ≡ ops.Return → ⊥) → IsPlace d (place_after d at rc (op_at d at.prog at.op))
after_is_place d at rc p other = after_by d at rc p (next_is_place d at p other) (op_at d at.prog at.op)

-- where a program begins
pub first_is_place : (d : DeckView) (prog : ℕ) → prog < length d.programs → IsPlace d (first_place prog)
first_is_place d prog h = record { prog = h; first = omega arith; last = omega arith }

retry_by : (d : DeckView) (prog : ℕ) (o : Option ProgramView) → slice_get d.programs prog ≡ o → (p : Option ℕ) → IfSome p (λ i. i < length (lines_in o))
    → IfSome (option_map (λ op. record { prog = prog; op = op }) (option_map (λ i. i + 1) p)) (IsPlace d)
retry_by d prog o e None h = tt
retry_by d prog None e (Some i) h = absurd (omega arith)
retry_by d prog (Some program) e (Some i) h = record {
  prog = slice_get_within d.programs prog program e;
  first = omega arith;
  last = subst (λ (o : Option ProgramView). i + 1 ≤ length (lines_in o) + 1) (sym e) (omega arith);
}

-- a place that a label names, of a program that has it
pub retry_is_place : (d : DeckView) (prog : ℕ) (label : List ℕ) → IfSome (option_map (λ op. record { prog = prog; op = op }) (label_at d prog label)) (IsPlace d)
retry_is_place d prog label = retry_by d prog (slice_get d.programs prog) refl (position (carries label) (lines_of d prog)) (position_in (carries label) (lines_of d prog) (position (carries label) (lines_of d prog)) refl)
