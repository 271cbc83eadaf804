-- The first of the parts between commas.
use Rattle.std.proofs.Common.{◌≡◌, ℕ, ◌<◌, ◌∙◌, Bool, true, false, eqb, List, [], ◌∷◌, ◌++◌, map, length, drop, refl, arith}
use Rattle.std.specs.List.{AllByRecursion}
use Rattle.rtm_cards.specs.declared.span.Span.{Span}
use Rattle.rtm_cards.specs.Span.{IsWithin, text_of, StandInRow}
use Rattle.rtm_cards.specs.Fields.{split_at_commas, parts_of}
use Rattle.rtm_cards.specs.Text.{comma, before, from_first}

-- the parts of what stands behind a comma, if there is one
abbrev pub parts_behind : List ℕ → List (List ℕ)
parts_behind [] = []
parts_behind (_ ∷ bs) = split_at_commas bs

-- a byte more in front
one_more : (b : ℕ) (bs : List ℕ) (t : Bool) → eqb b comma ≡ t → split_at_commas bs ≡ before comma bs ∷ parts_behind (from_first comma bs)
    → split_at_commas (b ∷ bs) ≡ before comma (b ∷ bs) ∷ parts_behind (from_first comma (b ∷ bs))
one_more b bs true e ih = rw e refl
one_more b bs false e ih = rw (e, ih) refl

-- the first part, and those behind its comma
pub split_at_commas_first : (text : List ℕ) → split_at_commas text ≡ before comma text ∷ parts_behind (from_first comma text)
split_at_commas_first [] = refl
split_at_commas_first (b ∷ bs) = one_more b bs (eqb b comma) refl (split_at_commas_first bs)

-- the same, for what was cut off, where no comma follows and where one does
pub last_part : (whole first : List ℕ) → first ≡ before comma whole → from_first comma whole ≡ [] → split_at_commas whole ≡ first ∷ []
last_part whole first e f = split_at_commas_first whole ∙ rw (e, f) refl

rest_of : (text : List ℕ) → 0 < length text → parts_behind text ≡ split_at_commas (drop 1 text)
rest_of [] h = absurd (omega arith)
rest_of (b ∷ bs) h = refl

pub first_part : (whole first second behind : List ℕ) → 0 < length second → first ≡ before comma whole → second ≡ from_first comma whole → behind ≡ drop 1 second
    → split_at_commas whole ≡ first ∷ split_at_commas behind
first_part whole first second behind h e f g =
    split_at_commas_first whole ∙ rw (← f, e, g, rest_of second h) refl

-- the operands of a field so far, and where the rest of it stands
pub record IsCutSoFar (bytes : List ℕ) (field : Span) (operands : List Span) (rest : Span) : Type 0 where
  pub left : IsWithin bytes rest
  pub texts : map (text_of bytes) operands ++ split_at_commas (text_of bytes rest) ≡ parts_of (text_of bytes field)
  pub within : AllByRecursion (IsWithin bytes) operands
  pub places : (tail : List Span) → StandInRow rest.from tail → StandInRow field.from (operands ++ tail)
