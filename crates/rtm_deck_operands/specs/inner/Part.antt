-- The operands that no slot has taken yet.
use Rattle.std.specs.Prelude.{ℕ, List, map}
use Rattle.std.specs.List.{AllByRecursion}
use Rattle.rtm_cards.specs.declared.span.Span.{Span}
use Rattle.rtm_cards.specs.Span.{IsWithin, text_of}
use Rattle.rtm_deck_operands.specs.declared.part.Part.{Part}

abbrev pub span_of : Part → Span
span_of part = record { from = part.from; to = part.to }

-- each of them is a part of these bytes
abbrev pub AreWithin : List ℕ → List Part → Type 0
AreWithin bytes parts = AllByRecursion (λ part. IsWithin bytes (span_of part)) parts

-- their bytes
abbrev pub part_texts : List ℕ → List Part → List (List ℕ)
part_texts bytes parts = map (λ part. text_of bytes (span_of part)) parts
