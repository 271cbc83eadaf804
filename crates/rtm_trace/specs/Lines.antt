-- Which bytes are the text of a trace, and which line of others is the first bad one (this profile).
use Rattle.std.specs.Prelude.{◌≡◌, ◌⊎◌, ℕ, zero, suc, ◌-◌, ◌<◌, ◌==◌, if◌then◌else◌, List, [], ◌∷◌, length, slice_get, Some, MatchOption, codes}
use Rattle.std.specs.List.{AllByRecursion, onto_first}
use Rattle.rtm_deck_items.specs.View.{DeckView}
use Rattle.rtm_model.specs.declared.entry.End.{End}
use Rattle.rtm_model.specs.declared.entry.Entry.{Entry}
use Rattle.rtm_model.specs.Fits.{Fits}
use Rattle.rtm_trace.specs.Text.{line_text, end_line, trace_text}
use Rattle.rtm_trace.specs.View.{TraceView}

-- The bytes are the text of the trace, and its entries fit the deck.
pub record IsTraceOf (d : DeckView) (bytes : List ℕ) (t : TraceView) : Type 0 where
  pub fit : AllByRecursion (Fits d) t.entries
  pub text : bytes ≡ trace_text d t.entries t.end

-- the lines, each with the line feed that ends it; the last may have none
abbrev pub text_lines : List ℕ → List (List ℕ)
text_lines [] = []
text_lines (b ∷ bs) = if b == 10 then (10 ∷ []) ∷ text_lines bs else onto_first b (text_lines bs)

-- the format's line
abbrev pub first_line : List ℕ
first_line = codes "RTMTRACE 1\n"

-- It is the line of an entry that fits the deck and has that index.
abbrev pub IsEntryLine : DeckView → ℕ → List ℕ → Type 0
IsEntryLine d n line = (e : Entry) × Fits d e × (line ≡ line_text d n e)

-- It is the line of an end.
abbrev pub IsEndLine : List ℕ → Type 0
IsEndLine line = (end : End) × (line ≡ end_line end)

-- What may stand at a place, counted from 0: the format's line first, and then the lines of the entries, each with its
-- own index, up to an end.
abbrev pub MayStand : DeckView → ℕ → List ℕ → Type 0
MayStand d zero line = line ≡ first_line
MayStand d (suc n) line = IsEntryLine d n line ⊎ IsEndLine line

-- An end stands before that place.
abbrev pub HasEnd : List (List ℕ) → ℕ → Type 0
HasEnd lines k = (j : ℕ) × (end : End) × (j < k) × (slice_get lines j ≡ Some (end_line end))

-- A line is bad where it may not stand at its place, or stands behind an end; and where there is no end, the line
-- that is wanted behind the last is bad.
abbrev pub IsBadLine : DeckView → List (List ℕ) → ℕ → Type 0
IsBadLine d lines k = MatchOption (slice_get lines k)
    ((k ≡ length lines) × (HasEnd lines k → ⊥))
    (λ line. (MayStand d k line → ⊥) ⊎ HasEnd lines k)

-- The line of that number, counted from 1, is the first bad one.
pub record IsFirstBadLine (d : DeckView) (bytes : List ℕ) (number : ℕ) : Type 0 where
  pub counted : 0 < number
  pub bad : IsBadLine d (text_lines bytes) (number - 1)
  pub least : (k : ℕ) → k < number - 1 → IsBadLine d (text_lines bytes) k → ⊥
