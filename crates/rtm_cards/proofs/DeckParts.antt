-- How many bytes the deck has, one line after the other.
use Rattle.std.proofs.Common.{◌≡◌, ℕ, ◌+◌, ◌<◌, ◌≤◌, Bool, true, false, List, drop, length, take, refl, sym, ap, subst, ◌∙◌, arith, length-drop, length-take-le}
use Rattle.std.specs.Prelude.{if◌then◌else◌, min}
use Rattle.std.proofs.lemmas.List.{drop-drop, drop_min, take_min}
use Rattle.rtm_cards.proofs.FirstLine.{lines_of_first}
use Rattle.rtm_cards.specs.Lines.{lines_of}
use Rattle.rtm_cards.specs.Text.{before, from_first, line_feed}
use Rattle.rtm_cards.specs.Split.{deck_part, ends_deck, front_in, trace_part}

-- the first line of what begins at `at` is cut off at `len`
pub record IsLine (bytes rest line : List ℕ) (at len : ℕ) : Type 0 where
  pub below : at < length bytes
  pub starts : rest ≡ drop at bytes
  pub within : len ≤ length rest
  pub front : take len rest ≡ before line_feed rest
  pub behind : drop len rest ≡ from_first line_feed rest
  pub line_is : line ≡ take len rest

-- the bytes of the line and those of the lines behind it, unless it ends a deck
one_line : (bytes rest line : List ℕ) (at len : ℕ) → IsLine bytes rest line at len
    → front_in (lines_of (drop at bytes)) ≡ len + 1 + (if ends_deck line then 0 else front_in (lines_of (drop (at + len + 1) bytes)))
one_line bytes rest line at len h =
    let some : 0 < length (drop at bytes) = omega (arith, IsLine.below h, length-drop at bytes) in
    let text = drop at bytes in
    let here : line ≡ before line_feed rest = IsLine.line_is h ∙ IsLine.front h in
    let size : length (before line_feed rest) ≡ len = sym (ap length (IsLine.front h)) ∙ length-take-le len rest (IsLine.within h) in
    let behind : drop 1 (from_first line_feed rest) ≡ drop (at + len + 1) bytes =
    ap (λ (xs : List ℕ). drop 1 xs) (sym (IsLine.behind h) ∙ ap (λ (xs : List ℕ). drop len xs) (IsLine.starts h) ∙ drop-drop len at bytes) ∙ drop-drop 1 (at + len) bytes in
    let some_rest : 0 < length rest = subst (λ (xs : List ℕ). 0 < length xs) (sym (IsLine.starts h)) some in
    ap (λ (xs : List ℕ). front_in (lines_of xs)) (sym (IsLine.starts h))
    ∙ ap front_in (lines_of_first rest some_rest)
    ∙ ap (λ (k : ℕ). k + 1 + (if ends_deck (before line_feed rest) then 0 else front_in (lines_of (drop 1 (from_first line_feed rest))))) size
    ∙ ap (λ (xs : List ℕ). len + 1 + (if ends_deck xs then 0 else front_in (lines_of (drop 1 (from_first line_feed rest))))) (sym here)
    ∙ ap (λ (xs : List ℕ). len + 1 + (if ends_deck line then 0 else front_in (lines_of xs))) behind

-- the lines so far end no deck, and this one does
pub ends_here : (bytes rest line : List ℕ) (at len : ℕ) → IsLine bytes rest line at len → ends_deck line ≡ true
    → front_in (lines_of bytes) ≡ at + front_in (lines_of (drop at bytes)) → front_in (lines_of bytes) ≡ at + len + 1
ends_here bytes rest line at len h e so_far =
    let one = one_line bytes rest line at len h in
    let none : (if ends_deck line then 0 else front_in (lines_of (drop (at + len + 1) bytes))) ≡ 0 = ap (λ (b : Bool). if b then 0 else front_in (lines_of (drop (at + len + 1) bytes))) e in
    omega (arith, so_far, one, none)

-- nor does this one
pub goes_on : (bytes rest line : List ℕ) (at len : ℕ) → IsLine bytes rest line at len → ends_deck line ≡ false
    → front_in (lines_of bytes) ≡ at + front_in (lines_of (drop at bytes)) → front_in (lines_of bytes) ≡ at + (len + 1) + front_in (lines_of (drop (at + (len + 1)) bytes))
goes_on bytes rest line at len h e so_far =
    let one = one_line bytes rest line at len h in
    let more : (if ends_deck line then 0 else front_in (lines_of (drop (at + len + 1) bytes))) ≡ front_in (lines_of (drop (at + len + 1) bytes)) = ap (λ (b : Bool). if b then 0 else front_in (lines_of (drop (at + len + 1) bytes))) e in
    let k : at + len + 1 ≡ at + (len + 1) = omega arith in
    let same : front_in (lines_of (drop (at + len + 1) bytes)) ≡ front_in (lines_of (drop (at + (len + 1)) bytes)) = ap (λ (n : ℕ). front_in (lines_of (drop n bytes))) k in
    omega (arith, so_far, one, more, same)

-- the bytes of the deck, or all
pub taken : (bytes : List ℕ) (n : ℕ) → front_in (lines_of bytes) ≡ n → take (min n (length bytes)) bytes ≡ deck_part bytes
taken bytes n e = take_min n bytes ∙ ap (λ (k : ℕ). take k bytes) (sym e)

pub left : (bytes : List ℕ) (n : ℕ) → front_in (lines_of bytes) ≡ n → drop (min n (length bytes)) bytes ≡ trace_part bytes
left bytes n e = drop_min n bytes ∙ ap (λ (k : ℕ). drop k bytes) (sym e)
