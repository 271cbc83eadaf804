-- How far an input is cut.
use Rattle.std.proofs.Common.{◌≡◌, ℕ, suc, Bool, true, false, Option, Some, ◌+◌, ◌-◌, ◌<◌, ◌≤◌, ◌∙◌, List, [], ◌∷◌, ◌++◌, map, length, take, drop, get_or, None, refl, sym, ap, inl, inr, arith, length-take, add-zero, length-drop, get_or-drop}
use Rattle.std.proofs.lemmas.List.{take_more, drop-drop}
use Rattle.std.proofs.lemmas.List.Sums.{sum_by_push}
use Rattle.std.proofs.lemmas.Bool.{cases_lt, lt-ltb}
use Rattle.std.specs.Prelude.{sum_by, if◌then◌else◌}
use Rattle.std.specs.List.{AllByRecursion}
use Rattle.rtm_cards.specs.declared.span.Span.{Span}
use Rattle.rtm_cards.specs.View.{CardSpans}
use Rattle.rtm_cards.specs.declared.fault.CutWhy.{CutWhy}
use Rattle.rtm_cards.specs.declared.fault.CutWhy.TheVariants.{OverLimit}
use Rattle.rtm_cards.specs.Limits.{most_bytes, most_cards}
use Rattle.rtm_cards.specs.Span.{IsWithin, text_of}
use Rattle.rtm_cards.specs.Lines.{lines_of, line_at, start_of}
use Rattle.rtm_cards.specs.Rules.{is_ignored, fault_of}
use Rattle.rtm_cards.specs.Cards.{CardText, card_of, cards_from, card_text, IsCardOf}
use Rattle.rtm_cards.specs.Faults.{HasNoFault, IsFirstFault}
use Rattle.rtm_cards.proofs.Spans.{text_length, text_empty}

-- So many lines are cut, none of them has a fault, and the rest stands in that span.
pub record IsCutTo (bytes : List ℕ) (cards : List CardSpans) (lines : ℕ) (rest : Span) : Type 0 where
  pub few : lines ≤ most_cards
  pub there : lines ≤ length (lines_of bytes)
  pub left : drop lines (lines_of bytes) ≡ lines_of (text_of bytes rest)
  pub start : rest.from < rest.to → start_of (lines_of bytes) (lines + 1) ≡ rest.from
  pub within : IsWithin bytes rest
  pub fine : (m : ℕ) → 0 < m → m ≤ lines → fault_of m (line_at (lines_of bytes) m) ≡ None
  pub text : map (card_text bytes) cards ≡ cards_from 1 (take lines (lines_of bytes))
  pub each : AllByRecursion (IsCardOf bytes) cards

-- where a list goes on with an element, that is the one at the index
pub record GoesOn (xs : List (List ℕ)) (i : ℕ) (x : List ℕ) (ys : List (List ℕ)) : Type 0 where
  pub inside : i < length xs
  pub here : get_or xs i [] ≡ x
  pub front : take (i + 1) xs ≡ take i xs ++ x ∷ []
  pub behind : drop (i + 1) xs ≡ ys

pub goes_on : (xs : List (List ℕ)) (i : ℕ) (x : List ℕ) (ys : List (List ℕ)) → drop i xs ≡ x ∷ ys → GoesOn xs i x ys
goes_on xs i x ys e =
    let inside : i < length xs = omega (arith, length-drop i xs, ap length e) in
    let here : get_or xs i [] ≡ x = sym (ap (λ (n : ℕ). get_or xs n []) (add-zero i)) ∙ sym (get_or-drop i xs 0 []) ∙ ap (λ (zs : List (List ℕ)). get_or zs 0 []) e in
    record {
      inside = inside;
      here = here;
      front = take_more xs i [] inside ∙ ap (λ (z : List ℕ). take i xs ++ z ∷ []) here;
      behind = sym (drop-drop 1 i xs) ∙ ap (λ (zs : List (List ℕ)). drop 1 zs) e;
    }

choose : (t : Bool) (c : CardText) (a b ys : List CardText) → a ≡ b ++ ys → (if t then a else c ∷ a) ≡ (if t then b else c ∷ b) ++ ys
choose true c a b ys e = e
choose false c a b ys e = ap (λ (zs : List CardText). c ∷ zs) e

pub cards_from-append : (n : ℕ) (xs ys : List (List ℕ)) → cards_from n (xs ++ ys) ≡ cards_from n xs ++ cards_from (n + length xs) ys
cards_from-append n [] ys = rw (add-zero n) refl
cards_from-append n (x ∷ xs) ys =
    let k : n + 1 + length xs ≡ n + suc (length xs) = omega arith in
    choose (is_ignored x) (card_of n x) _ _ _ (cards_from-append (n + 1) xs ys ∙ ap (λ (j : ℕ). cards_from (n + 1) xs ++ cards_from j ys) k)

-- where nothing is left, all lines are cut
pub all_lines : (bytes : List ℕ) (cards : List CardSpans) (lines : ℕ) (rest : Span) → IsCutTo bytes cards lines rest → rest.to ≤ rest.from → lines ≡ length (lines_of bytes)
unfolding lines_of
all_lines bytes cards lines rest h e =
    let none : drop lines (lines_of bytes) ≡ [] = h.left ∙ ap lines_of (text_empty bytes rest e) in
    let there : lines ≤ length (lines_of bytes) = h.there in
    omega (arith, length-drop lines (lines_of bytes), ap length none)

-- the line that is cut off next, and what stands behind it
pub record NextLine (bytes : List ℕ) (rest line behind : Span) : Type 0 where
  pub lines : lines_of (text_of bytes rest) ≡ text_of bytes line ∷ lines_of (text_of bytes behind)
  pub start : line.from ≡ rest.from
  pub next : behind.from < behind.to → behind.from ≡ line.to + 1
  pub line_within : IsWithin bytes line
  pub within : IsWithin bytes behind

line_of_next : (bytes : List ℕ) (cards : List CardSpans) (lines : ℕ) (rest line behind : Span) → IsCutTo bytes cards lines rest → NextLine bytes rest line behind
    → GoesOn (lines_of bytes) lines (text_of bytes line) (lines_of (text_of bytes behind))
line_of_next bytes cards lines rest line behind h l =
    goes_on (lines_of bytes) lines (text_of bytes line) (lines_of (text_of bytes behind)) (h.left ∙ l.lines)

-- a card is named by one more than its index
line_at_next : (xs : List (List ℕ)) (i : ℕ) (x : List ℕ) (ys : List (List ℕ)) → GoesOn xs i x ys → line_at xs (i + 1) ≡ x
line_at_next xs i x ys g =
    let k : i + 1 - 1 ≡ i = omega arith in
    ap (λ (j : ℕ). get_or xs j []) k ∙ g.here

start_of_next : (xs : List (List ℕ)) (i : ℕ) (x : List ℕ) (ys : List (List ℕ)) → GoesOn xs i x ys → start_of xs (i + 1 + 1) ≡ start_of xs (i + 1) + (length x + 1)
start_of_next xs i x ys g =
    let k : i + 1 - 1 ≡ i = omega arith in
    let j : i + 1 + 1 - 1 ≡ i + 1 = omega arith in
    let size = λ (line : List ℕ). length line + 1 in
    ap (λ (n : ℕ). sum_by size (take n xs)) j ∙ ap (λ (zs : List (List ℕ)). sum_by size zs) g.front ∙ sum_by_push size (take i xs) x
    ∙ ap (λ (n : ℕ). sum_by size (take n xs) + (length x + 1)) (sym k)

-- what holds of the cards so far, and of the next one, holds of all these
fine_more : (xs : List (List ℕ)) (i : ℕ) → ((m : ℕ) → 0 < m → m ≤ i → fault_of m (line_at xs m) ≡ None) → fault_of (i + 1) (line_at xs (i + 1)) ≡ None
    → (m : ℕ) → 0 < m → m ≤ i + 1 → fault_of m (line_at xs m) ≡ None
fine_more xs i h e m p q = elim (cases_lt i m) [
  | inl more ↦ let same : m ≡ i + 1 = omega arith in rw same e
  | inr le ↦ h m p le
]

-- a card without a fault is one of the first
few_cards : (number : ℕ) (card : List ℕ) → fault_of number card ≡ None → number ≤ most_cards
unfolding fault_of
few_cards number card e = elim (cases_lt most_cards number) [
  | inl over ↦ absurd (some≢none _ _ (lt-ltb most_cards number over) e)
  | inr le ↦ le
]
  where
    some≢none : (t : Bool) (o : Option CutWhy) → t ≡ true → (if t then Some OverLimit else o) ≡ None → ⊥
    some≢none true o p q = cc
    some≢none false o p q = cc

pub no_fault : (bytes : List ℕ) (cards : List CardSpans) (lines : ℕ) (rest : Span) → IsCutTo bytes cards lines rest → rest.to ≤ rest.from → length bytes ≤ most_bytes → HasNoFault bytes
no_fault bytes cards lines rest h e size =
    let n = all_lines bytes cards lines rest h e in
    record { size = size; cards = λ m p q. h.fine m p (omega (arith, q)) }

pub first_fault : (bytes : List ℕ) (cards : List CardSpans) (lines : ℕ) (rest line behind : Span) (why : CutWhy) → IsCutTo bytes cards lines rest → NextLine bytes rest line behind
    → length bytes ≤ most_bytes → fault_of (lines + 1) (text_of bytes line) ≡ Some why → IsFirstFault bytes (record { card = lines + 1; why = why })
first_fault bytes cards lines rest line behind why h l size e =
    let g = line_of_next bytes cards lines rest line behind h l in
    let here = line_at_next _ _ _ _ g in
    record {
      by_size = λ over. absurd (omega (arith, over));
      by_card = λ _. record {
        counted = omega arith;
        there = omega (arith, g.inside);
        broken = ap (fault_of (lines + 1)) here ∙ e;
        least = λ m p q. h.fine m p (omega (arith, q));
      };
    }

pub step : (bytes : List ℕ) (old new : List CardSpans) (lines : ℕ) (rest line behind : Span) → IsCutTo bytes old lines rest → NextLine bytes rest line behind
    → rest.from < rest.to
    → fault_of (lines + 1) (text_of bytes line) ≡ None
    → map (card_text bytes) new ≡ map (card_text bytes) old ++ cards_from (lines + 1) (text_of bytes line ∷ [])
    → AllByRecursion (IsCardOf bytes) new
    → IsCutTo bytes new (lines + 1) behind
step bytes old new lines rest line behind h l some e text each =
    let xs = lines_of bytes in
    let g = line_of_next bytes old lines rest line behind h l in
    let here = line_at_next _ _ _ _ g in
    let fine : fault_of (lines + 1) (line_at xs (lines + 1)) ≡ None = ap (fault_of (lines + 1)) here ∙ e in
    let counted : 1 + length (take lines xs) ≡ lines + 1 = omega (arith, length-take lines xs, h.there) in
    record {
      few = few_cards (lines + 1) (text_of bytes line) e;
      there = omega (arith, g.inside);
      left = g.behind;
      start = λ more. omega (arith, start_of_next xs lines _ _ g, h.start some, l.start, text_length bytes line l.line_within, l.next more);
      within = l.within;
      fine = fine_more xs lines h.fine fine;
      text = text ∙ ap (λ (cs : List CardText). cs ++ cards_from (lines + 1) (text_of bytes line ∷ [])) h.text
          ∙ ap (λ (n : ℕ). cards_from 1 (take lines xs) ++ cards_from n (text_of bytes line ∷ [])) (sym counted)
          ∙ sym (cards_from-append 1 (take lines xs) (text_of bytes line ∷ [])) ∙ ap (cards_from 1) (sym g.front);
      each = each;
    }
