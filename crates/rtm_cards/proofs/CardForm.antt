-- What holds of a card without a fault.
use Rattle.std.proofs.Common.{◌≡◌, ◌≢◌, ℕ, ◌<◌, ◌≤◌, Bool, true, false, eqb, ltb, ◌&&◌, ◌||◌, Some, None, List, [], ◌∷◌, ◌++◌, length, refl, sym, ap, subst, inl, inr, ◌∙◌, arith}
use Rattle.std.specs.Prelude.{if◌then◌else◌}
use Rattle.std.specs.List.{list_all, AllByRecursion}
use Rattle.std.proofs.lemmas.Bool.{eqb-false, not-true, not-false, or_parts, or_cases, eqb-true, ltb-true, and_parts}
use Rattle.rtm_cards.specs.declared.span.Span.{Span}
use Rattle.rtm_cards.specs.View.{CardSpans}
use Rattle.rtm_cards.specs.declared.fault.CutWhy.TheVariants.{OverLimit, BadByte, BadCard}
use Rattle.rtm_cards.specs.Limits.{most_card_bytes}
use Rattle.rtm_cards.specs.Span.{text_of}
use Rattle.rtm_cards.specs.Lines.{lines_of, line_at, start_of}
use Rattle.rtm_cards.specs.Name.{is_letter, is_name_byte, is_name, is_name_field}
use Rattle.rtm_cards.specs.Fields.{name_of, op_of}
use Rattle.rtm_cards.specs.Rules.{is_ignored, has_good_fields, is_bad_card, fault_of}
use Rattle.rtm_cards.specs.Cards.{CardText, card_of, HasSpansIn, LiesOn, IsWellFormed, IsCardOf, card_text}

-- an answer of None by three tests
passed : (a b c : Bool) → (if a then Some OverLimit else (if b then Some BadByte else (if c then Some BadCard else None))) ≡ None → c ≡ false
passed true b c e = absurd cc
passed false true c e = absurd cc
passed false false true e = absurd cc
passed false false false e = refl

second : (a b : Bool) → (a || b) ≡ true → a ≡ false → b ≡ true
second true b e f = absurd cc
second false b e f = e

good_fields : (number : ℕ) (line : List ℕ) → fault_of number line ≡ None → is_ignored line ≡ false → has_good_fields line ≡ true
unfolding fault_of
good_fields number line e ignored =
    let bad : is_bad_card line ≡ false = passed _ _ _ e in
    let good = not-false _ (or_parts (ltb most_card_bytes (length line)) _ bad).1 in
    second (is_ignored line) (has_good_fields line) good ignored

-- a name is short, and nothing is shorter
short_field : (text : List ℕ) → is_name_field text ≡ true → length text ≤ 8
short_field [] h = omega arith
short_field (b ∷ bs) h = elim (or_cases (eqb (length (b ∷ bs)) 0) (is_name (b ∷ bs)) h) [
  | inl none ↦ let zero : length (b ∷ bs) ≡ 0 = eqb-true _ _ none in omega arith
  | inr name ↦
      let letters = and_parts (is_letter b && ltb (length bs) 8) (list_all is_name_byte bs) name in
      let few : length bs < 8 = ltb-true (length bs) 8 (and_parts (is_letter b) (ltb (length bs) 8) letters.0).1 in
      omega arith
]

pub card_form : (number : ℕ) (line : List ℕ) → fault_of number line ≡ None → is_ignored line ≡ false → IsWellFormed (card_of number line)
card_form number line e ignored =
    let p = and_parts _ _ (good_fields number line e ignored) in
    record {
      name = p.0;
      short = short_field (name_of line) p.0;
      op = let some : length (op_of line) ≢ 0 = eqb-false _ _ (not-true _ p.1) in omega (arith, some);
    }

pub is_card : (bytes : List ℕ) (card : CardSpans) (number : ℕ) (line : Span) → card_text bytes card ≡ card_of number (text_of bytes line)
    → HasSpansIn bytes card → LiesOn line.from (text_of bytes line) card
    → line_at (lines_of bytes) number ≡ text_of bytes line → start_of (lines_of bytes) number ≡ line.from
    → fault_of number (text_of bytes line) ≡ None → is_ignored (text_of bytes line) ≡ false → IsCardOf bytes card
is_card bytes card number line text spans place at start fine ignored =
    let n : card.number ≡ number = ap (λ (c : CardText). c.number) text in
    let s : start_of (lines_of bytes) card.number ≡ line.from = ap (start_of (lines_of bytes)) n ∙ start in
    let l : line_at (lines_of bytes) card.number ≡ text_of bytes line = ap (line_at (lines_of bytes)) n ∙ at in
    record {
      spans = spans;
      place = subst (λ (k : ℕ). LiesOn k (line_at (lines_of bytes) card.number) card) (sym s)
          (subst (λ (x : List ℕ). LiesOn line.from x card) (sym l) place);
      form = subst (λ (c : CardText). IsWellFormed c) (sym text) (card_form number (text_of bytes line) fine ignored);
    }

pub each_push : (bytes : List ℕ) (cards : List CardSpans) (c : CardSpans) → AllByRecursion (IsCardOf bytes) cards → IsCardOf bytes c → AllByRecursion (IsCardOf bytes) (cards ++ c ∷ [])
each_push bytes [] c h e = (e, tt)
each_push bytes (x ∷ xs) c h e = (h.0, each_push bytes xs c h.1 e)
