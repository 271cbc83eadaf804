-- What a cut input is, as plain data.
use Rattle.std.proofs.Common.{◌≡◌, sym, ap, subst, refl, ℕ, zero, suc, ◌+◌, ◌-◌, ◌≤◌, ◌<◌, Bool, true, false, List, [], ◌∷◌, Option, Some, None, length, take, map, arith, if◌then◌else◌}
use Rattle.std.proofs.lemmas.Bool.Decides.{nat_tests}
use Rattle.std.specs.Prelude.{MatchOption, nat_lt, ◌==◌}
use Rattle.std.specs.List.{AllByRecursion, onto_first}
use Rattle.std.proofs.lemmas.List.{length-map}
use Rattle.rtm_cards.specs.Limits.{most_bytes}
use Rattle.rtm_cards.specs.Text.{line_feed}
use Rattle.rtm_cards.specs.Lines.{lines_of}
use Rattle.rtm_cards.specs.Rules.{is_ignored}
use Rattle.rtm_cards.specs.Cards.{CardText, card_of, card_text, cards_from, HasSpansIn, IsCardOf, IsWellFormed}
use Rattle.rtm_cards.specs.Faults.{HasNoFault, lines_before}
use Rattle.rtm_cards.specs.Faults.{IsFirstFault as IsCutFault}
use Rattle.rtm_cards.specs.View.{CardSpans}
use Rattle.rtm_cards.specs.declared.fault.CutFault.{CutFault}

-- The cards before the fault of cutting, with the number of the lines before it.
pub record IsCut (bytes : List ℕ) (cards : List CardText) (lines : ℕ) (fault : Option CutFault) : Type 0 where
  pub fault_is : MatchOption fault (HasNoFault bytes) (IsCutFault bytes)
  pub lines_are : lines ≡ lines_before bytes fault
  pub cards_are : cards ≡ cards_from 1 (take lines (lines_of bytes))
  pub each : AllByRecursion IsWellFormed cards

-- no more lines than bytes
length-onto : (b : ℕ) (ls : List (List ℕ)) (n : ℕ) → length ls ≤ n → length (onto_first b ls) ≤ suc n
length-onto b [] n h = omega arith
length-onto b (l ∷ ls) n h = omega arith

lines_go : (b : ℕ) (ls : List (List ℕ)) (n : ℕ) (t : Bool) → length ls ≤ n → length (if t then [] ∷ ls else onto_first b ls) ≤ suc n
lines_go b ls n true h = omega arith
lines_go b ls n false h = length-onto b ls n h

length-lines : (bytes : List ℕ) → length (lines_of bytes) ≤ length bytes
unfolding lines_of
length-lines [] = omega arith
length-lines (b ∷ bs) = lines_go b (lines_of bs) (length bs) (b == line_feed) (length-lines bs)

cards_go : (c : CardText) (cs : List CardText) (n : ℕ) (t : Bool) → length cs ≤ n → length (if t then cs else c ∷ cs) ≤ suc n
cards_go c cs n true h = omega arith
cards_go c cs n false h = omega arith

-- no more cards than lines
length-cards : (number : ℕ) (ls : List (List ℕ)) → length (cards_from number ls) ≤ length ls
length-cards number [] = omega arith
length-cards number (l ∷ ls) = cards_go (card_of number l) (cards_from (number + 1) ls) (length ls) (is_ignored l) (length-cards (number + 1) ls)

length-taken : {X : Type 0} (n : ℕ) (xs : List X) → length (take n xs) ≤ n
length-taken zero xs = omega arith
length-taken (suc n) [] = omega arith
length-taken (suc n) (x ∷ xs) = let h = length-taken n xs in omega (arith, h)

few_before : (bytes : List ℕ) (fault : CutFault) → IsCutFault bytes fault → lines_before bytes (Some fault) ≤ most_bytes
few_before bytes fault f = go (nat_lt most_bytes (length bytes)) refl
  where
    go : (t : Bool) → nat_lt most_bytes (length bytes) ≡ t → (if t then 0 else fault.card - 1) ≤ most_bytes
    go true e = omega arith
    go false e = let small : length bytes ≤ most_bytes = grind (arith, nat_tests) in let h = length-lines bytes in let there = (f.by_card small).there in omega (arith, h, there, small)

-- there are few lines
pub few_lines : (bytes : List ℕ) (fault : Option CutFault) → MatchOption fault (HasNoFault bytes) (IsCutFault bytes) → lines_before bytes fault ≤ most_bytes
few_lines bytes None none = let h = length-lines bytes in let s = none.size in omega (arith, h, s)
few_lines bytes (Some fault) f = few_before bytes fault f

-- and few cards
pub few_cards : (bytes : List ℕ) (cards : List CardSpans) (lines : ℕ) → lines ≤ most_bytes →
    map (card_text bytes) cards ≡ cards_from 1 (take lines (lines_of bytes)) → length cards ≤ most_bytes
few_cards bytes cards lines few is =
    let a = length-cards 1 (take lines (lines_of bytes)) in
    let b = length-taken lines (lines_of bytes) in
    let c : length (map (card_text bytes) cards) ≡ length (cards_from 1 (take lines (lines_of bytes))) = ap length is in
    let d : length (map (card_text bytes) cards) ≡ length cards = length-map cards (card_text bytes) in
    omega (arith, a, b, c, d, few)

-- each card has its spans in the bytes
pub spans_of : (bytes : List ℕ) (cards : List CardSpans) → AllByRecursion (IsCardOf bytes) cards → AllByRecursion (HasSpansIn bytes) cards
spans_of bytes [] all = tt
spans_of bytes (c ∷ cs) all = (all.0.spans, spans_of bytes cs all.1)

-- and is well formed
pub forms_of : (bytes : List ℕ) (cards : List CardSpans) → AllByRecursion (IsCardOf bytes) cards → AllByRecursion IsWellFormed (map (card_text bytes) cards)
forms_of bytes [] all = tt
forms_of bytes (c ∷ cs) all = (all.0.form, forms_of bytes cs all.1)

-- what a cut input gives to its reader
pub record CutFacts (bytes : List ℕ) (cards : List CardSpans) (lines : ℕ) (fault : Option CutFault) : Type 0 where
  pub spans : AllByRecursion (HasSpansIn bytes) cards
  pub few : length cards < 1073741824
  pub counted : lines < 2147483648
  pub cut : IsCut bytes (map (card_text bytes) cards) lines fault

pub cut_facts : (bytes : List ℕ) (cards items : List CardSpans) (lines : ℕ) (fault : Option CutFault) → cards ≡ items →
    MatchOption fault (HasNoFault bytes) (IsCutFault bytes) → lines ≡ lines_before bytes fault →
    map (card_text bytes) items ≡ cards_from 1 (take lines (lines_of bytes)) → AllByRecursion (IsCardOf bytes) items → CutFacts bytes cards lines fault
cut_facts bytes cards items lines fault same fault_is lines_are cards_are each =
    let few : lines ≤ most_bytes = subst (λ n. n ≤ most_bytes) (sym lines_are) (few_lines bytes fault fault_is) in
    subst (λ cs. CutFacts bytes cs lines fault) (sym same) (record {
      spans = spans_of bytes items each;
      few = let h = few_cards bytes items lines few cards_are in omega (arith, h);
      counted = omega arith;
      cut = record { fault_is = fault_is; lines_are = lines_are; cards_are = cards_are; each = forms_of bytes items each };
    })
