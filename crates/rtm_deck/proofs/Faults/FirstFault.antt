-- What the reader refuses is the first fault of the input.
use Rattle.std.proofs.Common.{◌≡◌, ℕ, zero, suc, ◌+◌, ◌-◌, ◌<◌, ◌≤◌, Bool, true, false, not, ◌||◌, List, [], ◌∷◌, ◌++◌, length, take, drop, Option, Some, None, refl, ap, sym, subst, ◌∙◌, inl, inr, arith, append-nil, length-take-le, lt-ltb}
use Rattle.std.specs.Prelude.{codes, Result, Ok, Err, MatchOption, nat_lt, slice_index_or, if◌then◌else◌, ◌==◌}
use Rattle.std.specs.List.{list_any}
use Rattle.std.proofs.lemmas.Bool.{cases_lt, le-ltb}
use Rattle.std.proofs.lemmas.List.{take-append-drop}
use Rattle.std.proofs.Math.Bool.{or-false}
use Rattle.std.proofs.Math.Seq.{take-length}
use Rattle.rtm_cards.specs.declared.fault.CutFault.{CutFault}
use Rattle.rtm_cards.specs.declared.fault.CutWhy.{CutWhy}
use Rattle.rtm_cards.specs.Limits.{most_bytes}
use Rattle.rtm_cards.specs.Lines.{lines_of}
use Rattle.rtm_cards.specs.Rules.{fault_of, is_ignored}
use Rattle.rtm_cards.specs.Cards.{CardText, card_of, cards_from}
use Rattle.rtm_cards.specs.Faults.{NoCutFault, FirstCutFault, HasNoFault, lines_before}
use Rattle.rtm_cards.specs.Faults.{IsFirstFault as IsFirstCutFault}
use Rattle.rtm_deck_items.specs.declared.why.Why.TheVariants.{NoJobStep, NoEnd}
use Rattle.rtm_deck_items.specs.Faults.{is_called, has_operation, with_line, why_of_cut, HasFault, FormFault, LacksEnd, LacksName, LinesFault, IsFirstFault}
use Rattle.rtm_deck.specs.inner.View.{SeenView, ScanView, Refusal}
use Rattle.rtm_deck.specs.inner.Seen.{nothing_seen}
use Rattle.rtm_deck.specs.inner.References.{refusal, first_nameless}
use Rattle.rtm_deck.specs.inner.Reader.{scan, why_unended, deck_if_named, deck_or_fault, read_cards}
use Rattle.rtm_deck.proofs.Cards.SeenCards.{Sees, sees_none}
use Rattle.rtm_deck.proofs.Faults.OfForm.{AreCut, behind, Scanned, ScanLaw, scan_law}
use Rattle.rtm_deck.proofs.Faults.OfNames.{SeesAll}
use Rattle.rtm_deck.proofs.Faults.OwnLabels.{name_law}

moved : (a b c : Bool) → (a || (b || c)) ≡ ((b || a) || c)
moved true true c = refl
moved true false c = refl
moved false true c = refl
moved false false c = refl

any_line : (test : CardText → Bool) (earlier : List CardText) (number : ℕ) (line : List ℕ) (lines : List (List ℕ)) (b : Bool) → is_ignored line ≡ b
    → list_any test (behind earlier (number + 1) lines) ≡ (list_any test (cards_from (number + 1) lines) || list_any test earlier)
    → list_any test (behind (card_of number line ∷ earlier) (number + 1) lines) ≡ (list_any test (cards_from (number + 1) lines) || list_any test (card_of number line ∷ earlier))
    → list_any test (behind (with_line earlier number line) (number + 1) lines) ≡ (list_any test (cards_from number (line ∷ lines)) || list_any test earlier)
any_line test earlier number line lines true e skip more =
    ap (λ b. list_any test (behind (if b then earlier else card_of number line ∷ earlier) (number + 1) lines)) e
    ∙ skip
    ∙ ap (λ b. list_any test (if b then cards_from (number + 1) lines else card_of number line ∷ cards_from (number + 1) lines) || list_any test earlier) (sym e)
any_line test earlier number line lines false e skip more =
    ap (λ b. list_any test (behind (if b then earlier else card_of number line ∷ earlier) (number + 1) lines)) e
    ∙ more
    ∙ moved (list_any test (cards_from (number + 1) lines)) (test (card_of number line)) (list_any test earlier)
    ∙ ap (λ b. list_any test (if b then cards_from (number + 1) lines else card_of number line ∷ cards_from (number + 1) lines) || list_any test earlier) (sym e)

-- what some card passes, of all in order or newest first
any_behind : (test : CardText → Bool) (earlier : List CardText) (number : ℕ) (lines : List (List ℕ)) → list_any test (behind earlier number lines) ≡ (list_any test (cards_from number lines) || list_any test earlier)
any_behind test earlier number [] = refl
any_behind test earlier number (line ∷ lines) =
    any_line test earlier number line lines (is_ignored line) refl (any_behind test earlier (number + 1) lines) (any_behind test (card_of number line ∷ earlier) (number + 1) lines)

any_all : (test : CardText → Bool) (lines : List (List ℕ)) → list_any test (behind [] 1 lines) ≡ list_any test (cards_from 1 lines)
any_all test lines = any_behind test [] 1 lines ∙ or-false (list_any test (cards_from 1 lines))

-- what was seen on all cards
pub sees_all : (s : SeenView) (lines : List (List ℕ)) → Sees s (behind [] 1 lines) → SeesAll s (cards_from 1 lines)
sees_all s lines h = record {
  programs = λ name is. h.programs name is ∙ any_all _ lines;
  tasks = λ name is. h.tasks name is ∙ any_all _ lines;
  srbs = λ name is. h.srbs name is ∙ any_all _ lines;
  labels = λ name is. h.labels name is ∙ any_all _ lines;
}

-- some lines at the front that break no rule of cutting
cut_to : (n : ℕ) (lines : List (List ℕ)) (number : ℕ) → n ≤ length lines → ((k : ℕ) → k < n → fault_of (number + k) (slice_index_or lines k []) ≡ None) → AreCut number (take n lines)
cut_to zero lines number few h = tt
cut_to (suc n) [] number few h = absurd (omega (arith, few))
cut_to (suc n) (line ∷ lines) number few h = (
  subst (λ (m : ℕ). fault_of m line ≡ None) (omega arith) (h 0 (omega arith)),
  cut_to n lines (number + 1) (omega (arith, few)) (λ k below. subst (λ (m : ℕ). fault_of m (slice_index_or lines k []) ≡ None) (omega arith) (h (suc k) (omega (arith, below)))),
)

-- a line and what follows it
drop_at : (lines : List (List ℕ)) (n : ℕ) → n < length lines → (rest : List (List ℕ)) × (drop n lines ≡ slice_index_or lines n [] ∷ rest)
drop_at [] n below = absurd (omega (arith, below))
drop_at (line ∷ lines) zero below = (lines, refl)
drop_at (line ∷ lines) (suc n) below = drop_at lines n (omega (arith, below))

-- a scan up to a fault of cutting
cut_refusal : (lines others : List (List ℕ)) (line : List ℕ) (card : ℕ) (broken : CutWhy) (t : Result ScanView Refusal) (r : Refusal) → ScanLaw [] 1 lines [] t → card ≡ 1 + length lines → fault_of card line ≡ Some broken
    → deck_or_fault (length lines) (Some (record { card = card; why = broken })) t ≡ Err r → FormFault [] 1 (lines ++ line ∷ others) r.card r.why
cut_refusal lines others line card broken (Err x) r h number e j = let same : x ≡ r = cc in subst (λ (y : Refusal). FormFault [] 1 (lines ++ line ∷ others) y.card y.why) same (h (line ∷ others))
cut_refusal lines others line card broken (Ok t) r h number e j =
    let same : refusal card (why_of_cut broken) ≡ r = cc in
    let here : HasFault (behind [] 1 lines) (1 + length lines) line (fault_of (1 + length lines) line) (why_of_cut broken) =
    subst (λ (o : Option CutWhy). HasFault (behind [] 1 lines) (1 + length lines) line o (why_of_cut broken)) (sym (subst (λ (n : ℕ). fault_of n line ≡ Some broken) number e)) refl in
    subst (λ (y : Refusal). FormFault [] 1 (lines ++ line ∷ others) y.card y.why) same (h.more (line ∷ others) card (why_of_cut broken) (inl (here, number)))

-- a scan of all cards, without END
lacks_end : (lines : List (List ℕ)) (t : ScanView) → Scanned [] 1 lines [] t → t.seen.ended ≡ false → LacksEnd lines (length lines + 1) (why_unended t.seen)
lacks_end lines t h e = record {
  form = h.none;
  no_end = ap not (sym (any_all (is_called (codes "END")) lines) ∙ sym h.sees.ended ∙ e);
  place = refl;
  reason = why (length t.seen.tasks == 0) (has_operation (codes "TASK") (cards_from 1 lines)) (h.sees.task_there ∙ ap not (any_all (is_called (codes "TASK")) lines));
}
  where
    why : (a b : Bool) → a ≡ not b → (if a then NoJobStep else NoEnd) ≡ (if b then NoEnd else NoJobStep)
    why true true e = absurd cc
    why true false e = refl
    why false true e = refl
    why false false e = absurd cc

-- and with END
lacks_name : (lines : List (List ℕ)) (t : ScanView) (x : Refusal) → Scanned [] 1 lines [] t → t.seen.ended ≡ true → first_nameless t.seen [] t.reads ≡ Some x → LacksName lines x.card x.why
lacks_name lines t x h e f = record {
  form = h.none;
  end = sym (any_all (is_called (codes "END")) lines) ∙ sym h.sees.ended ∙ e;
  unfound = name_law t.seen (cards_from 1 lines) (cards_from 1 lines) h.reads [] [] x (sees_all t.seen lines h.sees) h.each (λ inside. let clash : false ≡ true = inside in absurd cc)
      (ap (first_nameless t.seen []) (sym h.read) ∙ f);
}

named_refusal : (lines : List (List ℕ)) (t : ScanView) (r : Refusal) (o : Option Refusal) → Scanned [] 1 lines [] t → t.seen.ended ≡ true → first_nameless t.seen [] t.reads ≡ o → deck_if_named t o ≡ Err r → LacksName lines r.card r.why
named_refusal lines t r None h e f j = absurd cc
named_refusal lines t r (Some x) h e f j = let same : x ≡ r = cc in subst (λ (y : Refusal). LacksName lines y.card y.why) same (lacks_name lines t x h e f)

resolved_refusal : (lines : List (List ℕ)) (t : ScanView) (r : Refusal) (b : Bool) → Scanned [] 1 lines [] t → t.seen.ended ≡ b
    → (if b then deck_if_named t (first_nameless t.seen [] t.reads) else Err (refusal (length lines + 1) (why_unended t.seen))) ≡ Err r → LinesFault lines r.card r.why
resolved_refusal lines t r true h e j = inr (inr (named_refusal lines t r (first_nameless t.seen [] t.reads) h e refl j))
resolved_refusal lines t r false h e j = let same : refusal (length lines + 1) (why_unended t.seen) ≡ r = cc in subst (λ (y : Refusal). LinesFault lines y.card y.why) same (inr (inl (lacks_end lines t h e)))

-- a scan of all cards
whole_refusal : (lines : List (List ℕ)) (t : Result ScanView Refusal) (r : Refusal) → ScanLaw [] 1 lines [] t → deck_or_fault (length lines) None t ≡ Err r → LinesFault lines r.card r.why
whole_refusal lines (Err x) r h j = let same : x ≡ r = cc in subst (λ (y : Refusal). LinesFault lines y.card y.why) same (inl (subst (λ (l : List (List ℕ)). FormFault [] 1 l x.card x.why) (append-nil lines) (h [])))
whole_refusal lines (Ok t) r h j = resolved_refusal lines t r t.seen.ended h refl j

-- the refusal of lines of which one breaks a rule of cutting
cut_lines_refusal : (lines : List (List ℕ)) (f : CutFault) (r : Refusal) → FirstCutFault lines f.card f.why → read_cards (cards_from 1 (take (f.card - 1) lines)) (f.card - 1) (Some f) ≡ Err r → FormFault [] 1 lines r.card r.why
cut_lines_refusal lines f r h e =
    let n = f.card - 1 in
    let below : n < length lines = omega (arith, h.counted, h.there) in
    let at = drop_at lines n below in
    let front = take n lines in
    let is : length front ≡ n = length-take-le n lines (omega (arith, below)) in
    let cut = cut_to n lines 1 (omega (arith, below)) (λ k few.
    subst (λ (m : ℕ). fault_of (1 + k) (slice_index_or lines m []) ≡ None) (omega arith) (h.least (1 + k) (omega arith) (omega (arith, few)))) in
    let whole : front ++ (slice_index_or lines n [] ∷ at.0) ≡ lines = ap (λ l. front ++ l) (sym at.1) ∙ take-append-drop n lines in
    subst (λ (l : List (List ℕ)). FormFault [] 1 l r.card r.why) whole
    (cut_refusal front at.0 (slice_index_or lines n []) f.card f.why (scan [] nothing_seen (cards_from 1 front)) r (scan_law front 1 [] [] nothing_seen cut sees_none)
    (omega (arith, is, h.counted)) h.broken (subst (λ (m : ℕ). deck_or_fault m (Some f) (scan [] nothing_seen (cards_from 1 front)) ≡ Err r) (sym is) e))

cut_all : (lines : List (List ℕ)) → NoCutFault lines → AreCut 1 lines
cut_all lines h = subst (λ (l : List (List ℕ)). AreCut 1 l) (take-length lines)
    (cut_to (length lines) lines 1 (omega arith) (λ k few. subst (λ (m : ℕ). fault_of (1 + k) (slice_index_or lines m []) ≡ None) (omega arith) (h (1 + k) (omega arith) (omega (arith, few)))))

-- an input that is refused, by its size
by_size : (bytes : List ℕ) (n : ℕ) (f : CutFault) (r : Refusal) → most_bytes < length bytes → IsFirstCutFault bytes f → deck_or_fault n (Some f) (scan [] nothing_seen (cards_from 1 [])) ≡ Err r → IsFirstFault bytes r.card r.why
by_size bytes n f r long h e =
    let same : refusal f.card (why_of_cut f.why) ≡ r = cc in
    let by = h.by_size long in
    subst (λ (y : Refusal). IsFirstFault bytes y.card y.why) same (record { by_size = λ l. (by.0, ap why_of_cut by.1); by_card = λ few. absurd (omega (arith, long, few)) })

none_taken : (bytes : List ℕ) (n : ℕ) → most_bytes < length bytes → (if nat_lt most_bytes (length bytes) then 0 else n) ≡ 0
none_taken bytes n long = ap (λ b. if b then 0 else n) (lt-ltb _ _ long)

some_taken : (bytes : List ℕ) (n : ℕ) → length bytes ≤ most_bytes → (if nat_lt most_bytes (length bytes) then 0 else n) ≡ n
some_taken bytes n few = ap (λ b. if b then 0 else n) (le-ltb _ _ few)

-- The refusal of the cards that were cut, with the fault of cutting, is the first fault of the input.
pub refusal_law : (bytes : List ℕ) (fault : Option CutFault) (r : Refusal) → MatchOption fault (HasNoFault bytes) (IsFirstCutFault bytes)
    → read_cards (cards_from 1 (take (lines_before bytes fault) (lines_of bytes))) (lines_before bytes fault) fault ≡ Err r → IsFirstFault bytes r.card r.why
refusal_law bytes None r h e = record {
  by_size = λ long. absurd (omega (arith, long, h.size));
  by_card = λ few.
      let lines = lines_of bytes in
      let read = subst (λ (l : List (List ℕ)). read_cards (cards_from 1 l) (length lines) None ≡ Err r) (take-length lines) e in
      whole_refusal lines (scan [] nothing_seen (cards_from 1 lines)) r (scan_law lines 1 [] [] nothing_seen (cut_all lines h.cards) sees_none) read;
}
refusal_law bytes (Some f) r h e = elim (cases_lt most_bytes (length bytes)) [
  | inl long ↦ by_size bytes 0 f r long h (subst (λ (n : ℕ). read_cards (cards_from 1 (take n (lines_of bytes))) n (Some f) ≡ Err r) (none_taken bytes (f.card - 1) long) e)
  | inr few ↦ record {
    by_size = λ long. absurd (omega (arith, long, few));
    by_card = λ _. inl (cut_lines_refusal (lines_of bytes) f r (h.by_card few) (subst (λ (n : ℕ). read_cards (cards_from 1 (take n (lines_of bytes))) n (Some f) ≡ Err r) (some_taken bytes (f.card - 1) few) e));
  }
]
