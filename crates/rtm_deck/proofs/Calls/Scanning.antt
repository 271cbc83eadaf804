-- Reading one card after the other.
use Rattle.std.proofs.Common.{◌≡◌, ◌∙◌, refl, sym, ap, ℕ, ◌+◌, ◌≤◌, ◌<◌, List, [], ◌∷◌, ◌++◌, Option, drop, map, length, get_or, add-one, arith, subst}
use Rattle.std.specs.Prelude.{Result, Ok, Err}
use Rattle.std.specs.List.{AllByRecursion}
use Rattle.std.proofs.Math.Seq.{drop-cons}
use Rattle.rtm_cards.specs.Cards.{CardText, card_text, HasSpansIn}
use Rattle.rtm_cards.specs.View.{CardSpans}
use Rattle.rtm_deck_items.specs.declared.why.Why.{Why}
use Rattle.rtm_deck.specs.declared.role.Role.{Role}
use Rattle.rtm_deck.specs.declared.role.Role.TheVariants.{Command}
use Rattle.rtm_deck.specs.inner.View.{ReadView, SeenView, ScanView, Refusal}
use Rattle.rtm_deck.specs.inner.Roles.{role_of}
use Rattle.rtm_deck.specs.inner.Seen.{after, read_card}
use Rattle.rtm_deck.specs.inner.Reader.{scan_of, scan_on, scan_next, scan}

-- a card counts for one command at most
commands-after : (s : SeenView) (role : Role) (name : Option (List ℕ)) (n : ℕ) → s.commands ≤ n → (after s role name).commands ≤ n + 1
commands-after s Command name n h = omega arith
commands-after s _ name n h = omega arith

-- the cards that are left are the next and the others
drop-next : {X : Type 0} (xs : List X) (i : ℕ) (x : X) → i < length xs → drop i xs ≡ get_or xs i x ∷ drop (i + 1) xs
drop-next xs i x h = drop-cons xs i x h ∙ ap (λ k. get_or xs i x ∷ drop k xs) (sym (add-one i))

-- what was read behind one card more, and what it keeps
pub record Goes (t : ScanView) (c : CardText) (u : ScanView) : Type 0 where
  pub read : ReadView
  pub is : read_card t.seen c ≡ Ok read
  pub behind : scan_of (t.reads ++ read ∷ []) (after t.seen (role_of read.form) read.name) ≡ u

goes : (t : ScanView) (c : CardText) (u : ScanView) → scan_next t c ≡ Ok u → Goes t c u
goes t c u e = go (read_card t.seen c) refl e
  where
    go : (o : Result ReadView Why) → read_card t.seen c ≡ o → scan_on c.number o (λ r. Ok (scan_of (t.reads ++ r ∷ []) (after t.seen (role_of r.form) r.name))) ≡ Ok u → Goes t c u
    go (Err why) is e = absurd cc
    go (Ok r) is e = record { read = r; is = is; behind = cc }

refused_next : (t : ScanView) (c : CardText) (r : Refusal) (others : ReadView → Result ScanView Refusal) → scan_next t c ≡ Err r → scan_on c.number (read_card t.seen c) others ≡ Err r
refused_next t c r others e = go (read_card t.seen c) e
  where
    go : (o : Result ReadView Why) → scan_on c.number o (λ r. Ok (scan_of (t.reads ++ r ∷ []) (after t.seen (role_of r.form) r.name))) ≡ Err r → scan_on c.number o others ≡ Err r
    go (Err why) e = e
    go (Ok read) e = absurd cc

-- the cards that are left come to what the next says, and the others behind it
next-first : (bytes : List ℕ) (cards : List CardSpans) (i : ℕ) (card : CardSpans) (t : ScanView) (all : Result ScanView Refusal) → i < length cards → card ≡ get_or cards i card
    → scan t.reads t.seen (map (card_text bytes) (drop i cards)) ≡ all → scan t.reads t.seen (card_text bytes card ∷ map (card_text bytes) (drop (i + 1) cards)) ≡ all
next-first bytes cards i card t all h is before =
    ap (λ x. scan t.reads t.seen (map (card_text bytes) (x ∷ drop (i + 1) cards))) is
    ∙ (ap (λ xs. scan t.reads t.seen (map (card_text bytes) xs)) (sym (drop-next cards i card h)) ∙ before)

-- behind a card that is read the others come to what all do
pub scan-read : (bytes : List ℕ) (cards : List CardSpans) (i : ℕ) (card : CardSpans) (t u : ScanView) (all : Result ScanView Refusal) → i < length cards → card ≡ get_or cards i card
    → scan t.reads t.seen (map (card_text bytes) (drop i cards)) ≡ all → scan_next t (card_text bytes card) ≡ Ok u → scan u.reads u.seen (map (card_text bytes) (drop (i + 1) cards)) ≡ all
scan-read bytes cards i card t u all h is before next =
    let g = goes t (card_text bytes card) u next in
    let rest = map (card_text bytes) (drop (i + 1) cards) in
    ap (λ (v : ScanView). scan v.reads v.seen rest) (sym g.behind)
    ∙ (ap (λ x. scan_on card.number x (λ r. scan (t.reads ++ r ∷ []) (after t.seen (role_of r.form) r.name) rest)) (sym g.is)
    ∙ next-first bytes cards i card t all h is before)

-- at a card that breaks a rule they come to its refusal
pub scan-refused : (bytes : List ℕ) (cards : List CardSpans) (i : ℕ) (card : CardSpans) (t : ScanView) (r : Refusal) (all : Result ScanView Refusal) → i < length cards → card ≡ get_or cards i card
    → scan t.reads t.seen (map (card_text bytes) (drop i cards)) ≡ all → scan_next t (card_text bytes card) ≡ Err r → all ≡ Err r
scan-refused bytes cards i card t r all h is before next =
    sym (next-first bytes cards i card t all h is before)
    ∙ refused_next t (card_text bytes card) r (λ r. scan (t.reads ++ r ∷ []) (after t.seen (role_of r.form) r.name) (map (card_text bytes) (drop (i + 1) cards))) next

-- one card more is one command more at most
pub commands-next : (t : ScanView) (c : CardText) (u : ScanView) (n : ℕ) → scan_next t c ≡ Ok u → t.seen.commands ≤ n → u.seen.commands ≤ n + 1
commands-next t c u n next h =
    let g = goes t c u next in
    subst (λ (v : ScanView). v.seen.commands ≤ n + 1) g.behind (commands-after t.seen (role_of g.read.form) g.read.name n h)

-- the spans of the next card, and of the others
pub spans-next : (bytes : List ℕ) (cards : List CardSpans) (i : ℕ) (card : CardSpans) → i < length cards → card ≡ get_or cards i card →
    AllByRecursion (HasSpansIn bytes) (drop i cards) → HasSpansIn bytes card × AllByRecursion (HasSpansIn bytes) (drop (i + 1) cards)
spans-next bytes cards i card h is all =
    let both : AllByRecursion (HasSpansIn bytes) (card ∷ drop (i + 1) cards) = subst (AllByRecursion (HasSpansIn bytes)) (drop-next cards i card h ∙ ap (λ x. x ∷ drop (i + 1) cards) (sym is)) all in
    (both.0, both.1)
