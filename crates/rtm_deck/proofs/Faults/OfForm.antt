-- The first fault of form that the reader finds is that of the lines.
use Rattle.std.proofs.Common.{◌≡◌, ℕ, suc, ◌+◌, Bool, true, false, not, List, [], ◌∷◌, ◌++◌, length, Option, Some, None, refl, ap, sym, subst, ◌∙◌, inl, inr, arith, append-nil, append_assoc}
use Rattle.std.specs.Prelude.{IsTrue, Result, Ok, Err, if◌then◌else◌}
use Rattle.rtm_cards.specs.Name.{is_name_field}
use Rattle.rtm_cards.specs.declared.fault.CutWhy.{CutWhy}
use Rattle.rtm_cards.specs.Rules.{fault_of, is_ignored}
use Rattle.rtm_cards.specs.Cards.{CardText, card_of, cards_from}
use Rattle.rtm_cards.proofs.CardForm.{card_form}
use Rattle.rtm_deck_items.specs.declared.why.Why.{Why}
use Rattle.rtm_deck_items.specs.Faults.{is_in_program, HasFault, HasNone, with_line, FormFault, NoFormFault, BreaksFirst, BreaksNone, rules}
use Rattle.rtm_deck.specs.inner.View.{SeenView, ReadView, ScanView, Refusal}
use Rattle.rtm_deck.specs.inner.Roles.{role_of, is_inside_role}
use Rattle.rtm_deck.specs.inner.Seen.{after, read_card}
use Rattle.rtm_deck.specs.inner.References.{refusal}
use Rattle.rtm_deck.specs.inner.Reader.{scan, scan_on}
use Rattle.rtm_deck.proofs.Cards.SeenCards.{Sees, CallsAs}
use Rattle.rtm_deck.proofs.Cards.SeenAfter.{sees_after}
use Rattle.rtm_deck.proofs.Cards.ReadCards.{ReadAs, Accepts, CardLaw, card_law}

-- No line, of which the first has that number, breaks a rule of cutting.
abbrev pub AreCut : ℕ → List (List ℕ) → Type 0
AreCut number [] = Unit {0}
AreCut number (line ∷ lines) = (fault_of number line ≡ None) × AreCut (number + 1) lines

-- the cards behind some lines
abbrev pub behind : List CardText → ℕ → List (List ℕ) → List CardText
behind earlier number [] = earlier
behind earlier number (line ∷ lines) = behind (with_line earlier number line) (number + 1) lines

-- a card behind these others, as it was read
pub record ReadHere (earlier : List CardText) (c : CardText) (r : ReadView) : Type 0 where
  pub read : ReadAs c r
  pub calls : CallsAs c (role_of r.form)
  pub placed : is_in_program earlier ≡ is_inside_role (role_of r.form)
  pub field : IsTrue (is_name_field c.name)

-- each card was read
abbrev pub ReadEach : List CardText → List CardText → List ReadView → Type 0
ReadEach earlier [] [] = Unit {0}
ReadEach earlier [] (r ∷ rs) = ⊥
ReadEach earlier (c ∷ cs) [] = ⊥
ReadEach earlier (c ∷ cs) (r ∷ rs) = ReadHere earlier c r × ReadEach (c ∷ earlier) cs rs

-- What an answer over some lines says: a refusal is their first fault of form, whatever follows them; else there is
-- none, and a fault of form of what follows is the first.
pub record Scanned (earlier : List CardText) (number : ℕ) (lines : List (List ℕ)) (before : List ReadView) (t : ScanView) : Type 0 where
  pub sees : Sees t.seen (behind earlier number lines)
  pub none : NoFormFault earlier number lines
  pub more : (others : List (List ℕ)) (card : ℕ) (why : Why) → FormFault (behind earlier number lines) (number + length lines) others card why → FormFault earlier number (lines ++ others) card why
  pub reads : List ReadView
  pub read : t.reads ≡ before ++ reads
  pub each : ReadEach earlier (cards_from number lines) reads

abbrev pub ScanLaw : List CardText → ℕ → List (List ℕ) → List ReadView → Result ScanView Refusal → Type 0
ScanLaw earlier number lines before (Err r) = (others : List (List ℕ)) → FormFault earlier number (lines ++ others) r.card r.why
ScanLaw earlier number lines before (Ok t) = Scanned earlier number lines before t

-- a line that isn't ignored, by its card's rules
fault_of_card : (earlier : List CardText) (number : ℕ) (line : List ℕ) (why : Why) (o : Option CutWhy) → fault_of number line ≡ o → o ≡ None → is_ignored line ≡ false
    → BreaksFirst earlier (card_of number line) rules why → HasFault earlier number line o why
fault_of_card earlier number line why None e none kept b = (ap not kept, b)
fault_of_card earlier number line why (Some w) e none kept b = absurd cc

none_of_card : (earlier : List CardText) (number : ℕ) (line : List ℕ) (o : Option CutWhy) → o ≡ None → (IsTrue (not (is_ignored line)) → BreaksNone earlier (card_of number line) rules) → HasNone earlier number line o
none_of_card earlier number line None none b = b
none_of_card earlier number line (Some w) none b = absurd cc

-- one line more, which says nothing
skipped : (earlier : List CardText) (number : ℕ) (line : List ℕ) (lines : List (List ℕ)) (before : List ReadView) (r : Result ScanView Refusal) → fault_of number line ≡ None → is_ignored line ≡ true
    → ScanLaw earlier (number + 1) lines before r → ScanLaw earlier number (line ∷ lines) before r
skipped earlier number line lines before (Err r) e ignored h = λ others.
    let same : with_line earlier number line ≡ earlier = ap (λ b. if b then earlier else card_of number line ∷ earlier) ignored in
    inr (
      none_of_card earlier number line (fault_of number line) e (λ kept. let clash : false ≡ true = sym (ap not ignored) ∙ kept in absurd cc),
      subst (λ (cs : List CardText). FormFault cs (number + 1) (lines ++ others) r.card r.why) (sym same) (h others),
    )
skipped earlier number line lines before (Ok t) e ignored h =
    let same : with_line earlier number line ≡ earlier = ap (λ b. if b then earlier else card_of number line ∷ earlier) ignored in
    let none = none_of_card earlier number line (fault_of number line) e (λ kept. let clash : false ≡ true = sym (ap not ignored) ∙ kept in absurd cc) in
    record {
      sees = subst (λ (cs : List CardText). Sees t.seen (behind cs (number + 1) lines)) (sym same) h.sees;
      none = (none, subst (λ (cs : List CardText). NoFormFault cs (number + 1) lines) (sym same) h.none);
      more = λ others card why f. inr (
        none,
        subst (λ (cs : List CardText). FormFault cs (number + 1) (lines ++ others) card why) (sym same)
            (h.more others card why (subst (λ (n : ℕ). FormFault (behind earlier (number + 1) lines) n others card why) (omega arith)
            (subst (λ (cs : List CardText). FormFault (behind cs (number + 1) lines) (number + suc (length lines)) others card why) same f))),
      );
      reads = h.reads;
      read = h.read;
      each = subst (λ (cs : List CardText). ReadEach earlier cs h.reads) (sym (ap (λ b. if b then cards_from (number + 1) lines else card_of number line ∷ cards_from (number + 1) lines) ignored)) h.each;
    }

scan_skip : (reads : List ReadView) (s : SeenView) (number : ℕ) (line : List ℕ) (lines : List (List ℕ)) → is_ignored line ≡ true → scan reads s (cards_from (number + 1) lines) ≡ scan reads s (cards_from number (line ∷ lines))
scan_skip reads s number line lines ignored = ap (λ b. scan reads s (if b then cards_from (number + 1) lines else card_of number line ∷ cards_from (number + 1) lines)) (sym ignored)

scan_card : (reads : List ReadView) (s : SeenView) (number : ℕ) (line : List ℕ) (lines : List (List ℕ)) → is_ignored line ≡ false → scan reads s (card_of number line ∷ cards_from (number + 1) lines) ≡ scan reads s (cards_from number (line ∷ lines))
scan_card reads s number line lines kept = ap (λ b. scan reads s (if b then cards_from (number + 1) lines else card_of number line ∷ cards_from (number + 1) lines)) (sym kept)

-- what the rest of the scan says, of a card that was read
read_on : (earlier : List CardText) (number : ℕ) (line : List ℕ) (lines : List (List ℕ)) (before : List ReadView) (r : ReadView) (t : Result ScanView Refusal) (s : SeenView) → fault_of number line ≡ None → is_ignored line ≡ false → Sees s earlier
    → Accepts s earlier (card_of number line) r → ScanLaw (card_of number line ∷ earlier) (number + 1) lines (before ++ r ∷ []) t → ScanLaw earlier number (line ∷ lines) before t
read_on earlier number line lines before r (Err x) s e kept seen a h = λ others.
    let same : with_line earlier number line ≡ card_of number line ∷ earlier = ap (λ b. if b then earlier else card_of number line ∷ earlier) kept in
    inr (
      none_of_card earlier number line (fault_of number line) e (λ k. a.none),
      subst (λ (cs : List CardText). FormFault cs (number + 1) (lines ++ others) x.card x.why) (sym same) (h others),
    )
read_on earlier number line lines before r (Ok t) s e kept seen a h =
    let same : with_line earlier number line ≡ card_of number line ∷ earlier = ap (λ b. if b then earlier else card_of number line ∷ earlier) kept in
    let none = none_of_card earlier number line (fault_of number line) e (λ k. a.none) in
    record {
      sees = subst (λ (cs : List CardText). Sees t.seen (behind cs (number + 1) lines)) (sym same) h.sees;
      none = (none, subst (λ (cs : List CardText). NoFormFault cs (number + 1) lines) (sym same) h.none);
      more = λ others card why f. inr (
        none,
        subst (λ (cs : List CardText). FormFault cs (number + 1) (lines ++ others) card why) (sym same)
            (h.more others card why (subst (λ (n : ℕ). FormFault (behind (card_of number line ∷ earlier) (number + 1) lines) n others card why) (omega arith)
            (subst (λ (cs : List CardText). FormFault (behind cs (number + 1) lines) (number + suc (length lines)) others card why) same f))),
      );
      reads = r ∷ h.reads;
      read = h.read ∙ append_assoc before (r ∷ []) h.reads;
      each = subst (λ (cs : List CardText). ReadEach earlier cs (r ∷ h.reads)) (sym (ap (λ b. if b then cards_from (number + 1) lines else card_of number line ∷ cards_from (number + 1) lines) kept))
          (record { read = a.read; calls = a.calls; placed = sym seen.inside ∙ a.accepted.placed; field = a.accepted.field }, h.each);
    }

-- the same of one that breaks a rule
refused_here : (earlier : List CardText) (number : ℕ) (line : List ℕ) (lines : List (List ℕ)) (before : List ReadView) (why : Why) → fault_of number line ≡ None → is_ignored line ≡ false
    → BreaksFirst earlier (card_of number line) rules why → ScanLaw earlier number (line ∷ lines) before (Err (refusal number why))
refused_here earlier number line lines before why e kept b = λ others.
    inl (fault_of_card earlier number line why (fault_of number line) refl e kept b, refl)

mutual_step : (earlier : List CardText) (number : ℕ) (line : List ℕ) (lines : List (List ℕ)) (before : List ReadView) (s : SeenView) (o : Result ReadView Why) → fault_of number line ≡ None → is_ignored line ≡ false
    → IsTrue (is_name_field (card_of number line).name) → Sees s earlier → CardLaw s earlier (card_of number line) o
    → ((r : ReadView) → Accepts s earlier (card_of number line) r → ScanLaw (card_of number line ∷ earlier) (number + 1) lines (before ++ r ∷ []) (scan (before ++ r ∷ []) (after s (role_of r.form) r.name) (cards_from (number + 1) lines)))
    → ScanLaw earlier number (line ∷ lines) before (scan_on number o (λ r. scan (before ++ r ∷ []) (after s (role_of r.form) r.name) (cards_from (number + 1) lines)))
mutual_step earlier number line lines before s (Err why) e kept field h law more = refused_here earlier number line lines before why e kept law
mutual_step earlier number line lines before s (Ok r) e kept field h law more =
    read_on earlier number line lines before r (scan (before ++ r ∷ []) (after s (role_of r.form) r.name) (cards_from (number + 1) lines)) s e kept h law (more r law)

-- the reader's state behind a card that was read
sees_read : (s : SeenView) (c : CardText) (earlier : List CardText) (r : ReadView) → Accepts s earlier c r → Sees s earlier → Sees (after s (role_of r.form) r.name) (c ∷ earlier)
sees_read s c earlier r a h = subst (λ (o : Option (List ℕ)). Sees (after s (role_of r.form) o) (c ∷ earlier)) (sym a.read.name) (sees_after (role_of r.form) s c earlier a.calls a.accepted h)

by_kind : (earlier : List CardText) (number : ℕ) (line : List ℕ) (lines : List (List ℕ)) (before : List ReadView) (s : SeenView) (b : Bool) → is_ignored line ≡ b → fault_of number line ≡ None → Sees s earlier
    → ScanLaw earlier (number + 1) lines before (scan before s (cards_from (number + 1) lines))
    → ((r : ReadView) → Accepts s earlier (card_of number line) r → ScanLaw (card_of number line ∷ earlier) (number + 1) lines (before ++ r ∷ []) (scan (before ++ r ∷ []) (after s (role_of r.form) r.name) (cards_from (number + 1) lines)))
    → ScanLaw earlier number (line ∷ lines) before (scan before s (cards_from number (line ∷ lines)))
by_kind earlier number line lines before s true ignored e h skip more =
    subst (λ (t : Result ScanView Refusal). ScanLaw earlier number (line ∷ lines) before t) (scan_skip before s number line lines ignored)
    (skipped earlier number line lines before (scan before s (cards_from (number + 1) lines)) e ignored skip)
by_kind earlier number line lines before s false kept e h skip more =
    let form = card_form number line e kept in
    subst (λ (t : Result ScanView Refusal). ScanLaw earlier number (line ∷ lines) before t) (scan_card before s number line lines kept)
    (mutual_step earlier number line lines before s (read_card s (card_of number line)) e kept form.name h (card_law s (card_of number line) earlier form.name h) more)

-- the scan of some lines, behind some cards
pub scan_law : (lines : List (List ℕ)) (number : ℕ) (earlier : List CardText) (before : List ReadView) (s : SeenView) → AreCut number lines → Sees s earlier
    → ScanLaw earlier number lines before (scan before s (cards_from number lines))
scan_law [] number earlier before s cut h = record {
  sees = h;
  none = tt;
  more = λ others card why f. subst (λ (n : ℕ). FormFault earlier n others card why) (omega arith) f;
  reads = [];
  read = sym (append-nil before);
  each = tt;
}
scan_law (line ∷ lines) number earlier before s cut h =
    by_kind earlier number line lines before s (is_ignored line) refl cut.0 h (scan_law lines (number + 1) earlier before s cut.1 h)
    (λ r a. scan_law lines (number + 1) (card_of number line ∷ earlier) (before ++ r ∷ []) (after s (role_of r.form) r.name) cut.1 (sees_read s (card_of number line) earlier r a h))
