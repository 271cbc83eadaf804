-- Names with and without their padding, and sets of them.
use Rattle.std.proofs.Common.{◌≡◌, ℕ, Bool, true, false, ◌||◌, List, [], ◌∷◌, ◌++◌, length, Some, None, refl, ap, sym, ◌∙◌, ◌+◌, suc, arith, length-append}
use Rattle.std.specs.Prelude.{bytes_eq, IsTrue, if◌then◌else◌, ◌==◌}
use Rattle.std.proofs.lemmas.Bool.{ne_eqb}
use Rattle.std.proofs.lemmas.List.Folds.{list_any-append}
use Rattle.std.proofs.lemmas.Slice.Eq.{bytes_eq-Decides}
use Rattle.std.proofs.Math.Bool.{or-false}
use Rattle.rtm_cards.specs.Name.{is_name, is_name_field}
use Rattle.rtm_deck_operands.specs.Name.{padded_text, trimmed_text, is_padded_name, name_in}
use Rattle.rtm_deck_operands.proofs.Names.{trimmed_text-padded_text, padded_parts}
use Rattle.rtm_deck.specs.inner.Seen.{has_name, insert_name, with_name}

-- two tests are equal where each gives the other
pub same_test : (a b : Bool) → (a ≡ true → b ≡ true) → (b ≡ true → a ≡ true) → a ≡ b
same_test true true f g = refl
same_test false false f g = refl
same_test true false f g = sym (f refl)
same_test false true f g = g refl

pub eq_refl : (a : List ℕ) → bytes_eq a a ≡ true
eq_refl a = (bytes_eq-Decides a a).1 refl

-- a name and a text with its padding are equal where the name without its padding is the text
pub same_name : (name text : List ℕ) → IsTrue (is_padded_name name) → is_name text ≡ true → bytes_eq name (padded_text text) ≡ bytes_eq text (trimmed_text name)
same_name name text h t = same_test _ _
    (λ e.
    let same : name ≡ padded_text text = (bytes_eq-Decides name (padded_text text)).0 e in
    (bytes_eq-Decides text (trimmed_text name)).1 (sym (ap trimmed_text same ∙ trimmed_text-padded_text text t)))
    (λ e.
    let same : text ≡ trimmed_text name = (bytes_eq-Decides text (trimmed_text name)).0 e in
    (bytes_eq-Decides name (padded_text text)).1 ((padded_parts name h).whole ∙ sym (ap padded_text same)))

-- a name has characters
trimmed_ne_nil : (bytes : List ℕ) → is_name bytes ≡ true → bytes_eq [] bytes ≡ false
trimmed_ne_nil [] h = absurd cc
trimmed_ne_nil (b ∷ bs) h = refl

absorbed : (a b : Bool) → a ≡ true → (b ≡ true → a ≡ true) → a ≡ (a || b)
absorbed true b e h = refl
absorbed false b e h = absurd cc

follows : (names : List (List ℕ)) (one name : List ℕ) → has_name names one ≡ true → bytes_eq name one ≡ true → has_name names name ≡ true
follows names one name e h =
    let same : name ≡ one = (bytes_eq-Decides name one).0 h in
    ap (has_name names) same ∙ e

both_or : (a b : Bool) → (b ≡ true → a ≡ true) → a ≡ (a || b)
both_or true b h = refl
both_or false true h = h refl
both_or false false h = refl

has_inserted : (names : List (List ℕ)) (one name : List ℕ) (b : Bool) → has_name names one ≡ b → has_name (if b then names else names ++ one ∷ []) name ≡ (has_name names name || bytes_eq name one)
has_inserted names one name true e = both_or (has_name names name) (bytes_eq name one) (follows names one name e)
has_inserted names one name false e = list_any-append (bytes_eq name) names (one ∷ []) ∙ ap (λ b. has_name names name || b) (or-false (bytes_eq name one))

-- one more name is there
pub has_insert : (names : List (List ℕ)) (one name : List ℕ) → has_name (insert_name names one) name ≡ (has_name names name || bytes_eq name one)
has_insert names one name = has_inserted names one name (has_name names one) refl

-- the names behind a card with that name field: those before, and the card's
named_with : (names : List (List ℕ)) (text name : List ℕ) (b : Bool) → is_name text ≡ b → (length text == 0 || b) ≡ true → IsTrue (is_padded_name name)
    → has_name (with_name names (if b then Some (padded_text text) else None)) name ≡ (has_name names name || bytes_eq text (trimmed_text name))
named_with names text name true e field h = has_insert names (padded_text text) name ∙ ap (λ b. has_name names name || b) (same_name name text h e)
named_with names [] name false e field h = sym (ap (λ b. has_name names name || b) (trimmed_ne_nil (trimmed_text name) (padded_parts name h).name) ∙ or-false (has_name names name))
named_with names (t ∷ ts) name false e field h =
    let none : ((suc (length ts) == 0) || false) ≡ false = ap (λ b. b || false) (ne_eqb (suc (length ts)) 0 (λ e. absurd (omega (arith, e)))) in
    let clash : false ≡ true = sym none ∙ field in
    absurd cc

pub has_with : (names : List (List ℕ)) (text name : List ℕ) → IsTrue (is_name_field text) → IsTrue (is_padded_name name)
    → has_name (with_name names (name_in text)) name ≡ (has_name names name || bytes_eq text (trimmed_text name))
has_with names text name field h = named_with names text name (is_name text) refl field h

-- a set that holds no such name is longer by it
pub longer : (names : List (List ℕ)) (one : List ℕ) → has_name names one ≡ false → length (insert_name names one) ≡ length names + 1
longer names one e = longer_if names one (has_name names one) e
  where
    longer_if : (names : List (List ℕ)) (one : List ℕ) (b : Bool) → b ≡ false → length (if b then names else names ++ one ∷ []) ≡ length names + 1
    longer_if names one true e = absurd cc
    longer_if names one false e = length-append names (one ∷ [])
