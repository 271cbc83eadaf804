-- What is written, piece by piece.
use Rattle.std.proofs.Common.{◌≡◌, ℕ, zero, suc, ◌+◌, ◌-◌, ◌/◌, ◌%◌, ◌<◌, ◌≤◌, Bool, true, false, cond, eqb, ltb, List, [], ◌∷◌, ◌++◌, append_assoc, length, get_or, take, drop, Option, Some, None, refl, ap, sym, ◌∙◌, add-one, arith}
use Rattle.std.proofs.Math.Seq.{drop-cons}
use Rattle.std.proofs.lemmas.List.Sums.{take_while-cons}
use Rattle.std.proofs.lemmas.Bool.{ne_eqb}
use Rattle.rtm_deck_operands.specs.Name.{trimmed_text}
use Rattle.rtm_deck_operands.specs.Slot.{separated_operands, separator_after}

-- from a blank on nothing is kept, and else the byte and what is kept behind it
trimmed_text-drop : (bytes : List ℕ) (i : ℕ) → i < length bytes →
    trimmed_text (drop i bytes) ≡ cond (eqb (get_or bytes i 0) 32) [] (get_or bytes i 0 ∷ trimmed_text (drop (i + 1) bytes))
trimmed_text-drop bytes i h = rw (drop-cons bytes i 0 h) (rw (take_while-cons (λ b. cond (eqb b 32) false true) (get_or bytes i 0) (drop (suc i) bytes)) (go (eqb (get_or bytes i 0) 32)))
  where
    go : (t : Bool) → cond (cond t false true) (get_or bytes i 0 ∷ trimmed_text (drop (suc i) bytes)) [] ≡ cond t [] (get_or bytes i 0 ∷ trimmed_text (drop (i + 1) bytes))
    go true = refl
    go false = rw (add-one i) refl

-- what is written, with one more byte that is no blank
pub trimmed_text-more : (bytes out more start : List ℕ) (i : ℕ) → i < length bytes → (get_or bytes i 0 ≡ 32 → ⊥) →
    out ++ trimmed_text (drop i bytes) ≡ start → more ≡ out ++ get_or bytes i 0 ∷ [] → more ++ trimmed_text (drop (i + 1) bytes) ≡ start
trimmed_text-more bytes out more start i h other before is =
    let kept : trimmed_text (drop i bytes) ≡ get_or bytes i 0 ∷ trimmed_text (drop (i + 1) bytes) = rw (trimmed_text-drop bytes i h) (rw (ne_eqb _ _ other) refl) in
    rw is (rw (append_assoc out (get_or bytes i 0 ∷ []) (trimmed_text (drop (i + 1) bytes))) (rw (sym kept) before))

-- operands in a row, behind others
pub separated_operands-append : (separator : ℕ) (xs ys : List (List ℕ)) → separated_operands separator (xs ++ ys) ≡ separated_operands separator xs ++ separated_operands (separator_after separator xs) ys
separated_operands-append separator [] ys = refl
separated_operands-append separator (x ∷ []) ys = ap (λ (zs : List ℕ). separator ∷ zs) (rw (append_assoc x [] (separated_operands 44 ys)) refl)
separated_operands-append separator (x ∷ y ∷ xs) ys =
    ap (λ (zs : List ℕ). separator ∷ zs) (ap (λ (zs : List ℕ). x ++ zs) (separated_operands-append 44 (y ∷ xs) ys) ∙ sym (append_assoc x (separated_operands 44 (y ∷ xs)) (separated_operands 44 ys)))
