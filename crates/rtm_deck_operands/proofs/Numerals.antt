-- Digits are plain on a card that is written.
use Rattle.std.proofs.Common.{◌≡◌, ℕ, zero, suc, ◌/◌, ◌%◌, ◌<◌, ◌≤◌, true, [], ◌∷◌, refl, inl, inr, arith}
use Rattle.std.specs.List.{list_all}
use Rattle.std.proofs.lemmas.Bool.{cases_lt, lt-ltb, le-ltb}
use Rattle.std.proofs.lemmas.Bool.Decides.{nat_tests}
use Rattle.std.proofs.lemmas.List.Folds.{list_all-append}
use Rattle.std.proofs.Math.Nat.{mod-lt}
use Rattle.rtm_text.specs.Digits.{digit_char}
use Rattle.rtm_text.specs.Numeral.{numeral}
use Rattle.rtm_deck_operands.specs.Slot.{is_operand_byte}

digit_is_plain : (d : ℕ) → d < 16 → is_operand_byte (digit_char d) ≡ true
digit_is_plain d small = grind (arith, nat_tests)

pub numeral-plain : (base others n : ℕ) → 0 < base → base ≤ 16 → list_all is_operand_byte (numeral base others n) ≡ true
numeral-plain base zero n some small =
    let lt = mod-lt n {m = base} some in rw (digit_is_plain (n % base) (omega arith)) refl
numeral-plain base (suc others) n some small =
    let lt = mod-lt n {m = base} some in
    let last = digit_is_plain (n % base) (omega arith) in
    elim (cases_lt n base) [
      | inl less ↦ rw (lt-ltb n base less, last) refl
      | inr big ↦ rw (le-ltb n base big, list_all-append is_operand_byte (numeral base others (n / base)) (digit_char (n % base) ∷ []), numeral-plain base others (n / base) some small, last) refl
    ]
