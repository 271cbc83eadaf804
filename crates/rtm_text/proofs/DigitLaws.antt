-- A row of digits is read as a number exactly where it spells that number.
use Rattle.std.proofs.Common.{◌≡◌, ℕ, zero, suc, ◌+◌, ◌*◌, ◌^◌, ◌<◌, ◌≤◌, List, [], ◌∷◌, length, Some, refl, ap, subst, ◌∙◌, arith}
use Rattle.std.proofs.lemmas.Bool.Decides.{nat_tests}
use Rattle.std.proofs.lemmas.Option.{option_and_then_some, same_Some}
use Rattle.std.proofs.Math.Nat.{pow-zero, pow-succ', pow-le-pow_right}
use Rattle.std.proofs.lemmas.Nat.{mul-add-lt}
use Rattle.rtm_text.specs.Digits.{digit_char, IsDigit, SpellsNumber, below, hexadecimal_in, digit_in, number_after}

-- a number that was let through is below the limit
pub below-Some : (limit n m : ℕ) → below limit n ≡ Some m → (n < limit) × (n ≡ m)
below-Some limit n m e = grind (arith, nat_tests)

-- a number below the limit is let through
pub below-lt : (limit n : ℕ) → n < limit → below limit n ≡ Some n
below-lt limit n h = grind (arith, nat_tests)

hexadecimal_in-Some : (byte digit : ℕ) → hexadecimal_in byte ≡ Some digit → byte ≡ digit_char digit
hexadecimal_in-Some byte digit e = grind (arith, nat_tests)

hexadecimal_in-digit_char : (digit : ℕ) → digit < 16 → hexadecimal_in (digit_char digit) ≡ Some digit
hexadecimal_in-digit_char digit h = grind (arith, nat_tests)

-- a byte is the character of the digit that is read from it
pub digit_in-Some : (base byte digit : ℕ) → digit_in base byte ≡ Some digit → IsDigit base byte digit
digit_in-Some base byte digit e =
    option_and_then_some (below base) (hexadecimal_in byte) digit e
    (λ found is small.
    let b = below-Some base found digit small in
    (omega (arith, b.0, b.1), subst (λ (n : ℕ). byte ≡ digit_char n) b.1 (hexadecimal_in-Some byte found is)))

-- the character of a digit is read as that digit
pub digit_in-digit : (base byte digit : ℕ) → base ≤ 16 → IsDigit base byte digit → digit_in base byte ≡ Some digit
digit_in-digit base byte digit small d =
    rw (d.1, hexadecimal_in-digit_char digit (omega (arith, d.0))) (below-lt base digit d.0)

-- what one more digit in front adds
shifted : (base before digit rest power : ℕ) →
    (before * base + digit) * power + rest ≡ before * (base * power) + (digit * power + rest)
shifted base before digit rest power = omega arith

-- digits that spell a number are read as that number, behind the number before
pub number_after-spelled : (base before n : ℕ) (bytes : List ℕ) → base ≤ 16 →
    SpellsNumber base bytes n →
    number_after base before bytes ≡ Some (before * base ^ length bytes + n)
number_after-spelled base before n [] small s = ap Some (rw (pow-zero, s) (omega arith))
number_after-spelled base before n (byte ∷ bytes) small s =
    let digit = s.0 in
    let rest = s.1 in
    let power = base ^ length bytes in
    let sum : (before * base + digit) * power + rest ≡ before * base ^ suc (length bytes) + n =
    shifted base before digit rest power ∙ rw (pow-succ', s.4) refl
    in
    rw (digit_in-digit base byte digit small s.2)
    (number_after-spelled base (before * base + digit) rest bytes small s.3 ∙ ap Some sum)

-- the number that the digits spell, and what it adds
pub record IsRead (base before : ℕ) (bytes : List ℕ) (n : ℕ) : Type 0 where
  pub number : ℕ
  pub spelled : SpellsNumber base bytes number
  pub sum : n ≡ before * base ^ length bytes + number

-- digits that are read as a number, behind the number before, spell a number
pub number_after-Some : (base before n : ℕ) (bytes : List ℕ) →
    number_after base before bytes ≡ Some n → IsRead base before bytes n
number_after-Some base before n [] e =
    record { number = 0; spelled = refl; sum = rw pow-zero (omega (arith, same_Some before n e)) }
number_after-Some base before n (byte ∷ bytes) e =
    option_and_then_some (λ (digit : ℕ). number_after base (before * base + digit) bytes) (digit_in base byte) n e
    (λ digit is rest.
    let r = number_after-Some base (before * base + digit) n bytes rest in
    let power = base ^ length bytes in
    record {
      number = digit * power + r.number;
      spelled = (digit, r.number, digit_in-Some base byte digit is, r.spelled, refl);
      sum = r.sum ∙ shifted base before digit r.number power ∙ rw pow-succ' refl;
    })

-- digits before another one leave room for it
pub room : (n i : ℕ) → n < 16 ^ i → i < 10 → n * 16 + 15 < 18446744073709551616
room n i h few =
    let le : 16 ^ i ≤ 16 ^ 9 = pow-le-pow_right {n = 16} (omega arith) {i = i} {j = 9} (omega arith) in
    omega arith

-- digits that spell a number are read as it, with nothing before them
pub number_after-whole : (base n : ℕ) (digits : List ℕ) → base ≤ 16 →
    SpellsNumber base digits n → number_after base 0 digits ≡ Some n
number_after-whole base n digits small s =
    number_after-spelled base 0 n digits small s ∙ ap Some (omega arith)

-- digits that are read as a number, with nothing before them, spell it
pub whole-number_after : (base n : ℕ) (digits : List ℕ) →
    number_after base 0 digits ≡ Some n → SpellsNumber base digits n
whole-number_after base n digits e =
    let r = number_after-Some base 0 n digits e in
    let same : r.number ≡ n = omega (arith, r.sum) in
    subst (λ (m : ℕ). SpellsNumber base digits m) same r.spelled

-- k digits write a number below base ^ k
pub SpellsNumber-lt : (base n : ℕ) (digits : List ℕ) → SpellsNumber base digits n → n < base ^ length digits
SpellsNumber-lt base n [] s = rw pow-zero (omega (arith, s))
SpellsNumber-lt base n (byte ∷ bytes) s =
    let power = base ^ length bytes in
    let step : s.0 * power + s.1 < power * base = mul-add-lt s.0 power s.1 base s.2.0 (SpellsNumber-lt base s.1 bytes s.3) in
    rw pow-succ' (omega (arith, step, s.4))
