-- Numbers are read again.
use Rattle.std.proofs.Common.{◌≡◌, ℕ, ◌+◌, ◌*◌, ◌/◌, ◌%◌, ◌^◌, ◌<◌, ◌≤◌, Bool, true, ◌&&◌, ltb, List, [], ◌∷◌, length, Some, refl, ap, ◌∙◌, arith}
use Rattle.std.specs.Prelude.{decimal}
use Rattle.std.specs.List.{list_all}
use Rattle.std.proofs.lemmas.Bool.{and_from, lt-ltb, le-ltb}
use Rattle.std.proofs.lemmas.Bool.Decides.{nat_tests}
use Rattle.std.proofs.lemmas.Fmt.{decimal_by_steps, length-decimal-le}
use Rattle.rtm_text.specs.Digits.{digit_char, digit_in, number_after}
use Rattle.rtm_text.specs.Numeral.{numeral}
use Rattle.rtm_text.proofs.DigitLaws.{below-lt, digit_in-digit, number_after-whole}
use Rattle.rtm_text.proofs.NumeralLaws.{numeral-spells, decimal-numeral}
use Rattle.rtm_trace.specs.Text.{reason_digits}
use Rattle.rtm_trace.specs.inner.Words.{is_inner, number_in}
use Rattle.rtm_trace.proofs.Cuts.{plain, test_append, each_test}

-- a number of at most ten digits that are read as it
read_whole : (base limit n : ℕ) (digits : List ℕ) → length digits ≤ 10 → number_after base 0 digits ≡ Some n → n < limit → number_in base limit digits ≡ Some n
read_whole base limit n digits few is small = rw (le-ltb 10 (length digits) few, is) (below-lt limit n small)

pub number_in-decimal : (limit n : ℕ) → n < 4294967296 → n < limit → number_in 10 limit (decimal n) ≡ Some n
number_in-decimal limit n h small =
    let ten : n < 10 ^ 10 = omega (arith, h) in
    let wide : n < 2 ^ 64 = omega (arith, h) in
    let spelled = number_after-whole 10 n (numeral 10 9 n) (omega arith) (numeral-spells 10 9 n (omega arith) ten) in
    read_whole 10 limit n (decimal n) (length-decimal-le 10 n (omega arith) ten wide) (ap (number_after 10 0) (decimal-numeral n ten) ∙ spelled) small

-- a digit is a byte below the letters
abbrev pub is_low : ℕ → Bool
is_low b = ltb 32 b && ltb b 58

abbrev Low : ℕ → List ℕ → Type 0
Low n digits = list_all is_low digits ≡ true

low_digit : (d : ℕ) → d < 10 → is_low (48 + d) ≡ true
low_digit d small = and_from (ltb 32 (48 + d)) (ltb (48 + d) 58) (lt-ltb 32 (48 + d) (omega arith)) (lt-ltb (48 + d) 58 (omega arith))

pub low_decimal : (n : ℕ) → n < 2 ^ 64 → list_all is_low (decimal n) ≡ true
low_decimal n h = decimal_by_steps Low
    (λ n small. and_from (is_low (48 + n)) true (low_digit n small) refl)
    (λ n digits big ih. test_append is_low digits ((48 + n % 10) ∷ []) ih (and_from (is_low (48 + n % 10)) true (low_digit (n % 10) (omega arith)) refl))
    n h

low_is_inner : (b : ℕ) → is_low b ≡ true → is_inner b ≡ true
low_is_inner b h = grind (arith, nat_tests)

pub plain_decimal : (n : ℕ) → n < 2 ^ 64 → plain (decimal n) ≡ true
plain_decimal n h = each_test is_low is_inner low_is_inner (decimal n) (low_decimal n h)

-- hexadecimal digits
hex_inner : (d : ℕ) → d < 16 → is_inner (digit_char d) ≡ true
hex_inner d small = grind (arith, nat_tests)

-- one digit more
digit_step : (k m byte d : ℕ) (bytes : List ℕ) → digit_in 16 byte ≡ Some d → k * 16 + d ≡ m → number_after 16 k (byte ∷ bytes) ≡ number_after 16 m bytes
digit_step k m byte d bytes is e = rw (is, e) refl

hex_step : (k m d : ℕ) (bytes : List ℕ) → d < 16 → k * 16 + d ≡ m → number_after 16 k (digit_char d ∷ bytes) ≡ number_after 16 m bytes
hex_step k m d bytes small e = digit_step k m (digit_char d) d bytes (digit_in-digit 16 (digit_char d) d (omega arith) (small, refl)) e

pub number_in-reason : (n : ℕ) → n < 4294967296 → number_in 16 4294967296 (reason_digits n) ≡ Some n
unfolding reason_digits
number_in-reason n h =
    let r8 : List ℕ = [] in
    let r7 : List ℕ = digit_char (n % 16) ∷ r8 in
    let r6 : List ℕ = digit_char (n / 16 % 16) ∷ r7 in
    let r5 : List ℕ = digit_char (n / 256 % 16) ∷ r6 in
    let r4 : List ℕ = digit_char (n / 4096 % 16) ∷ r5 in
    let r3 : List ℕ = digit_char (n / 65536 % 16) ∷ r4 in
    let r2 : List ℕ = digit_char (n / 1048576 % 16) ∷ r3 in
    let r1 : List ℕ = digit_char (n / 16777216 % 16) ∷ r2 in
    let whole =
    hex_step 0 (n / 268435456) (n / 268435456 % 16) r1 (omega arith) (omega arith)
    ∙ (hex_step (n / 268435456) (n / 16777216) (n / 16777216 % 16) r2 (omega arith) (omega arith)
    ∙ (hex_step (n / 16777216) (n / 1048576) (n / 1048576 % 16) r3 (omega arith) (omega arith)
    ∙ (hex_step (n / 1048576) (n / 65536) (n / 65536 % 16) r4 (omega arith) (omega arith)
    ∙ (hex_step (n / 65536) (n / 4096) (n / 4096 % 16) r5 (omega arith) (omega arith)
    ∙ (hex_step (n / 4096) (n / 256) (n / 256 % 16) r6 (omega arith) (omega arith)
    ∙ (hex_step (n / 256) (n / 16) (n / 16 % 16) r7 (omega arith) (omega arith)
    ∙ hex_step (n / 16) n (n % 16) r8 (omega arith) (omega arith))))))) in
    read_whole 16 4294967296 n (digit_char (n / 268435456 % 16) ∷ r1) (omega arith) whole h

pub plain_reason : (n : ℕ) → plain (reason_digits n) ≡ true
unfolding reason_digits
plain_reason n = rw (hex_inner (n / 268435456 % 16) (omega arith), hex_inner (n / 16777216 % 16) (omega arith), hex_inner (n / 1048576 % 16) (omega arith), hex_inner (n / 65536 % 16) (omega arith), hex_inner (n / 4096 % 16) (omega arith), hex_inner (n / 256 % 16) (omega arith), hex_inner (n / 16 % 16) (omega arith), hex_inner (n % 16) (omega arith)) refl

pub length-reason : (n : ℕ) → length (reason_digits n) ≡ 8
unfolding reason_digits
length-reason n = refl
