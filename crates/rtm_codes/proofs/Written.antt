-- What is written of a code spells it, in visible characters, and no spelling is shorter than the
-- short text.
use Rattle.std.proofs.Common.{◌≡◌, ℕ, zero, suc, ◌/◌, ◌%◌, ◌^◌, ◌<◌, ◌≤◌, List, [], ◌∷◌, length, map, refl, subst, inl, inr, arith}
use Rattle.std.specs.List.{AllByRecursion}
use Rattle.std.proofs.lemmas.Bool.{cases_lt, lt-ltb, le-ltb}
use Rattle.std.proofs.lemmas.Bool.Decides.{nat_tests}
use Rattle.std.proofs.Math.Nat.{pow-zero}
use Rattle.rtm_codes.specs.declared.code.Code.{Code}
use Rattle.rtm_codes.specs.declared.code.Code.TheVariants.{Sys, User}
use Rattle.rtm_codes.specs.Code.{digit_char, text_of, short_of, IsInRange, IsDigit, SpellsNumber, Spells, IsDigitOrCapital, IsVisible}
use Rattle.rtm_codes.proofs.Spellings.{Spells-one}
use Rattle.rtm_text.proofs.DigitLaws.{SpellsNumber-lt}

-- Each proof that digits spell a number gives, for the first digit, its value, the number of the others,
-- that it is a digit, that the others spell that number, and the sum.

one_digit : (base a : ℕ) → a < base → SpellsNumber base (digit_char a ∷ []) a
one_digit base a small = (a, 0, (small, refl), refl, rw pow-zero (omega arith))

two_digits : (n : ℕ) → n < 100 → SpellsNumber 10 (map digit_char ((n / 10) ∷ (n % 10) ∷ [])) n
two_digits n small =
    (n / 10, n % 10, (omega arith, refl), one_digit 10 (n % 10) (omega arith), omega arith)

three_digits : (n : ℕ) → n < 1000 →
    SpellsNumber 10 (map digit_char ((n / 100) ∷ (n / 10 % 10) ∷ (n % 10) ∷ [])) n
three_digits n small =
    let last = one_digit 10 (n % 10) (omega arith) in (
      n / 100,
      n % 100,
      (omega arith, refl),
      (n / 10 % 10, n % 10, (omega arith, refl), last, omega arith),
      omega arith,
    )

four_digits : (n : ℕ) → n ≤ 4095 →
    SpellsNumber 10 (map digit_char ((n / 1000) ∷ (n / 100 % 10) ∷ (n / 10 % 10) ∷ (n % 10) ∷ [])) n
four_digits n small =
    let last = one_digit 10 (n % 10) (omega arith) in (
      n / 1000,
      n % 1000,
      (omega arith, refl),
      (
        n / 100 % 10,
        n % 100,
        (omega arith, refl),
        (n / 10 % 10, n % 10, (omega arith, refl), last, omega arith),
        omega arith,
      ),
      omega arith,
    )

hexadecimal_digits : (n : ℕ) → n ≤ 4095 →
    SpellsNumber 16 (map digit_char ((n / 256) ∷ (n / 16 % 16) ∷ (n % 16) ∷ [])) n
hexadecimal_digits n small =
    let last = one_digit 16 (n % 16) (omega arith) in (
      n / 256,
      n % 256,
      (omega arith, refl),
      (n / 16 % 16, n % 16, (omega arith, refl), last, omega arith),
      omega arith,
    )

-- the text of a code in range spells it
pub Spells-text_of : (code : Code) → IsInRange code → Spells (text_of code) code
Spells-text_of (Sys n) h = (refl, refl, hexadecimal_digits n h)
Spells-text_of (User n) h = (refl, omega arith, omega arith, four_digits n h, h)

-- the short text of a code in range spells it
pub Spells-short_of : (code : Code) → IsInRange code → Spells (short_of code) code
Spells-short_of (Sys n) h = Spells-text_of (Sys n) h
Spells-short_of (User n) h =
    elim (cases_lt n 10) [
      | inl a ↦ rw (lt-ltb n 10 a)
          (refl, omega arith, omega arith, rw (lt-ltb n 10 a) at (one_digit 10 n a), h)
      | inr a ↦ elim (cases_lt n 100) [
        | inl b ↦ rw (le-ltb n 10 a, lt-ltb n 100 b) (refl, omega arith, omega arith, two_digits n b, h)
        | inr b ↦ elim (cases_lt n 1000) [
          | inl c ↦ rw (le-ltb n 10 a, le-ltb n 100 b, lt-ltb n 1000 c)
              (refl, omega arith, omega arith, three_digits n c, h)
          | inr c ↦ rw (le-ltb n 10 a, le-ltb n 100 b, le-ltb n 1000 c) (Spells-text_of (User n) h)
        ]
      ]
    ]

-- a short text has as many digits as the number needs
short_fits : (n k : ℕ) → 1 ≤ k → n < 10 ^ k → length (short_of (User n)) ≤ suc k
short_fits n zero some h = absurd (omega arith)
short_fits n (suc zero) some h = grind (arith, nat_tests)
short_fits n (suc (suc zero)) some h = grind (arith, nat_tests)
short_fits n (suc (suc (suc zero))) some h = grind (arith, nat_tests)
short_fits n (suc (suc (suc (suc k)))) some h = grind (arith, nat_tests)

-- no spelling of a code is shorter than its short text
pub short_of-shortest : (text : List ℕ) (code : Code) → Spells text code → length (short_of code) ≤ length text
short_of-shortest [] code s = absurd s
short_of-shortest (letter ∷ digits) (Sys n) s = omega (arith, s.1)
short_of-shortest (letter ∷ digits) (User n) s = short_fits n (length digits) s.1 (SpellsNumber-lt 10 n digits s.3)

-- every spelling has two to five characters
pub length-spelled : (text : List ℕ) (code : Code) → Spells text code → (2 ≤ length text) × (length text ≤ 5)
length-spelled [] code s = absurd s
length-spelled (letter ∷ digits) (Sys n) s = (omega (arith, s.1), omega (arith, s.1))
length-spelled (letter ∷ digits) (User n) s = (omega (arith, s.1), omega (arith, s.2))

-- the character of a digit is a digit or a capital letter
IsDigitOrCapital-digit_char : (base byte digit : ℕ) → base ≤ 16 → IsDigit base byte digit → IsDigitOrCapital byte
IsDigitOrCapital-digit_char base byte digit small d = let is = d.1 in let lt = d.0 in grind (arith, nat_tests)

digits_or_capitals : (base n : ℕ) (bytes : List ℕ) → base ≤ 16 → SpellsNumber base bytes n → AllByRecursion IsDigitOrCapital bytes
digits_or_capitals base n [] small s = tt
digits_or_capitals base n (byte ∷ bytes) small s =
    (IsDigitOrCapital-digit_char base byte s.0 small s.2, digits_or_capitals base s.1 bytes small s.3)

-- each character of a spelling is a digit or a capital letter
pub IsDigitOrCapital-spelled : (text : List ℕ) (code : Code) → Spells text code → AllByRecursion IsDigitOrCapital text
IsDigitOrCapital-spelled [] code s = absurd s
IsDigitOrCapital-spelled (letter ∷ digits) (Sys n) s =
    (inr (omega (arith, s.0), omega (arith, s.0)), digits_or_capitals 16 n digits (omega arith) s.2)
IsDigitOrCapital-spelled (letter ∷ digits) (User n) s =
    (inr (omega (arith, s.0), omega (arith, s.0)), digits_or_capitals 10 n digits (omega arith) s.3)

IsVisible-capital : (byte : ℕ) → IsDigitOrCapital byte → IsVisible byte
IsVisible-capital byte (inl h) = (omega (arith, h.0), omega (arith, h.1))
IsVisible-capital byte (inr h) = (omega (arith, h.0), omega (arith, h.1))

all_visible : (bytes : List ℕ) → AllByRecursion IsDigitOrCapital bytes → AllByRecursion IsVisible bytes
all_visible [] h = tt
all_visible (byte ∷ bytes) h = (IsVisible-capital byte h.0, all_visible bytes h.1)

-- each character of a spelling is visible
pub IsVisible-spelled : (text : List ℕ) (code : Code) → Spells text code → AllByRecursion IsVisible text
IsVisible-spelled text code s = all_visible text (IsDigitOrCapital-spelled text code s)

-- two codes in range with one text are the same
pub text_of-one : (c d : Code) → IsInRange c → IsInRange d → text_of c ≡ text_of d → c ≡ d
text_of-one c d hc hd e =
    Spells-one (text_of d) c d (subst (λ (text : List ℕ). Spells text c) e (Spells-text_of c hc)) (Spells-text_of d hd)

-- two codes in range with one short text are the same
pub short_of-one : (c d : Code) → IsInRange c → IsInRange d → short_of c ≡ short_of d → c ≡ d
short_of-one c d hc hd e =
    Spells-one (short_of d) c d (subst (λ (text : List ℕ). Spells text c) e (Spells-short_of c hc)) (Spells-short_of d hd)
