-- What a completion code is, how it is written, and which word stands for it.
use Rattle.std.specs.Prelude.{◌≡◌, ℕ, ◌+◌, ◌*◌, ◌/◌, ◌%◌, ◌<◌, ◌≤◌, ◌⊎◌, Bool, false, ◌==◌, nat_lt, nat_le, if◌then◌else◌, List, [], ◌∷◌, length, map}
use Rattle.rtm_codes.specs.declared.code.Code.{Code}
use Rattle.rtm_codes.specs.declared.code.Code.TheVariants.{Sys, User}
pub use Rattle.rtm_text.specs.Digits.{digit_char, IsDigit, SpellsNumber}

-- the number of a code
abbrev pub number_of : Code → ℕ
number_of (Sys n) = n
number_of (User n) = n

-- A system code has three hexadecimal digits, and a user code is 0 to 4095 (MVS System Codes): so
-- both end at 4095.
abbrev pub IsInRange : Code → Type 0
IsInRange code = number_of code ≤ 4095

-- the same as a test
abbrev pub in_range : Code → Bool
in_range code = nat_le (number_of code) 4095

-- the test that two codes are equal
abbrev pub same_code : Code → Code → Bool
same_code (Sys m) (Sys n) = m == n
same_code (Sys m) (User n) = false
same_code (User m) (Sys n) = false
same_code (User m) (User n) = m == n

-- the letter before the digits of a system code, S
abbrev pub system_letter : ℕ
system_letter = 83

-- the letter before the digits of a user code, U
abbrev pub user_letter : ℕ
user_letter = 85

-- The text of a code in traces (this profile): S and three hexadecimal digits, or U and four decimal
-- digits.
abbrev pub text_of : Code → List ℕ
text_of (Sys n) = system_letter ∷ map digit_char ((n / 256) ∷ (n / 16 % 16) ∷ (n % 16) ∷ [])
text_of (User n) =
    user_letter ∷ map digit_char ((n / 1000) ∷ (n / 100 % 10) ∷ (n / 10 % 10) ∷ (n % 10) ∷ [])

-- The short text of a code, on cards that are written (this profile): a user code has no leading
-- zeros.
abbrev pub short_of : Code → List ℕ
short_of (Sys n) = text_of (Sys n)
short_of (User n) =
    if nat_lt n 10 then user_letter ∷ map digit_char (n ∷ [])
    else if nat_lt n 100 then user_letter ∷ map digit_char ((n / 10) ∷ (n % 10) ∷ [])
    else if nat_lt n 1000
    then user_letter ∷ map digit_char ((n / 100) ∷ (n / 10 % 10) ∷ (n % 10) ∷ [])
    else text_of (User n)

-- The text is a spelling of the code (this profile): S and three hexadecimal digits, or U and one
-- to four decimal digits of at most 4095, with or without leading zeros.
abbrev pub Spells : List ℕ → Code → Type 0
Spells [] code = ⊥
Spells (letter ∷ digits) (Sys n) =
    (letter ≡ system_letter) × (length digits ≡ 3) × SpellsNumber 16 digits n
Spells (letter ∷ digits) (User n) =
    (letter ≡ user_letter) × (1 ≤ length digits) × (length digits ≤ 4) × SpellsNumber 10 digits n
    × (n ≤ 4095)

-- a decimal digit or a capital letter
abbrev pub IsDigitOrCapital : ℕ → Type 0
IsDigitOrCapital byte = ((48 ≤ byte) × (byte ≤ 57)) ⊎ ((65 ≤ byte) × (byte ≤ 90))

-- a printable character that is not blank
abbrev pub IsVisible : ℕ → Type 0
IsVisible byte = (32 < byte) × (byte < 127)

-- The word of a code in records (this profile): a system code stands 12 bits up, and a user code
-- has the top bit.
abbrev pub packed_of : Code → ℕ
packed_of (Sys n) = n * 4096
packed_of (User n) = 2147483648 + n
