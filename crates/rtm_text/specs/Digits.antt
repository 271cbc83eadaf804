-- Digits, and the numbers that they write (this profile).
use Rattle.std.specs.Prelude.{◌≡◌, ℕ, ◌+◌, ◌-◌, ◌*◌, ◌^◌, ◌<◌, ◌&&◌, nat_lt, nat_le, if◌then◌else◌, List, [], ◌∷◌, length, Option, Some, None, option_and_then}

-- the character of a digit: 0 to 9 from 48 on, and then the capitals A to F from 65 on
abbrev pub digit_char : ℕ → ℕ
digit_char d = if nat_lt d 10 then 48 + d else 55 + d

-- the byte is the character of the digit, which is below the base
abbrev pub IsDigit : ℕ → ℕ → ℕ → Type 0
IsDigit base byte digit = (digit < base) × (byte ≡ digit_char digit)

-- the bytes are digits in the base, the most significant first, and n is the number that they write
abbrev pub SpellsNumber : ℕ → List ℕ → ℕ → Type 0
SpellsNumber base [] n = n ≡ 0
SpellsNumber base (byte ∷ bytes) n =
    (digit : ℕ) × (rest : ℕ) × IsDigit base byte digit × SpellsNumber base bytes rest
    × (n ≡ digit * base ^ length bytes + rest)

-- The same, computed: digits are read as a number exactly where they spell it.

-- the digit that a byte stands for: 0 to 9, or A to F
abbrev pub hexadecimal_in : ℕ → Option ℕ
hexadecimal_in byte =
    if nat_le 48 byte && nat_le byte 57 then Some (byte - 48)
    else if nat_le 65 byte && nat_le byte 70 then Some (byte - 55)
    else None

-- the number below the limit
abbrev pub below : ℕ → ℕ → Option ℕ
below limit n = if nat_lt n limit then Some n else None

-- the digit that a byte stands for in the base
abbrev pub digit_in : ℕ → ℕ → Option ℕ
digit_in base byte = option_and_then (below base) (hexadecimal_in byte)

-- the number of the digits in the base, behind digits of the number before
abbrev pub number_after : ℕ → ℕ → List ℕ → Option ℕ
number_after base before [] = Some before
number_after base before (byte ∷ bytes) =
    option_and_then (λ digit. number_after base (before * base + digit) bytes) (digit_in base byte)
