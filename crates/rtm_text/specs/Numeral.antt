-- Numbers in digits without leading zeros (this profile). In decimal digits they are what std writes as `decimal`.
use Rattle.std.specs.Prelude.{ℕ, zero, suc, ◌/◌, ◌%◌, nat_lt, if◌then◌else◌, List, [], ◌∷◌, ◌++◌}
use Rattle.rtm_text.specs.Digits.{digit_char}

-- The digits of a number in a base, without leading zeros: those of the number without its last digit, of which there
-- are at most `others`, and its last digit.
abbrev pub numeral : ℕ → ℕ → ℕ → List ℕ
numeral base zero n = digit_char (n % base) ∷ []
numeral base (suc others) n =
    (if nat_lt n base then [] else numeral base others (n / base)) ++ digit_char (n % base) ∷ []

-- a number of at most ten decimal digits, without leading zeros
unfoldable pub decimal_of : ℕ → List ℕ
decimal_of n = numeral 10 9 n

-- a number of at most eight hexadecimal digits in capitals, without leading zeros
unfoldable pub hexadecimal_of : ℕ → List ℕ
hexadecimal_of n = numeral 16 7 n
