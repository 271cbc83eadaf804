-- The code that a text spells, computed, for definitions above that compute. The relation Spells
-- says which it is: a text is read as a code exactly where it spells that code, by the law
-- `laws::reading_is_spelling`.
use Rattle.std.specs.Prelude.{ℕ, ◌&&◌, ◌==◌, nat_le, if◌then◌else◌, List, [], ◌∷◌, length, Option, Some, None, option_map, option_and_then}
use Rattle.rtm_codes.specs.declared.code.Code.{Code}
use Rattle.rtm_codes.specs.declared.code.Code.TheVariants.{Sys, User}
use Rattle.rtm_codes.specs.Code.{system_letter, user_letter}
pub use Rattle.rtm_text.specs.Digits.{hexadecimal_in, below, digit_in, number_after}

-- the number of three hexadecimal digits
abbrev pub system_number_in : List ℕ → Option ℕ
system_number_in digits = if length digits == 3 then number_after 16 0 digits else None

-- the number of one to four decimal digits, of at most 4095
abbrev pub user_number_in : List ℕ → Option ℕ
user_number_in digits =
    if nat_le 1 (length digits) && nat_le (length digits) 4
    then option_and_then (below 4096) (number_after 10 0 digits)
    else None

-- the code that a text spells, or None where it spells no code
abbrev pub code_in : List ℕ → Option Code
code_in [] = None
code_in (letter ∷ digits) =
    if letter == system_letter then option_map Sys (system_number_in digits)
    else if letter == user_letter then option_map User (user_number_in digits)
    else None
