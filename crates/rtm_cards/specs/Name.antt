-- Names of programs, units and labels (this profile).
use Rattle.std.specs.Prelude.{ℕ, Bool, false, ◌&&◌, ◌||◌, ◌==◌, nat_lt, nat_le, List, [], ◌∷◌, length, IsTrue}
use Rattle.std.specs.List.{list_all}

-- A to Z, @, # or $
abbrev pub is_letter : ℕ → Bool
is_letter b = (nat_le 65 b && nat_le b 90) || b == 64 || b == 35 || b == 36

-- a letter, or 0 to 9
abbrev pub is_name_byte : ℕ → Bool
is_name_byte b = is_letter b || (nat_le 48 b && nat_le b 57)

-- a letter, and up to seven letters and digits behind it
abbrev pub is_name : List ℕ → Bool
is_name [] = false
is_name (b ∷ bs) = is_letter b && nat_lt (length bs) 8 && list_all is_name_byte bs

abbrev pub IsName : List ℕ → Type 0
IsName text = IsTrue (is_name text)

-- a name, or no bytes where none is given
abbrev pub is_name_field : List ℕ → Bool
is_name_field text = length text == 0 || is_name text
