-- Names as fields of eight bytes (this profile).
use Rattle.std.specs.Prelude.{◌≡◌, ℕ, ◌-◌, Bool, true, false, ◌&&◌, cond, ◌==◌, if◌then◌else◌, List, ◌++◌, length, drop, take_while, replicate, Option, Some, None, IsTrue}
use Rattle.std.specs.List.{list_all}
use Rattle.rtm_cards.specs.Name.{is_name}

-- the text and blanks behind it, up to eight bytes
abbrev pub padded_text : List ℕ → List ℕ
padded_text text = text ++ replicate (8 - length text) 32

-- what a field of eight bytes has before its first blank
abbrev pub trimmed_text : List ℕ → List ℕ
trimmed_text bytes = take_while (λ b. cond (b == 32) false true) bytes

-- a name, and blanks up to eight bytes
abbrev pub is_padded_name : List ℕ → Bool
is_padded_name bytes = (length bytes == 8) && is_name (trimmed_text bytes) && list_all (λ b. b == 32) (drop (length (trimmed_text bytes)) bytes)

-- The text is a name of 1 to 8 characters, and the eight bytes are that name and blanks.
abbrev pub SpellsName : List ℕ → List ℕ → Type 0
SpellsName text bytes = IsTrue (is_name text) × (bytes ≡ padded_text text)

-- the name that a text is, with its padding, if it is one
abbrev pub name_in : List ℕ → Option (List ℕ)
name_in text = if is_name text then Some (padded_text text) else None
