-- How the operands of a card are spelled by a table of slots (this profile).
use Rattle.std.specs.Prelude.{replicate, ◌≡◌, ℕ, ◌<◌, ◌⊎◌, Bool, true, false, not, ◌&&◌, ◌==◌, nat_le, if◌then◌else◌, List, [], ◌∷◌, ◌++◌, length, Option, Some, None, bytes_eq, IsTrue}
use Rattle.std.specs.List.{list_all}
use Rattle.rtm_deck_operands.specs.declared.value.Value.{Value}
use Rattle.rtm_deck_operands.specs.declared.value.Value.TheVariants as values
use Rattle.rtm_deck_operands.specs.declared.slot.Kind.{Kind}
use Rattle.rtm_deck_operands.specs.declared.slot.Kind.TheVariants as kinds
use Rattle.rtm_deck_operands.specs.declared.slot.LeftOut.{LeftOut}
use Rattle.rtm_deck_operands.specs.declared.slot.LeftOut.TheVariants as left_out
use Rattle.rtm_deck_operands.specs.declared.slot.Slot.{Slot}
use Rattle.rtm_deck_operands.specs.Name.{trimmed_text}
use Rattle.rtm_deck_operands.specs.Value.{Spells, fits, value_text}

abbrev pub blank : ℕ
blank = 32

abbrev pub comma : ℕ
comma = 44

abbrev pub equals : ℕ
equals = 61

-- A positional operand, whose slot has no key, is its value's text alone. A keyword operand has its key and = in front.
abbrev pub operand_text : List ℕ → List ℕ → List ℕ
operand_text [] text = text
operand_text (k ∷ ks) text = (k ∷ ks) ++ equals ∷ text

-- the operand spells the value of that slot
abbrev pub SpellsOperand : Slot → List ℕ → Value → Type 0
SpellsOperand slot operand value =
    (text : List ℕ) × (operand ≡ operand_text (trimmed_text slot.key) text) × Spells slot.kind text value

-- what leaving an operand out means; one that is needed can't be left out
abbrev pub LeftOutMeans : LeftOut → Option Value → Type 0
LeftOutMeans left_out.Needed value = ⊥
LeftOutMeans left_out.Nothing value = value ≡ None
LeftOutMeans (left_out.Flag flag) value = value ≡ Some (values.Flag flag)
LeftOutMeans (left_out.Number n) value = value ≡ Some (values.Number n)

-- A positional operand is the first of those that are left; a keyword operand stands anywhere among them.
abbrev pub StandsBehind : List ℕ → List (List ℕ) → Type 0
StandsBehind [] front = front ≡ []
StandsBehind (k ∷ ks) front = Unit {0}

-- One of these operands spells the value of the slot, and the rest is what is left.
pub record Stands (slot : Slot) (operands : List (List ℕ)) (value : Option Value) : Type 0 where
  pub front : List (List ℕ)
  pub operand : List ℕ
  pub back : List (List ℕ)
  pub spelled : Value
  pub whole : operands ≡ front ++ operand ∷ back
  pub place : StandsBehind (trimmed_text slot.key) front
  pub spells : SpellsOperand slot operand spelled
  pub is : value ≡ Some spelled

-- The operands, in any order that their slots allow, spell one value for each slot: each slot is left out, or one of
-- the operands spells its value, and the others spell the values of the other slots. No operand is left over.
abbrev pub SpellsSlots : List Slot → List (List ℕ) → List (Option Value) → Type 0
SpellsSlots [] operands [] = operands ≡ []
SpellsSlots [] operands (value ∷ values) = ⊥
SpellsSlots (slot ∷ slots) operands [] = ⊥
SpellsSlots (slot ∷ slots) operands (value ∷ values) =
    (LeftOutMeans slot.left_out value × SpellsSlots slots operands values)
    ⊎ ((s : Stands slot operands value) × SpellsSlots slots (s.front ++ s.back) values)

abbrev pub is_flag : Bool → Value → Bool
is_flag flag (values.Flag own) = if flag then own else not own
is_flag flag _ = false

abbrev pub is_number : ℕ → Value → Bool
is_number n (values.Number own) = own == n
is_number n _ = false

-- the value is what leaving the operand out means
abbrev pub is_default : LeftOut → Value → Bool
is_default left_out.Needed value = false
is_default left_out.Nothing value = false
is_default (left_out.Flag flag) value = is_flag flag value
is_default (left_out.Number n) value = is_number n value

-- the value of a slot on a card that is written, where it isn't what leaving it out means
abbrev pub canon_operand : Slot → Option Value → List (List ℕ)
canon_operand slot None = []
canon_operand slot (Some value) =
    if is_default slot.left_out value then []
    else operand_text (trimmed_text slot.key) (value_text slot.kind value) ∷ []

-- the operands of a card that is written, in the order of its table
abbrev pub canon_operands : List Slot → List (Option Value) → List (List ℕ)
canon_operands [] values = []
canon_operands (slot ∷ slots) [] = []
canon_operands (slot ∷ slots) (value ∷ values) = canon_operand slot value ++ canon_operands slots values

-- each operand behind its separator, which is a comma for all but the first
abbrev pub separated_operands : ℕ → List (List ℕ) → List ℕ
separated_operands separator [] = []
separated_operands separator (operand ∷ operands) = separator ∷ operand ++ separated_operands comma operands

-- the separator of an operand behind these
abbrev pub separator_after : ℕ → List (List ℕ) → ℕ
separator_after separator [] = separator
separator_after separator (operand ∷ operands) = comma

-- the operand field with the blank before it, and nothing where there are no operands
abbrev pub field_of : List (List ℕ) → List ℕ
field_of operands = separated_operands blank operands

-- leaving the operand out gives no value
abbrev pub means_nothing : LeftOut → Bool
means_nothing left_out.Nothing = true
means_nothing _ = false

-- there is no value where leaving the operand out gives none, or a value that fits
abbrev pub slot_fits : Slot → Option Value → Bool
slot_fits slot None = means_nothing slot.left_out
slot_fits slot (Some value) = fits slot.kind value

-- one value for each slot, and each fits
abbrev pub slots_fit : List Slot → List (Option Value) → Bool
slots_fit [] [] = true
slots_fit [] (value ∷ values) = false
slots_fit (slot ∷ slots) [] = false
slots_fit (slot ∷ slots) (value ∷ values) = slot_fits slot value && slots_fit slots values

abbrev pub FitsSlots : List Slot → List (Option Value) → Type 0
FitsSlots slots values = IsTrue (slots_fit slots values)

-- a byte of an operand on a card that is written: printable, no blank and no comma
abbrev pub is_operand_byte : ℕ → Bool
is_operand_byte b = nat_le 33 b && nat_le b 126 && not (b == comma)

-- an operand on a card that is written: it has bytes, and each may stand there
abbrev pub is_operand_text : List ℕ → Bool
is_operand_text text = not (length text == 0) && list_all is_operand_byte text

abbrev pub IsOperandText : List ℕ → Type 0
IsOperandText text = IsTrue (is_operand_text text)

-- a byte of a key
abbrev pub is_key_byte : ℕ → Bool
is_key_byte b = is_operand_byte b && not (b == equals)

abbrev pub is_positional : Slot → Bool
is_positional slot = length (trimmed_text slot.key) == 0

-- a fixed word can stand as an operand, and a number has at most 32 bits
abbrev pub kind_is_well_made : Kind → Bool
kind_is_well_made (kinds.Word word) = is_operand_text (trimmed_text word)
kind_is_well_made (kinds.Number least most) = nat_le most 4294967295
kind_is_well_made _ = true

-- what leaving the operand out means is a value that fits
abbrev pub default_fits : Kind → LeftOut → Bool
default_fits kind left_out.Needed = true
default_fits kind left_out.Nothing = true
default_fits kind (left_out.Flag flag) = fits kind (values.Flag flag)
default_fits kind (left_out.Number n) = fits kind (values.Number n)

abbrev pub is_needed : LeftOut → Bool
is_needed left_out.Needed = true
is_needed _ = false

abbrev pub slot_is_well_made : Slot → Bool
slot_is_well_made slot =
    list_all is_key_byte (trimmed_text slot.key) && kind_is_well_made slot.kind && default_fits slot.kind slot.left_out

-- the slot is a keyword's, and not of that key
abbrev pub has_other_key : List ℕ → Slot → Bool
has_other_key key slot = not (is_positional slot) && not (bytes_eq (trimmed_text slot.key) key)

-- Positional slots stand first and are needed, and no key stands twice.
abbrev pub slots_are_in_order : List Slot → Bool
slots_are_in_order [] = true
slots_are_in_order (slot ∷ slots) =
    (if is_positional slot then is_needed slot.left_out else list_all (has_other_key (trimmed_text slot.key)) slots)
    && slots_are_in_order slots

-- a table that can be read: at most eight slots, each well made, and in order
abbrev pub well_made : List Slot → Bool
well_made slots = nat_le (length slots) 8 && list_all slot_is_well_made slots && slots_are_in_order slots

abbrev pub IsWellMade : List Slot → Type 0
IsWellMade slots = IsTrue (well_made slots)

-- a positional operand
abbrev pub positional_slot : Kind → Slot
positional_slot kind = record { key = replicate 8 blank; kind = kind; left_out = left_out.Needed }

-- a keyword operand that can't be left out
abbrev pub needed_slot : List ℕ → Kind → Slot
needed_slot key kind = record { key = key; kind = kind; left_out = left_out.Needed }

-- one that gives no value where it is left out
abbrev pub optional_slot : List ℕ → Kind → Slot
optional_slot key kind = record { key = key; kind = kind; left_out = left_out.Nothing }

-- one that stands for a flag where it is left out
abbrev pub default_flag : List ℕ → Kind → Bool → Slot
default_flag key kind flag = record { key = key; kind = kind; left_out = left_out.Flag flag }

-- one that stands for a number where it is left out
abbrev pub default_number : List ℕ → Kind → ℕ → Slot
default_number key kind n = record { key = key; kind = kind; left_out = left_out.Number n }
