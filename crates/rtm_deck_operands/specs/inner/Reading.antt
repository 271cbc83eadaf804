-- The values that operands spell, computed. The relation SpellsSlots says which they are: operands are read as some
-- values exactly where they spell those values, by the law `laws::reading_is_spelling`.
use Rattle.std.specs.Prelude.{ℕ, Bool, true, false, ◌&&◌, ◌==◌, nat_eq, nat_le, if◌then◌else◌, List, [], ◌∷◌, length, take, drop, remove, slice_index_or, bytes_eq, Option, Some, None, is_some, option_map, option_and_then}
use Rattle.std.specs.List.{position_from}
use Rattle.rtm_codes.specs.declared.code.Code.{Code}
use Rattle.rtm_codes.specs.Reading.{code_in, number_after}
use Rattle.rtm_deck_operands.specs.declared.value.Value.{Value}
use Rattle.rtm_deck_operands.specs.declared.value.Value.TheVariants as values
use Rattle.rtm_deck_operands.specs.declared.value.Three.{Three}
use Rattle.rtm_deck_operands.specs.declared.value.Three.TheVariants as answers
use Rattle.rtm_deck_operands.specs.declared.value.Res.{Res}
use Rattle.rtm_deck_operands.specs.declared.value.Res.TheVariants as classes
use Rattle.rtm_deck_operands.specs.declared.slot.Kind.{Kind}
use Rattle.rtm_deck_operands.specs.declared.slot.Kind.TheVariants as kinds
use Rattle.rtm_deck_operands.specs.declared.slot.LeftOut.{LeftOut}
use Rattle.rtm_deck_operands.specs.declared.slot.LeftOut.TheVariants as left_out
use Rattle.rtm_deck_operands.specs.declared.slot.Slot.{Slot}
use Rattle.rtm_deck_operands.specs.Name.{trimmed_text, name_in}
use Rattle.rtm_deck_operands.specs.Value.{yes_or_no, three_text, class_text, scope_text, is_return_code, is_abend_code}
use Rattle.rtm_deck_operands.specs.Slot.{equals}

-- the value, where it passes the test
abbrev pub value_if : {A : Type 0} → (A → Bool) → A → Option A
value_if test x = if test x then Some x else None

-- the number of one to `width` digits in the base, where it lies between the two
abbrev pub number_in : ℕ → ℕ → ℕ → ℕ → List ℕ → Option ℕ
number_in base width least most text =
    if nat_le 1 (length text) && nat_le (length text) width
    then option_and_then (value_if (λ n. nat_le least n && nat_le n most)) (number_after base 0 text)
    else None

-- which of the two texts of a flag it is
abbrev pub flag_in : (Bool → List ℕ) → List ℕ → Option Bool
flag_in text_of text =
    if bytes_eq text (text_of true) then Some true
    else (if bytes_eq text (text_of false) then Some false else None)

abbrev pub three_in : List ℕ → Option Three
three_in text =
    if bytes_eq text (three_text answers.Yes) then Some answers.Yes
    else (if bytes_eq text (three_text answers.No) then Some answers.No
    else (if bytes_eq text (three_text answers.Ignore) then Some answers.Ignore
    else None))

abbrev pub class_in : List ℕ → Option Res
class_in text =
    if bytes_eq text (class_text classes.Enq) then Some classes.Enq
    else (if bytes_eq text (class_text classes.Stor) then Some classes.Stor
    else (if bytes_eq text (class_text classes.Dsn) then Some classes.Dsn
    else (if bytes_eq text (class_text classes.Timr) then Some classes.Timr
    else None)))

-- the value of that kind that a text spells
abbrev pub value_in : Kind → List ℕ → Option Value
value_in (kinds.Word word) text = if bytes_eq text (trimmed_text word) then Some values.Word else None
value_in (kinds.Number least most) text = option_map values.Number (number_in 10 10 least most text)
value_in kinds.ReturnCode text =
    option_map values.Number (option_and_then (value_if is_return_code) (number_in 10 10 0 4294967295 text))
value_in (kinds.Name named) text = option_map values.Name (name_in text)
value_in kinds.Code text = option_map values.Code (code_in text)
value_in kinds.AbendCode text = option_map values.Code (option_and_then (value_if is_abend_code) (code_in text))
value_in kinds.Reason text = option_map values.Reason (number_in 16 8 0 4294967295 text)
value_in kinds.YesNo text = option_map values.Flag (flag_in yes_or_no text)
value_in kinds.YesNoIgnore text = option_map values.Three (three_in text)
value_in kinds.Class text = option_map values.Class (class_in text)
value_in kinds.Scope text = option_map values.Flag (flag_in scope_text text)

-- what stands behind =
abbrev pub behind_equals : List ℕ → Option (List ℕ)
behind_equals [] = None
behind_equals (b ∷ bs) = if b == equals then Some bs else None

-- what stands behind the key and =
abbrev pub behind_key : List ℕ → List ℕ → Option (List ℕ)
behind_key key operand =
    if bytes_eq (take (length key) operand) key then behind_equals (drop (length key) operand) else None

abbrev pub has_key : List ℕ → List ℕ → Bool
has_key key operand = is_some (behind_key key operand)

-- the text of the value; that of a positional operand is the whole operand
abbrev pub written_in : List ℕ → List ℕ → Option (List ℕ)
written_in [] operand = Some operand
written_in (k ∷ ks) operand = behind_key (k ∷ ks) operand

-- which of the operands is the slot's: the first for a positional slot, else the first that has its key
abbrev pub place_of : List ℕ → List (List ℕ) → Option ℕ
place_of [] [] = None
place_of [] (operand ∷ operands) = Some 0
place_of (k ∷ ks) operands = position_from (has_key (k ∷ ks)) 0 operands

-- what leaving the operand out means, or None where it is needed
abbrev pub meaning_of : LeftOut → Option (Option Value)
meaning_of left_out.Needed = None
meaning_of left_out.Nothing = Some None
meaning_of (left_out.Flag flag) = Some (Some (values.Flag flag))
meaning_of (left_out.Number n) = Some (Some (values.Number n))

-- the value of a slot that an operand spells
abbrev pub operand_in : Slot → List ℕ → Option Value
operand_in slot operand = option_and_then (value_in slot.kind) (written_in (trimmed_text slot.key) operand)

-- the value of a slot, and the operands that are left
pub record Taken : Type 0 where
  pub value : Option Value
  pub rest : List (List ℕ)

abbrev pub taken_value : List (List ℕ) → Option Value → Taken
taken_value rest value = record { value = value; rest = rest }

-- what is taken, where the slot's operand stands there
abbrev pub take_at : Slot → List (List ℕ) → Option ℕ → Option Taken
take_at slot operands None = option_map (taken_value operands) (meaning_of slot.left_out)
take_at slot operands (Some i) =
    option_map (λ value. taken_value (remove operands i) (Some value)) (operand_in slot (slice_index_or operands i []))

abbrev pub take_operand : Slot → List (List ℕ) → Option Taken
take_operand slot operands = take_at slot operands (place_of (trimmed_text slot.key) operands)

-- the values of the slots, where no operand is left over
abbrev pub read_slots : List Slot → List (List ℕ) → Option (List (Option Value))
read_slots [] operands = if length operands == 0 then Some [] else None
read_slots (slot ∷ slots) operands =
    option_and_then (λ t. option_map (λ values. t.value ∷ values) (read_slots slots t.rest)) (take_operand slot operands)
