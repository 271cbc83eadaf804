-- How an operand's value is spelled (this profile; the words are those of the macros in Assembler Services Reference).
use Rattle.std.specs.Prelude.{◌≡◌, ◌≢◌, ℕ, ◌≤◌, ◌⊎◌, Bool, true, false, not, ◌&&◌, ◌||◌, ◌==◌, nat_le, List, [], length, codes}
use Rattle.rtm_codes.specs.declared.code.Code.{Code}
use Rattle.rtm_codes.specs.declared.code.Code.TheVariants.{Sys}
use Rattle.rtm_codes.specs.Code.{SpellsNumber, in_range, same_code, short_of}
use Rattle.rtm_codes.specs.Code.{Spells as SpellsCode}
use Rattle.rtm_deck_operands.specs.declared.value.Value.{Value}
use Rattle.rtm_deck_operands.specs.declared.value.Value.TheVariants as values
use Rattle.rtm_deck_operands.specs.declared.slot.Kind.{Kind}
use Rattle.rtm_deck_operands.specs.declared.slot.Kind.TheVariants as kinds
use Rattle.rtm_deck_operands.specs.declared.value.Res.{Res}
use Rattle.rtm_deck_operands.specs.declared.value.Res.TheVariants as classes
use Rattle.rtm_deck_operands.specs.declared.value.Three.{Three}
use Rattle.rtm_deck_operands.specs.declared.value.Three.TheVariants as answers
use Rattle.rtm_deck_operands.specs.Name.{SpellsName, is_padded_name, trimmed_text}
use Rattle.rtm_deck_operands.specs.Numeral.{decimal_of, hexadecimal_of}

-- YES or NO
abbrev pub yes_or_no : Bool → List ℕ
yes_or_no true = codes "YES"
yes_or_no false = codes "NO"

-- YES, NO or IGNORE, as SETRP takes them
abbrev pub three_text : Three → List ℕ
three_text answers.Yes = codes "YES"
three_text answers.No = codes "NO"
three_text answers.Ignore = codes "IGNORE"

-- the word of a class of holdings
abbrev pub class_text : Res → List ℕ
class_text classes.Enq = codes "ENQ"
class_text classes.Stor = codes "STOR"
class_text classes.Dsn = codes "DSN"
class_text classes.Timr = codes "TIMR"

-- whether a resource manager is the address space's, as RESMGR's TYPE= says it
abbrev pub scope_text : Bool → List ℕ
scope_text true = codes "SPACE"
scope_text false = codes "TASK"

-- one to ten decimal digits, with or without leading zeros, that write the number
abbrev pub SpellsDecimal : List ℕ → ℕ → Type 0
SpellsDecimal text n = (1 ≤ length text) × (length text ≤ 10) × SpellsNumber 10 text n

-- one to eight hexadecimal digits in capitals, with or without leading zeros, that write the reason
abbrev pub SpellsReason : List ℕ → ℕ → Type 0
SpellsReason text n = (1 ≤ length text) × (length text ≤ 8) × SpellsNumber 16 text n

-- a return code that SETRP takes
abbrev pub is_return_code : ℕ → Bool
is_return_code n = (n == 0) || (n == 4) || (n == 16)

-- any completion code but S000, which means normal end
abbrev pub is_abend_code : Code → Bool
is_abend_code code = in_range code && not (same_code code (Sys 0))

-- the text spells the value, where a value of that kind is asked
abbrev pub Spells : Kind → List ℕ → Value → Type 0
Spells (kinds.Word word) text values.Word = text ≡ trimmed_text word
Spells (kinds.Number least most) text (values.Number n) = SpellsDecimal text n × (least ≤ n) × (n ≤ most)
Spells kinds.ReturnCode text (values.Number n) = SpellsDecimal text n × (is_return_code n ≡ true)
Spells (kinds.Name named) text (values.Name bytes) = SpellsName text bytes
Spells kinds.Code text (values.Code code) = SpellsCode text code
Spells kinds.AbendCode text (values.Code code) = SpellsCode text code × (code ≢ Sys 0)
Spells kinds.Reason text (values.Reason n) = SpellsReason text n
Spells kinds.YesNo text (values.Flag flag) = text ≡ yes_or_no flag
Spells kinds.YesNoIgnore text (values.Three three) = text ≡ three_text three
Spells kinds.Class text (values.Class class) = text ≡ class_text class
Spells kinds.Scope text (values.Flag space) = text ≡ scope_text space
Spells _ text _ = ⊥

-- the value is one of that kind, and in its range
abbrev pub fits : Kind → Value → Bool
fits (kinds.Word word) values.Word = true
fits (kinds.Number least most) (values.Number n) = nat_le least n && nat_le n most
fits kinds.ReturnCode (values.Number n) = is_return_code n
fits (kinds.Name named) (values.Name bytes) = is_padded_name bytes
fits kinds.Code (values.Code code) = in_range code
fits kinds.AbendCode (values.Code code) = is_abend_code code
fits kinds.Reason (values.Reason n) = nat_le n 4294967295
fits kinds.YesNo (values.Flag flag) = true
fits kinds.YesNoIgnore (values.Three three) = true
fits kinds.Class (values.Class class) = true
fits kinds.Scope (values.Flag space) = true
fits _ _ = false

abbrev pub number_text : Value → List ℕ
number_text (values.Number n) = decimal_of n
number_text _ = []

abbrev pub name_text : Value → List ℕ
name_text (values.Name bytes) = trimmed_text bytes
name_text _ = []

abbrev pub code_text : Value → List ℕ
code_text (values.Code code) = short_of code
code_text _ = []

abbrev pub reason_text : Value → List ℕ
reason_text (values.Reason n) = hexadecimal_of n
reason_text _ = []

abbrev pub flag_text : (Bool → List ℕ) → Value → List ℕ
flag_text text_of (values.Flag flag) = text_of flag
flag_text text_of _ = []

abbrev pub answer_text : Value → List ℕ
answer_text (values.Three three) = three_text three
answer_text _ = []

abbrev pub class_value_text : Value → List ℕ
class_value_text (values.Class class) = class_text class
class_value_text _ = []

-- The text of a value on a card that is written: numbers and reasons without leading zeros, codes in their short
-- text, names without their padding. A value that isn't of that kind has no text.
abbrev pub value_text : Kind → Value → List ℕ
value_text (kinds.Word word) value = trimmed_text word
value_text (kinds.Number least most) value = number_text value
value_text kinds.ReturnCode value = number_text value
value_text (kinds.Name named) value = name_text value
value_text kinds.Code value = code_text value
value_text kinds.AbendCode value = code_text value
value_text kinds.Reason value = reason_text value
value_text kinds.YesNo value = flag_text yes_or_no value
value_text kinds.YesNoIgnore value = answer_text value
value_text kinds.Class value = class_value_text value
value_text kinds.Scope value = flag_text scope_text value
