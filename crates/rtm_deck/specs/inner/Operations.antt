-- What a card does, by its form and the values of its operands.
use Rattle.std.specs.Prelude.{ℕ, Bool, false, nat_lt, if◌then◌else◌, List, [], ◌∷◌, Option, Some, None, unwrap_or, option_map, position, bytes_eq, slice_get}
use Rattle.std.specs.Option.{option_flatten, option_or}
use Rattle.rtm_codes.specs.declared.code.Code.{Code}
use Rattle.rtm_codes.specs.declared.code.Code.TheVariants.{Sys}
use Rattle.rtm_deck_operands.specs.declared.value.Value.{Value}
use Rattle.rtm_deck_operands.specs.declared.value.Value.TheVariants as values
use Rattle.rtm_deck_operands.specs.declared.value.Three.{Three}
use Rattle.rtm_deck_operands.specs.declared.value.Res.{Res}
use Rattle.rtm_deck_operands.specs.declared.value.Res.TheVariants as classes
use Rattle.rtm_deck_items.specs.declared.form.CardForm.{CardForm}
use Rattle.rtm_deck_items.specs.declared.form.CardForm.TheVariants as forms
use Rattle.rtm_deck_items.specs.declared.op.Op.{Op}
use Rattle.rtm_deck_items.specs.declared.op.Op.TheVariants as ops
use Rattle.rtm_deck_items.specs.declared.op.Setrp.{Setrp}
use Rattle.rtm_deck.specs.inner.View.{SeenView}

-- the value at that place
abbrev pub value_at : List (Option Value) → ℕ → Option Value
value_at vs i = option_flatten (slice_get vs i)

abbrev pub flag_in : Option Value → Option Bool
flag_in (Some (values.Flag flag)) = Some flag
flag_in _ = None

abbrev pub number_in : Option Value → Option ℕ
number_in (Some (values.Number n)) = Some n
number_in _ = None

abbrev pub reason_in : Option Value → Option ℕ
reason_in (Some (values.Reason n)) = Some n
reason_in _ = None

abbrev pub code_in : Option Value → Option Code
code_in (Some (values.Code code)) = Some code
code_in _ = None

abbrev pub name_in : Option Value → Option (List ℕ)
name_in (Some (values.Name name)) = Some name
name_in _ = None

abbrev pub three_in : Option Value → Option Three
three_in (Some (values.Three three)) = Some three
three_in _ = None

abbrev pub class_in : Option Value → Option Res
class_in (Some (values.Class class)) = Some class
class_in _ = None

abbrev pub flag_at : List (Option Value) → ℕ → Bool
flag_at vs i = unwrap_or (flag_in (value_at vs i)) false

abbrev pub number_at : List (Option Value) → ℕ → ℕ
number_at vs i = unwrap_or (number_in (value_at vs i)) 0

-- a number of at most 255, else 0
abbrev pub narrow : ℕ → ℕ
narrow n = if nat_lt n 256 then n else 0

abbrev pub byte_at : List (Option Value) → ℕ → ℕ
byte_at vs i = narrow (number_at vs i)

abbrev pub code_at : List (Option Value) → ℕ → Code
code_at vs i = unwrap_or (code_in (value_at vs i)) (Sys 0)

abbrev pub class_at : List (Option Value) → ℕ → Res
class_at vs i = unwrap_or (class_in (value_at vs i)) classes.Enq

abbrev pub reason_at : List (Option Value) → ℕ → Option ℕ
reason_at vs i = reason_in (value_at vs i)

-- a name that stands where a card gives none; no card that was read leaves it so
abbrev pub no_name : List ℕ
no_name = 64 ∷ 32 ∷ 32 ∷ 32 ∷ 32 ∷ 32 ∷ 32 ∷ 32 ∷ []

abbrev pub label_at : List (Option Value) → ℕ → List ℕ
label_at vs i = unwrap_or (name_in (value_at vs i)) no_name

-- the number of a name among names, where there are at most 65,536
abbrev pub index_in : List (List ℕ) → List ℕ → ℕ
index_in names name = let i = unwrap_or (position (bytes_eq name) names) 0 in if nat_lt i 65536 then i else 0

-- the number of the program or unit that the value names, if there is one
abbrev pub named_number_in : List (List ℕ) → Option Value → Option ℕ
named_number_in names value = option_map (index_in names) (name_in value)

abbrev pub named_number_at : List (List ℕ) → List (Option Value) → ℕ → ℕ
named_number_at names vs i = unwrap_or (named_number_in names (value_at vs i)) 0

-- the options of a SETRP card
abbrev pub setrp_of : List (Option Value) → Setrp
setrp_of vs = record {
  rc = option_map narrow (number_in (value_at vs 0));
  retaddr = name_in (value_at vs 1);
  remrec = flag_in (value_at vs 2);
  compcod = code_in (value_at vs 3);
  reason = reason_at vs 4;
  dump = three_in (value_at vs 5);
  logrec = three_in (value_at vs 6);
  fresdwa = flag_in (value_at vs 7);
}

-- what a card does by itself, or with a program as its next; none of other cards
abbrev pub plain_op : SeenView → CardForm → List (Option Value) → Option Op
plain_op s forms.Nop vs = Some ops.Nop
plain_op s forms.Get vs = Some (ops.Get (class_at vs 0) (number_at vs 1))
plain_op s forms.Free vs = Some (ops.Free (class_at vs 0) (number_at vs 1))
plain_op s forms.Link vs = Some (ops.Link (named_number_at s.programs vs 0))
plain_op s forms.Xctl vs = Some (ops.Xctl (named_number_at s.programs vs 0))
plain_op s forms.Return vs = Some ops.Return
plain_op s forms.Abend vs = Some (ops.Abend (code_at vs 0) (reason_at vs 1) (flag_at vs 2) (flag_at vs 3))
plain_op s forms.Wait vs = Some (ops.Wait (byte_at vs 0))
plain_op s forms.Post vs = Some (ops.Post (byte_at vs 0))
plain_op s forms.SetRp vs = Some (ops.SetRp (setrp_of vs))
plain_op s forms.Ret15 vs = Some (ops.Ret15 (byte_at vs 0) (name_in (value_at vs 1)))
plain_op s _ vs = None

-- what a card does with a recovery routine or a resource manager; none of other cards
abbrev pub routine_op : SeenView → CardForm → List (Option Value) → Option Op
routine_op s forms.EstaexCt vs = Some (ops.EstaexCt (named_number_at s.programs vs 1) (flag_at vs 2) (flag_at vs 3) (flag_at vs 4))
routine_op s forms.EstaexOv vs = Some (ops.EstaexOv (named_number_at s.programs vs 1) (flag_at vs 2) (flag_at vs 3) (flag_at vs 4))
routine_op s forms.EstaexZero vs = Some ops.EstaexZero
routine_op s forms.FrrAdd vs = Some (ops.FrrAdd (named_number_at s.programs vs 1))
routine_op s forms.FrrDelete vs = Some ops.FrrDelete
routine_op s forms.FrrReplace vs = Some (ops.FrrReplace (named_number_at s.programs vs 1))
routine_op s forms.FrrPurge vs = Some ops.FrrPurge
routine_op s forms.MgrAdd vs = Some (ops.MgrAdd (named_number_at s.programs vs 1) (flag_at vs 2))
routine_op s forms.MgrDelete vs = Some (ops.MgrDelete (named_number_at s.programs vs 1) (flag_at vs 2))
routine_op s _ vs = None

-- what a card does to a unit of work, or by a label; none of other cards
abbrev pub unit_op : SeenView → CardForm → List (Option Value) → Option Op
unit_op s forms.Attachx vs = Some (ops.Attachx (named_number_at s.units vs 0) None false)
unit_op s forms.AttachxEstai vs = Some (ops.Attachx (named_number_at s.units vs 0) (Some (named_number_at s.programs vs 1)) (flag_at vs 2))
unit_op s forms.Detach vs = Some (ops.Detach (named_number_at s.units vs 0) (flag_at vs 1))
unit_op s forms.Abterm vs = Some (ops.Abterm (named_number_at s.units vs 1) (code_at vs 2) (reason_at vs 3) (flag_at vs 4) (flag_at vs 5))
unit_op s forms.Memterm vs = Some (ops.Memterm (code_at vs 1))
unit_op s forms.Schedule vs = Some (ops.Schedule (named_number_at s.units vs 0))
unit_op s forms.WaitTask vs = Some (ops.WaitTask (named_number_at s.units vs 0))
unit_op s forms.Branch vs = Some (ops.Branch (label_at vs 0))
unit_op s forms.IfCode vs = Some (ops.IfCode (code_at vs 0) (label_at vs 1))
unit_op s forms.IfClup vs = Some (ops.IfClup (label_at vs 0))
unit_op s forms.IfPerc vs = Some (ops.IfPerc (label_at vs 0))
unit_op s _ vs = None

-- what the card does, if it is one of a program, with the numbers of the programs and units that it names
abbrev pub op_in : SeenView → CardForm → List (Option Value) → Option Op
op_in s form vs = option_or (plain_op s form vs) (option_or (routine_op s form vs) (unit_op s form vs))

-- what a card of a program does
abbrev pub op_of : SeenView → CardForm → List (Option Value) → Op
op_of s form vs = unwrap_or (op_in s form vs) ops.Nop
