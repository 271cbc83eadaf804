-- What all cards of programs have in common.
use Rattle.std.proofs.Common.{◌≡◌, ℕ, Bool, true, false, List, ◌∷◌, Some, None, refl}
use Rattle.rtm_deck_operands.specs.Name.{padded_text}
use Rattle.rtm_deck_items.specs.declared.op.Op.{Op}
use Rattle.rtm_deck_items.specs.declared.op.Op.TheVariants as ops
use Rattle.rtm_deck_items.specs.declared.form.CardForm.{CardForm}
use Rattle.rtm_deck_items.specs.declared.form.CardForm.TheVariants as forms
use Rattle.rtm_deck_items.specs.Items.{form_of_op}

-- the name that the card of a program brings, and the others
abbrev pub program_name_then : CardForm → List ℕ → List (List ℕ) → List (List ℕ)
program_name_then forms.Prog name rest = padded_text name ∷ rest
program_name_then _ name rest = rest

-- the name that the card of a unit brings, and the others
abbrev pub unit_name_then : CardForm → List ℕ → List (List ℕ) → List (List ℕ)
unit_name_then forms.Task name rest = padded_text name ∷ rest
unit_name_then forms.Srb name rest = padded_text name ∷ rest
unit_name_then _ name rest = rest

-- the form is that of a card between PROG and PEND
abbrev pub is_line : CardForm → Bool
is_line forms.Region = false
is_line forms.Prog = false
is_line forms.Pend = false
is_line forms.Task = false
is_line forms.Srb = false
is_line forms.Oper = false
is_line forms.Cancel = false
is_line forms.End = false
is_line _ = true

pub program_name_of_op : (op : Op) (name : List ℕ) (rest : List (List ℕ)) → program_name_then (form_of_op op) name rest ≡ rest
program_name_of_op (ops.Attachx unit None term) name rest = refl
program_name_of_op (ops.Attachx unit (Some prog) term) name rest = refl
program_name_of_op _ name rest = refl

pub unit_name_of_op : (op : Op) (name : List ℕ) (rest : List (List ℕ)) → unit_name_then (form_of_op op) name rest ≡ rest
unit_name_of_op (ops.Attachx unit None term) name rest = refl
unit_name_of_op (ops.Attachx unit (Some prog) term) name rest = refl
unit_name_of_op _ name rest = refl

pub op_is_line : (op : Op) → is_line (form_of_op op) ≡ true
op_is_line (ops.Attachx unit None term) = refl
op_is_line (ops.Attachx unit (Some prog) term) = refl
op_is_line _ = refl
