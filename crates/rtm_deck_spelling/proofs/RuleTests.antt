-- The tests of the rules of form, at each form of card.
use Rattle.std.proofs.Common.{◌≡◌, ℕ, Bool, true, false, not, ◌&&◌, ◌||◌, eqb, List, [], ◌∷◌, length, Option, Some, None, refl, ap, sym, subst, ◌∙◌}
use Rattle.std.specs.Prelude.{bytes_eq, codes, is_some, unwrap_or}
use Rattle.std.specs.List.{list_any, list_all}
use Rattle.std.proofs.lemmas.Bool.{not-true, both_ways}
use Rattle.rtm_deck_operands.specs.declared.value.Value.{Value}
use Rattle.rtm_cards.specs.Cards.{CardText}
use Rattle.rtm_deck_items.specs.declared.why.Why.{Why}
use Rattle.rtm_deck_items.specs.declared.why.Why.TheVariants.{UnknownOp, BadCard, WrongPlace, BadOperand, DuplicateName, OverLimit, NoJobStep}
use Rattle.rtm_deck_items.specs.declared.op.Op.{Op}
use Rattle.rtm_deck_items.specs.declared.form.CardForm.{CardForm}
use Rattle.rtm_deck_items.specs.declared.form.CardForm.TheVariants as forms
use Rattle.rtm_deck_items.specs.Forms.{operation_of, form_named, name_field, is_inside}
use Rattle.rtm_deck_items.specs.Items.{form_of_op}
use Rattle.rtm_deck_items.specs.Spelling.{SpellsForm}
use Rattle.rtm_deck_items.specs.Faults.{is_called, is_named, is_misnamed, is_misplaced, is_out_of_order, is_doubled, is_over_limit, lacks_task, since_program, BreaksRule, Breaks, BreaksNone, rules}
use Rattle.rtm_deck_spelling.proofs.Forms.{for_each_test, passed}
use Rattle.rtm_deck_spelling.proofs.Operations.{is_line, op_is_line}

-- the first form of the operation of a form
abbrev pub first_form : CardForm → CardForm
first_form form = unwrap_or (form_named (operation_of form)) form

pub named_first : (f : CardForm) → form_named (operation_of f) ≡ Some (first_form f)
named_first f = go (form_named (operation_of f)) (for_each_test (λ f. is_some (form_named (operation_of f))) refl f)
  where
    go : (named : Option CardForm) → is_some named ≡ true → named ≡ Some (unwrap_or named f)
    go None h = absurd cc
    go (Some g) h = refl

-- what holds of the forms of cards in programs
pub record IsLineForm (f : CardForm) : Type 0 where
  pub named : (name : List ℕ) → is_misnamed (name_field f) name ≡ false
  pub inside : is_inside f ≡ true
  pub in_order : (earlier : List CardText) → is_out_of_order earlier f ≡ false
  pub few : (earlier : List CardText) → is_over_limit earlier f ≡ false
  pub needs_no_task : (earlier : List CardText) → lacks_task earlier f ≡ false
  pub doubled : (earlier : List CardText) (name : List ℕ) → is_doubled earlier f name ≡ (not (eqb (length name) 0) && list_any (is_named name) (since_program earlier))

line_form : (f : CardForm) → is_line f ≡ true → IsLineForm f
line_form forms.Region h = absurd cc
line_form forms.Prog h = absurd cc
line_form forms.Pend h = absurd cc
line_form forms.Task h = absurd cc
line_form forms.Srb h = absurd cc
line_form forms.Oper h = absurd cc
line_form forms.Cancel h = absurd cc
line_form forms.End h = absurd cc
line_form _ h = record { named = λ name. refl; inside = refl; in_order = λ earlier. refl; few = λ earlier. refl; needs_no_task = λ earlier. refl; doubled = λ earlier name. refl }

-- the first form of an operation of programs' cards is one of theirs
first_is_line : (f : CardForm) → is_line f ≡ true → is_line (first_form f) ≡ true
first_is_line f h = go (is_line f) h (for_each_test (λ f. not (is_line f) || is_line (first_form f)) refl f)
  where
    go : (t : Bool) → t ≡ true → (not t || is_line (first_form f)) ≡ true → is_line (first_form f) ≡ true
    go true h e = e
    go false h e = absurd cc

pub line_form_of_op : (op : Op) → IsLineForm (first_form (form_of_op op))
line_form_of_op op = line_form (first_form (form_of_op op)) (first_is_line (form_of_op op) (op_is_line op))

-- The operation of the card is one of programs' cards.
pub record IsLineCard (c : CardText) : Type 0 where
  pub prog : is_called (codes "PROG") c ≡ false
  pub pend : is_called (codes "PEND") c ≡ false
  pub task : is_called (codes "TASK") c ≡ false
  pub srb : is_called (codes "SRB") c ≡ false
  pub oper : is_called (codes "OPER") c ≡ false
  pub cancel : is_called (codes "CANCEL") c ≡ false
  pub last : is_called (codes "END") c ≡ false

abbrev outer_operations : List (List ℕ)
outer_operations = codes "PROG" ∷ codes "PEND" ∷ codes "TASK" ∷ codes "SRB" ∷ codes "OPER" ∷ codes "CANCEL" ∷ codes "END" ∷ []

abbrev is_no_outer : CardForm → Bool
is_no_outer f = not (is_line f) || list_all (λ op. not (bytes_eq (operation_of f) op)) outer_operations

no_outer : (f : CardForm) → is_line f ≡ true → list_all (λ op. not (bytes_eq (operation_of f) op)) outer_operations ≡ true
no_outer f h = go (is_line f) h (for_each_test is_no_outer refl f)
  where
    go : (t : Bool) → t ≡ true → (not t || list_all (λ op. not (bytes_eq (operation_of f) op)) outer_operations) ≡ true → list_all (λ op. not (bytes_eq (operation_of f) op)) outer_operations ≡ true
    go true h e = e
    go false h e = absurd cc

pub called_as : (c : CardText) (form : CardForm) (op : List ℕ) → c.op ≡ operation_of form → is_called op c ≡ bytes_eq (operation_of form) op
called_as c form op e = ap (λ (o : List ℕ). bytes_eq o op) e

pub line_card : (op : Op) (c : CardText) → c.op ≡ operation_of (form_of_op op) → IsLineCard c
line_card op c e =
    let f = form_of_op op in
    let all = passed (λ op. not (bytes_eq (operation_of f) op)) outer_operations (no_outer f (op_is_line op)) in
    record {
      prog = called_as c f (codes "PROG") e ∙ not-true _ all.0;
      pend = called_as c f (codes "PEND") e ∙ not-true _ all.1.0;
      task = called_as c f (codes "TASK") e ∙ not-true _ all.1.1.0;
      srb = called_as c f (codes "SRB") e ∙ not-true _ all.1.1.1.0;
      oper = called_as c f (codes "OPER") e ∙ not-true _ all.1.1.1.1.0;
      cancel = called_as c f (codes "CANCEL") e ∙ not-true _ all.1.1.1.1.1.0;
      last = called_as c f (codes "END") e ∙ not-true _ all.1.1.1.1.1.1.0;
    }

-- The card breaks none of the rules that look at its operation, its name and the cards before it.
pub record KeepsRules (earlier : List CardText) (f : CardForm) (name : List ℕ) : Type 0 where
  pub named : is_misnamed (name_field f) name ≡ false
  pub placed : is_misplaced earlier f ≡ false
  pub single : is_doubled earlier f name ≡ false
  pub few : is_over_limit earlier f ≡ false
  pub needs_no_task : lacks_task earlier f ≡ false

-- a card that is spelled breaks no rule, where it keeps these
pub breaks_none : (earlier : List CardText) (c : CardText) (form : CardForm) (vs : List (Option Value)) → c.op ≡ operation_of form → SpellsForm form c.operands vs
    → KeepsRules earlier (first_form form) c.name → BreaksNone earlier c rules
breaks_none earlier c form vs op operands keeps =
    let found : form_named c.op ≡ Some (first_form form) = ap form_named op ∙ named_first form in
    let at = λ (why : Why) (b : Breaks earlier c why). subst (λ (o : Option CardForm). BreaksRule earlier c o why) found b in (
      λ b. at UnknownOp b,
      (
        λ b. both_ways _ keeps.named (at BadCard b),
        (
          λ b. both_ways _ keeps.placed (at WrongPlace b),
          (
            λ b. at BadOperand b form vs (sym op) operands,
            (
              λ b. both_ways _ keeps.single (at DuplicateName b),
              (
                λ b. both_ways _ keeps.few (at OverLimit b),
                (λ b. both_ways _ keeps.needs_no_task (at NoJobStep b), tt),
              ),
            ),
          ),
        ),
      ),
    )
