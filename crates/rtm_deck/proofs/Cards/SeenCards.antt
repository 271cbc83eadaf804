-- What the reader keeps of the cards so far is what those cards say.
use Rattle.std.proofs.Common.{◌≡◌, ℕ, ◌+◌, Bool, true, false, not, ◌&&◌, ◌||◌, cond, List, [], ◌∷◌, length, refl, ap, sym, ◌∙◌, arith}
use Rattle.std.specs.Prelude.{bytes_eq, codes, IsTrue, count_by, ◌==◌}
use Rattle.std.specs.Option.{option_map_or}
use Rattle.std.specs.List.{list_any}
use Rattle.std.proofs.lemmas.List.Sums.{sum_by-cons}
use Rattle.std.proofs.Math.Bool.{or_comm}
use Rattle.rtm_cards.specs.Name.{is_name_field}
use Rattle.rtm_cards.specs.Cards.{CardText}
use Rattle.rtm_deck_operands.specs.Name.{trimmed_text, is_padded_name, name_in}
use Rattle.rtm_deck_items.specs.declared.form.CardForm.{CardForm}
use Rattle.rtm_deck_items.specs.Forms.{operation_of, is_inside, form_named}
use Rattle.rtm_deck_items.specs.Faults.{is_called, is_named, has_operation, is_in_program, is_unit_card, since_program}
use Rattle.rtm_deck_spelling.proofs.Forms.{for_each_test}
use Rattle.rtm_deck_spelling.proofs.RuleTests.{called_as, named_first, first_form}
use Rattle.rtm_deck.specs.declared.role.Role.{Role}
use Rattle.rtm_deck.specs.declared.role.Role.TheVariants.{ProgramEnd, Task, Srb, Commands, Command, End, Line}
use Rattle.rtm_deck.specs.inner.View.{SeenView}
use Rattle.rtm_deck.specs.inner.Roles.{role_of, is_line, is_program_role}
use Rattle.rtm_deck.specs.inner.Seen.{has_name, nothing_seen, with_name}
use Rattle.rtm_deck.proofs.Cards.Names.{has_with}

-- a card of the text of a program
abbrev pub is_text : CardText → Bool
is_text c = option_map_or is_inside (form_named c.op) false

-- The set has the names of the cards that pass the test.
abbrev pub Holds : List (List ℕ) → (CardText → Bool) → List CardText → Type 0
Holds names test cards = (name : List ℕ) → IsTrue (is_padded_name name) → has_name names name ≡ list_any (λ c. test c && is_named (trimmed_text name) c) cards

abbrev pub any_card : CardText → Bool
any_card c = true

-- What is kept is what the cards, newest first, say.
pub record Sees (s : SeenView) (cards : List CardText) : Type 0 where
  pub started : s.started ≡ not (length cards == 0)
  pub inside : s.inside ≡ is_in_program cards
  pub oper : s.oper ≡ has_operation (codes "OPER") cards
  pub ended : s.ended ≡ has_operation (codes "END") cards
  pub programs : Holds s.programs (is_called (codes "PROG")) cards
  pub units : Holds s.units is_unit_card cards
  pub tasks : Holds s.tasks (is_called (codes "TASK")) cards
  pub srbs : Holds s.srbs (is_called (codes "SRB")) cards
  pub own : s.inside ≡ true → Holds s.own any_card (since_program cards)
  pub labels : Holds s.labels is_text cards
  pub program_count : length s.programs ≡ count_by (is_called (codes "PROG")) cards
  pub unit_count : length s.units ≡ count_by is_unit_card cards
  pub task_there : (length s.tasks == 0) ≡ not (has_operation (codes "TASK") cards)
  pub command_count : s.commands ≡ count_by (is_called (codes "CANCEL")) cards

pub sees_none : Sees nothing_seen []
sees_none = record {
  started = refl;
  inside = refl;
  oper = refl;
  ended = refl;
  programs = λ name h. refl;
  units = λ name h. refl;
  tasks = λ name h. refl;
  srbs = λ name h. refl;
  own = λ inside name h. refl;
  labels = λ name h. refl;
  program_count = refl;
  unit_count = refl;
  task_there = refl;
  command_count = refl;
}

-- the tests that a card of a role passes
pub record Calls (c : CardText) (prog pend task srb oper cancel last text : Bool) : Type 0 where
  pub is_prog : is_called (codes "PROG") c ≡ prog
  pub is_pend : is_called (codes "PEND") c ≡ pend
  pub is_task : is_called (codes "TASK") c ≡ task
  pub is_srb : is_called (codes "SRB") c ≡ srb
  pub is_oper : is_called (codes "OPER") c ≡ oper
  pub is_cancel : is_called (codes "CANCEL") c ≡ cancel
  pub is_last : is_called (codes "END") c ≡ last
  pub is_of_text : is_text c ≡ text

-- the role is that of a task or of an SRB
abbrev pub is_task_role : Role → Bool
is_task_role Task = true
is_task_role _ = false

abbrev pub is_srb_role : Role → Bool
is_srb_role Srb = true
is_srb_role _ = false

abbrev pub is_pend_role : Role → Bool
is_pend_role ProgramEnd = true
is_pend_role _ = false

abbrev pub is_oper_role : Role → Bool
is_oper_role Commands = true
is_oper_role _ = false

abbrev pub is_cancel_role : Role → Bool
is_cancel_role Command = true
is_cancel_role _ = false

abbrev pub is_end_role : Role → Bool
is_end_role End = true
is_end_role _ = false

abbrev pub is_text_role : Role → Bool
is_text_role ProgramEnd = true
is_text_role Line = true
is_text_role _ = false

pub is_line_role : (role : Role) → is_line role ≡ true → role ≡ Line
is_line_role Line e = refl
is_line_role _ e = absurd cc

-- both tests, or neither
abbrev agree : Bool → Bool → Bool
agree true b = b
agree false b = not b

agreed : (a b : Bool) → agree a b ≡ true → a ≡ b
agreed true true e = refl
agreed true false e = absurd cc
agreed false true e = absurd cc
agreed false false e = refl

prog_of : (f : CardForm) → bytes_eq (operation_of f) (codes "PROG") ≡ is_program_role (role_of f)
prog_of f = agreed _ _ (for_each_test (λ f. agree (bytes_eq (operation_of f) (codes "PROG")) (is_program_role (role_of f))) refl f)

pend_of : (f : CardForm) → bytes_eq (operation_of f) (codes "PEND") ≡ is_pend_role (role_of f)
pend_of f = agreed _ _ (for_each_test (λ f. agree (bytes_eq (operation_of f) (codes "PEND")) (is_pend_role (role_of f))) refl f)

task_of : (f : CardForm) → bytes_eq (operation_of f) (codes "TASK") ≡ is_task_role (role_of f)
task_of f = agreed _ _ (for_each_test (λ f. agree (bytes_eq (operation_of f) (codes "TASK")) (is_task_role (role_of f))) refl f)

srb_of : (f : CardForm) → bytes_eq (operation_of f) (codes "SRB") ≡ is_srb_role (role_of f)
srb_of f = agreed _ _ (for_each_test (λ f. agree (bytes_eq (operation_of f) (codes "SRB")) (is_srb_role (role_of f))) refl f)

oper_of : (f : CardForm) → bytes_eq (operation_of f) (codes "OPER") ≡ is_oper_role (role_of f)
oper_of f = agreed _ _ (for_each_test (λ f. agree (bytes_eq (operation_of f) (codes "OPER")) (is_oper_role (role_of f))) refl f)

cancel_of : (f : CardForm) → bytes_eq (operation_of f) (codes "CANCEL") ≡ is_cancel_role (role_of f)
cancel_of f = agreed _ _ (for_each_test (λ f. agree (bytes_eq (operation_of f) (codes "CANCEL")) (is_cancel_role (role_of f))) refl f)

end_of : (f : CardForm) → bytes_eq (operation_of f) (codes "END") ≡ is_end_role (role_of f)
end_of f = agreed _ _ (for_each_test (λ f. agree (bytes_eq (operation_of f) (codes "END")) (is_end_role (role_of f))) refl f)

text_of : (f : CardForm) → is_inside (first_form f) ≡ is_text_role (role_of f)
text_of f = agreed _ _ (for_each_test (λ f. agree (is_inside (first_form f)) (is_text_role (role_of f))) refl f)

abbrev pub CallsAs : CardText → Role → Type 0
CallsAs c role = Calls c (is_program_role role) (is_pend_role role) (is_task_role role) (is_srb_role role) (is_oper_role role) (is_cancel_role role) (is_end_role role) (is_text_role role)

-- what a card of a form is called
pub calls_of : (c : CardText) (f : CardForm) → c.op ≡ operation_of f → CallsAs c (role_of f)
calls_of c f e = record {
  is_prog = called_as c f _ e ∙ prog_of f;
  is_pend = called_as c f _ e ∙ pend_of f;
  is_task = called_as c f _ e ∙ task_of f;
  is_srb = called_as c f _ e ∙ srb_of f;
  is_oper = called_as c f _ e ∙ oper_of f;
  is_cancel = called_as c f _ e ∙ cancel_of f;
  is_last = called_as c f _ e ∙ end_of f;
  is_of_text = ap (λ op. option_map_or is_inside (form_named op) false) e ∙ ap (λ o. option_map_or is_inside o false) (named_first f) ∙ text_of f;
}

-- a test of a card that it passes, or doesn't, before others
any_with : (test : CardText → Bool) (c : CardText) (cards : List CardText) (name : List ℕ) (b : Bool) → test c ≡ b
    → list_any (λ x. test x && is_named (trimmed_text name) x) (c ∷ cards) ≡ ((b && is_named (trimmed_text name) c) || list_any (λ x. test x && is_named (trimmed_text name) x) cards)
any_with test c cards name b e = ap (λ t. (t && is_named (trimmed_text name) c) || list_any (λ x. test x && is_named (trimmed_text name) x) cards) e

-- a set, with one more card that passes the test
pub holds_more : (names : List (List ℕ)) (test : CardText → Bool) (c : CardText) (cards : List CardText) → test c ≡ true → IsTrue (is_name_field c.name)
    → Holds names test cards → Holds (with_name names (name_in c.name)) test (c ∷ cards)
holds_more names test c cards e field h name is =
    has_with names c.name name field is
    ∙ ap (λ b. b || bytes_eq c.name (trimmed_text name)) (h name is)
    ∙ or_comm (list_any (λ x. test x && is_named (trimmed_text name) x) cards) (bytes_eq c.name (trimmed_text name))
    ∙ sym (any_with test c cards name true e)

-- a set, with one more card that doesn't pass it
pub holds_past : (names : List (List ℕ)) (test : CardText → Bool) (c : CardText) (cards : List CardText) → test c ≡ false
    → Holds names test cards → Holds names test (c ∷ cards)
holds_past names test c cards e h name is = h name is ∙ sym (any_with test c cards name false e)

-- an operation among cards, with one more card
pub has_more : (op : List ℕ) (c : CardText) (cards : List CardText) (b : Bool) → is_called op c ≡ b → has_operation op (c ∷ cards) ≡ (b || has_operation op cards)
has_more op c cards b e = ap (λ t. t || has_operation op cards) e

-- a count, with one more card
pub count_more : (test : CardText → Bool) (c : CardText) (cards : List CardText) → test c ≡ true → count_by test (c ∷ cards) ≡ count_by test cards + 1
count_more test c cards e =
    sum_by-cons (λ x. cond (test x) 1 0) c cards ∙ ap (λ t. cond t 1 0 + count_by test cards) e ∙ omega arith

pub count_past : (test : CardText → Bool) (c : CardText) (cards : List CardText) → test c ≡ false → count_by test (c ∷ cards) ≡ count_by test cards
count_past test c cards e =
    sum_by-cons (λ x. cond (test x) 1 0) c cards ∙ ap (λ t. cond t 1 0 + count_by test cards) e ∙ omega arith
