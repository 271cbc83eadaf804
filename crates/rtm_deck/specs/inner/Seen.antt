-- What the reader keeps of the cards before, and the first rule of form that a card breaks behind them.
use Rattle.std.specs.Prelude.{◌≡◌, ℕ, ◌+◌, Bool, true, false, not, ◌&&◌, ◌||◌, ◌==◌, nat_le, if◌then◌else◌, List, [], ◌∷◌, ◌++◌, length, Option, Some, None, bytes_eq, Result, Ok, Err}
use Rattle.std.specs.List.{list_any}
use Rattle.std.specs.Option.{option_map_or, option_or}
use Rattle.std.specs.Prelude.{option_map, is_some}
use Rattle.rtm_deck_operands.specs.declared.value.Value.{Value}
use Rattle.rtm_deck_operands.specs.declared.slot.Slot.{Slot}
use Rattle.rtm_deck_operands.specs.Name.{name_in}
use Rattle.rtm_deck_operands.specs.inner.Reading.{read_slots}
use Rattle.rtm_cards.specs.Limits.{most_programs, most_units, most_commands}
use Rattle.rtm_cards.specs.Cards.{CardText}
use Rattle.rtm_deck_items.specs.declared.why.Why.{Why}
use Rattle.rtm_deck_items.specs.declared.why.Why.TheVariants.{BadCard, UnknownOp, BadOperand, DuplicateName, WrongPlace, NoJobStep, OverLimit}
use Rattle.rtm_deck_items.specs.declared.form.CardForm.{CardForm}
use Rattle.rtm_deck_items.specs.Forms.{operation_of, slots_of, needs_some, all_forms, form_named}
use Rattle.rtm_deck_items.specs.Faults.{differ}
use Rattle.rtm_deck.specs.declared.role.Role.{Role}
use Rattle.rtm_deck.specs.declared.role.Role.TheVariants.{Region, Program, ProgramEnd, Task, Srb, Commands, Command, End, Line}
use Rattle.rtm_deck.specs.inner.Roles.{role_of, is_inside_role, is_misnamed_role}
use Rattle.rtm_deck.specs.inner.View.{ReadView, SeenView}

-- before the first card
abbrev pub nothing_seen : SeenView
nothing_seen = record { started = false; inside = false; oper = false; ended = false; programs = []; units = []; tasks = []; srbs = []; commands = 0; own = []; labels = [] }

-- the name is among these
abbrev pub has_name : List (List ℕ) → List ℕ → Bool
has_name names name = list_any (bytes_eq name) names

-- there is a name, and it is among these
abbrev pub has_given : List (List ℕ) → Option (List ℕ) → Bool
has_given names name = option_map_or (has_name names) name false

-- the names, with one more unless it is among them
abbrev pub insert_name : List (List ℕ) → List ℕ → List (List ℕ)
insert_name names name = if has_name names name then names else names ++ name ∷ []

-- the same with a name that may be left out
abbrev pub with_name : List (List ℕ) → Option (List ℕ) → List (List ℕ)
with_name names None = names
with_name names (Some name) = insert_name names name

-- what is seen behind a card of that role and name
abbrev pub after : SeenView → Role → Option (List ℕ) → SeenView
after s Region name = record s { started = true }
after s Program name = record s { started = true; inside = true; programs = with_name s.programs name; own = [] }
after s ProgramEnd name = record s { started = true; inside = false }
after s Task name = record s { started = true; units = with_name s.units name; tasks = with_name s.tasks name }
after s Srb name = record s { started = true; units = with_name s.units name; srbs = with_name s.srbs name }
after s Commands name = record s { started = true; oper = true }
after s Command name = record s { started = true; commands = s.commands + 1 }
after s End name = record s { started = true; ended = true }
after s Line name = record s { started = true; own = with_name s.own name; labels = with_name s.labels name }

-- REGION that isn't the first card, a program, a unit or OPER behind OPER, and a command before it
abbrev pub is_unordered : SeenView → Role → Bool
is_unordered s Region = s.started
is_unordered s Program = s.oper
is_unordered s Task = s.oper
is_unordered s Srb = s.oper
is_unordered s Commands = s.oper
is_unordered s Command = not s.oper
is_unordered s _ = false

abbrev pub is_misplaced_role : SeenView → Role → Bool
is_misplaced_role s role = s.ended || differ (is_inside_role role) s.inside || is_unordered s role

-- the name stands in its space before
abbrev pub is_doubled_name : SeenView → Role → Option (List ℕ) → Bool
is_doubled_name s Program name = has_given s.programs name
is_doubled_name s Task name = has_given s.units name
is_doubled_name s Srb name = has_given s.units name
is_doubled_name s Line name = has_given s.own name
is_doubled_name s _ name = false

-- one program, unit or command more than there may be
abbrev pub is_beyond : SeenView → Role → Bool
is_beyond s Program = nat_le most_programs (length s.programs)
is_beyond s Task = nat_le most_units (length s.units)
is_beyond s Srb = nat_le most_units (length s.units)
is_beyond s Command = nat_le most_commands s.commands
is_beyond s _ = false

-- END though no task stands before
abbrev pub lacks_task_role : SeenView → Role → Bool
lacks_task_role s End = length s.tasks == 0
lacks_task_role s _ = false

-- the first rule that a card breaks, where its operation is known and its operands can be read or not
abbrev pub broken_rule : SeenView → Role → Option (List ℕ) → Bool → Option Why
broken_rule s role name is_readable =
    if is_misnamed_role role name then Some BadCard
    else (if is_misplaced_role s role then Some WrongPlace
    else (if not is_readable then Some BadOperand
    else (if is_doubled_name s role name then Some DuplicateName
    else (if is_beyond s role then Some OverLimit
    else (if lacks_task_role s role then Some NoJobStep
    else None)))))

-- what the operands of a card say
pub record SaidView : Type 0 where
  pub form : CardForm
  pub values : List (Option Value)

-- the values of an operation's operands; without slots all is a remark
abbrev pub read_all : List Slot → List (List ℕ) → Option (List (Option Value))
read_all [] operands = Some []
read_all (slot ∷ slots) operands = read_slots (slot ∷ slots) operands

-- the same, where operands stand there or none has to
abbrev pub read_by : List Slot → Bool → List (List ℕ) → Option (List (Option Value))
read_by slots wanted operands = if wanted && length operands == 0 then None else read_all slots operands

-- the values, where they were read
abbrev pub values_if_read : Bool → List (Option Value) → Option (List (Option Value))
values_if_read true values = Some values
values_if_read false values = None

abbrev pub reading_of : CardForm → Option (List (Option Value)) → Option SaidView
reading_of form values = option_map (λ v. record { form = form; values = v }) values

-- what the operands say by that form, if the card has its operation
abbrev pub reading_as : List ℕ → List (List ℕ) → CardForm → Option SaidView
reading_as op operands form = if bytes_eq (operation_of form) op then reading_of form (read_by (slots_of form) (needs_some form) operands) else None

-- what they say by the first of these forms that reads them
abbrev pub reading_by : List ℕ → List (List ℕ) → List CardForm → Option SaidView
reading_by op operands [] = None
reading_by op operands (form ∷ forms) = option_or (reading_as op operands form) (reading_by op operands forms)

-- what is said by a form and its values
abbrev pub reading_in : Option CardForm → List (Option Value) → Option SaidView
reading_in None values = None
reading_in (Some form) values = Some (record { form = form; values = values })

-- By these forms a card of that operation says what it says by all forms.
abbrev pub AreEnough : List ℕ → List CardForm → Type 0
AreEnough op forms = (operands : List (List ℕ)) → reading_by op operands forms ≡ reading_by op operands all_forms

-- a card of that number and name that breaks no rule, as it is read
abbrev pub read_with : ℕ → Option (List ℕ) → Option SaidView → Option Why → Result ReadView Why
read_with number name said (Some why) = Err why
read_with number name None None = Err BadOperand
read_with number name (Some said) None = Ok (record { number = number; name = name; form = said.form; values = said.values })

abbrev pub read_known : SeenView → CardText → Option CardForm → Result ReadView Why
read_known s c None = Err UnknownOp
read_known s c (Some form) =
    read_with c.number (name_in c.name) (reading_by c.op c.operands all_forms)
    (broken_rule s (role_of form) (name_in c.name) (is_some (reading_by c.op c.operands all_forms)))

-- the card as it is read behind the others, or the first rule that it breaks
abbrev pub read_card : SeenView → CardText → Result ReadView Why
read_card s c = read_known s c (form_named c.op)

-- the card as it is read, from its name and form, and its values
abbrev pub read_in : ℕ → Result (Option (List ℕ) × CardForm) Why → List (Option Value) → Result ReadView Why
read_in number (Err why) values = Err why
read_in number (Ok head) values = Ok (record { number = number; name = head.0; form = head.1; values = values })
