-- The first fault of an input that spells no deck (this profile). Cards that stand before another are listed newest
-- first.
use Rattle.std.specs.Prelude.{◌≡◌, ◌⊎◌, ℕ, ◌+◌, ◌<◌, ◌≤◌, Bool, true, false, IsTrue, not, ◌&&◌, ◌||◌, ◌==◌, nat_le, List, [], ◌∷◌, ◌++◌, length, Option, Some, None, count_by, take_while, codes, bytes_eq, if◌then◌else◌}
use Rattle.std.specs.Option.{option_map_or}
use Rattle.std.specs.List.{list_any}
use Rattle.rtm_deck_operands.specs.declared.value.Value.{Value}
use Rattle.rtm_deck_operands.specs.declared.value.Value.TheVariants.{Name}
use Rattle.rtm_deck_operands.specs.declared.slot.Slot.{Slot}
use Rattle.rtm_deck_operands.specs.declared.slot.Kind.{Kind}
use Rattle.rtm_deck_operands.specs.declared.slot.Kind.TheVariants as kinds
use Rattle.rtm_deck_operands.specs.declared.slot.NameOf.{NameOf}
use Rattle.rtm_deck_operands.specs.declared.slot.NameOf.TheVariants as names
use Rattle.rtm_deck_operands.specs.Name.{trimmed_text}
use Rattle.rtm_cards.specs.Limits.{most_bytes, most_programs, most_units, most_commands}
use Rattle.rtm_cards.specs.Lines.{lines_of, number_at}
use Rattle.rtm_cards.specs.Rules.{fault_of, is_ignored}
use Rattle.rtm_cards.specs.Cards.{CardText, card_of, cards_from}
use Rattle.rtm_cards.specs.declared.fault.CutWhy.{CutWhy}
use Rattle.rtm_cards.specs.declared.fault.CutWhy.TheVariants as cut
use Rattle.rtm_deck_items.specs.declared.why.Why.{Why}
use Rattle.rtm_deck_items.specs.declared.why.Why.TheVariants.{TooLong, BadByte, BadCard, UnknownOp, BadOperand, DuplicateName, UnknownName, UnknownLabel, WrongPlace, NoJobStep, NoEnd, OverLimit}
use Rattle.rtm_deck_items.specs.declared.form.CardForm.{CardForm}
use Rattle.rtm_deck_items.specs.declared.form.CardForm.TheVariants as forms
use Rattle.rtm_deck_items.specs.declared.form.NameField.{NameField}
use Rattle.rtm_deck_items.specs.declared.form.NameField.TheVariants.{Needed, Allowed, Refused}
use Rattle.rtm_deck_items.specs.Forms.{operation_of, slots_of, name_field, is_inside, form_named}
use Rattle.rtm_deck_items.specs.Spelling.{SpellsForm}

-- the card has that operation
abbrev pub is_called : List ℕ → CardText → Bool
is_called op c = bytes_eq c.op op

-- some card has that operation
abbrev pub has_operation : List ℕ → List CardText → Bool
has_operation op cards = list_any (is_called op) cards

-- Behind the cards a program is open: of PROG and PEND, the newest is PROG.
abbrev pub is_in_program : List CardText → Bool
is_in_program [] = false
is_in_program (c ∷ earlier) = if is_called (codes "PROG") c then true else if is_called (codes "PEND") c then false else is_in_program earlier

-- the card is of a unit of work
abbrev pub is_unit_card : CardText → Bool
is_unit_card c = is_called (codes "TASK") c || is_called (codes "SRB") c

-- the cards since the last PROG
abbrev pub since_program : List CardText → List CardText
since_program earlier = take_while (λ c. not (is_called (codes "PROG") c)) earlier

-- a name stands where none may, or none where one must
abbrev pub is_misnamed : NameField → List ℕ → Bool
is_misnamed Needed name = length name == 0
is_misnamed Allowed name = false
is_misnamed Refused name = not (length name == 0)

-- one of the two holds, and not the other
abbrev pub differ : Bool → Bool → Bool
differ true b = not b
differ false b = b

-- what is out of order though no program is open: REGION that isn't the first card, a program, a unit or OPER behind
-- OPER, and a command before it
abbrev pub is_out_of_order : List CardText → CardForm → Bool
is_out_of_order earlier forms.Region = not (length earlier == 0)
is_out_of_order earlier forms.Prog = has_operation (codes "OPER") earlier
is_out_of_order earlier forms.Task = has_operation (codes "OPER") earlier
is_out_of_order earlier forms.Srb = has_operation (codes "OPER") earlier
is_out_of_order earlier forms.Oper = has_operation (codes "OPER") earlier
is_out_of_order earlier forms.Cancel = not (has_operation (codes "OPER") earlier)
is_out_of_order earlier _ = false

-- a card behind END, one that stands in programs outside of one, or any other inside of one, or a card out of order
abbrev pub is_misplaced : List CardText → CardForm → Bool
is_misplaced earlier form = has_operation (codes "END") earlier || differ (is_inside form) (is_in_program earlier) || is_out_of_order earlier form

-- a card has that name or label
abbrev pub is_named : List ℕ → CardText → Bool
is_named name c = bytes_eq c.name name

-- The name stands in its space before: programs, units, and the labels of one program are spaces of their own.
abbrev pub is_doubled : List CardText → CardForm → List ℕ → Bool
is_doubled earlier forms.Prog name = list_any (λ c. is_called (codes "PROG") c && is_named name c) earlier
is_doubled earlier forms.Task name = list_any (λ c. is_unit_card c && is_named name c) earlier
is_doubled earlier forms.Srb name = list_any (λ c. is_unit_card c && is_named name c) earlier
is_doubled earlier _ name = not (length name == 0) && list_any (is_named name) (since_program earlier)

-- one program, unit or command more than there may be
abbrev pub is_over_limit : List CardText → CardForm → Bool
is_over_limit earlier forms.Prog = nat_le most_programs (count_by (is_called (codes "PROG")) earlier)
is_over_limit earlier forms.Task = nat_le most_units (count_by is_unit_card earlier)
is_over_limit earlier forms.Srb = nat_le most_units (count_by is_unit_card earlier)
is_over_limit earlier forms.Cancel = nat_le most_commands (count_by (is_called (codes "CANCEL")) earlier)
is_over_limit earlier _ = false

-- END though no task stands before
abbrev pub lacks_task : List CardText → CardForm → Bool
lacks_task earlier forms.End = not (has_operation (codes "TASK") earlier)
lacks_task earlier _ = false

-- The operands spell no values of any form with this operation.
abbrev pub HasBadOperands : CardText → Type 0
HasBadOperands c = (form : CardForm) (values : List (Option Value)) → operation_of form ≡ c.op → SpellsForm form c.operands values → ⊥

-- The card, of an operation with that first form, breaks the rule behind these cards.
abbrev pub BreaksAs : List CardText → CardText → CardForm → Why → Type 0
BreaksAs earlier c form BadCard = IsTrue (is_misnamed (name_field form) c.name)
BreaksAs earlier c form WrongPlace = IsTrue (is_misplaced earlier form)
BreaksAs earlier c form BadOperand = HasBadOperands c
BreaksAs earlier c form DuplicateName = IsTrue (is_doubled earlier form c.name)
BreaksAs earlier c form OverLimit = IsTrue (is_over_limit earlier form)
BreaksAs earlier c form NoJobStep = IsTrue (lacks_task earlier form)
BreaksAs earlier c form _ = ⊥

-- Of a card whose operation is in no table, nothing more is asked.
abbrev pub BreaksRule : List CardText → CardText → Option CardForm → Why → Type 0
BreaksRule earlier c None why = why ≡ UnknownOp
BreaksRule earlier c (Some form) why = BreaksAs earlier c form why

-- The card breaks the rule behind these cards.
abbrev pub Breaks : List CardText → CardText → Why → Type 0
Breaks earlier c why = BreaksRule earlier c (form_named c.op) why

-- the rules of form in the order in which they are looked for
abbrev pub rules : List Why
rules = UnknownOp ∷ BadCard ∷ WrongPlace ∷ BadOperand ∷ DuplicateName ∷ OverLimit ∷ NoJobStep ∷ []

-- Of the rules in order, this is the first that the card breaks.
abbrev pub BreaksFirst : List CardText → CardText → List Why → Why → Type 0
BreaksFirst earlier c [] why = ⊥
BreaksFirst earlier c (rule ∷ others) why = (Breaks earlier c rule × (why ≡ rule)) ⊎ ((Breaks earlier c rule → ⊥) × BreaksFirst earlier c others why)

-- The card breaks none of the rules.
abbrev pub BreaksNone : List CardText → CardText → List Why → Type 0
BreaksNone earlier c [] = Unit {0}
BreaksNone earlier c (rule ∷ others) = (Breaks earlier c rule → ⊥) × BreaksNone earlier c others

-- the fault of a rule of cutting
abbrev pub why_of_cut : CutWhy → Why
why_of_cut cut.TooLong = TooLong
why_of_cut cut.OverLimit = OverLimit
why_of_cut cut.BadByte = BadByte
why_of_cut cut.BadCard = BadCard

-- The line of that number has that first fault behind these cards: by the rules of cutting, of which comments and blank
-- cards have no others, or else by those of form.
abbrev pub HasFault : List CardText → ℕ → List ℕ → Option CutWhy → Why → Type 0
HasFault earlier number line (Some broken) why = why ≡ why_of_cut broken
HasFault earlier number line None why = IsTrue (not (is_ignored line)) × BreaksFirst earlier (card_of number line) rules why

-- The line of that number has no fault behind these cards.
abbrev pub HasNone : List CardText → ℕ → List ℕ → Option CutWhy → Type 0
HasNone earlier number line (Some broken) = ⊥
HasNone earlier number line None = IsTrue (not (is_ignored line)) → BreaksNone earlier (card_of number line) rules

-- the cards behind a line of that number
abbrev pub with_line : List CardText → ℕ → List ℕ → List CardText
with_line earlier number line = if is_ignored line then earlier else card_of number line ∷ earlier

-- Of the lines, of which the first has that number and stands behind these cards, the least with a fault of form is
-- that card, and that is its first fault.
abbrev pub FormFault : List CardText → ℕ → List (List ℕ) → ℕ → Why → Type 0
FormFault earlier number [] card why = ⊥
FormFault earlier number (line ∷ lines) card why =
    (HasFault earlier number line (fault_of number line) why × (card ≡ number))
    ⊎ (HasNone earlier number line (fault_of number line) × FormFault (with_line earlier number line) (number + 1) lines card why)

-- No line has a fault of form.
abbrev pub NoFormFault : List CardText → ℕ → List (List ℕ) → Type 0
NoFormFault earlier number [] = Unit {0}
NoFormFault earlier number (line ∷ lines) = HasNone earlier number line (fault_of number line) × NoFormFault (with_line earlier number line) (number + 1) lines

-- a card of a program with that label
abbrev pub is_labelled : List ℕ → CardText → Bool
is_labelled label c = option_map_or is_inside (form_named c.op) false && is_named label c

-- what a name names is there: among all cards, or for a label of the own program among that program's
abbrev pub is_found : List CardText → List CardText → NameOf → List ℕ → Bool
is_found cards own names.Program name = list_any (λ c. is_called (codes "PROG") c && is_named name c) cards
is_found cards own names.Task name = list_any (λ c. is_called (codes "TASK") c && is_named name c) cards
is_found cards own names.Srb name = list_any (λ c. is_called (codes "SRB") c && is_named name c) cards
is_found cards own names.OwnLabel name = list_any (is_named name) own
is_found cards own names.AnyLabel name = list_any (is_labelled name) cards

-- the fault of a name that isn't there
abbrev pub why_of_name : NameOf → Why
why_of_name names.Program = UnknownName
why_of_name names.Task = UnknownName
why_of_name names.Srb = UnknownName
why_of_name names.OwnLabel = UnknownLabel
why_of_name names.AnyLabel = UnknownLabel

-- The value of an operand of that kind names what isn't there, which is that fault.
abbrev pub IsUnfound : List CardText → List CardText → Kind → Option Value → Why → Type 0
IsUnfound cards own (kinds.Name named) (Some (Name name)) why =
    IsTrue (not (is_found cards own named (trimmed_text name))) × (why ≡ why_of_name named)
IsUnfound cards own kind value why = ⊥

-- One of the values of these slots names what isn't there, which is that fault.
abbrev pub NamesUnfound : List CardText → List CardText → List Slot → List (Option Value) → Why → Type 0
NamesUnfound cards own [] values why = ⊥
NamesUnfound cards own (slot ∷ slots) [] why = ⊥
NamesUnfound cards own (slot ∷ slots) (value ∷ values) why =
    IsUnfound cards own slot.kind value why ⊎ NamesUnfound cards own slots values why

-- Among these cards, with those of its own program, the card names what isn't there, which is that fault.
pub record HasNameFault (cards own : List CardText) (c : CardText) (why : Why) : Type 0 where
  pub form : CardForm
  pub values : List (Option Value)
  pub operation : operation_of form ≡ c.op
  pub operands : SpellsForm form c.operands values
  pub unfound : NamesUnfound cards own (slots_of form) values why

-- the cards of the program of a card, with those that stand before it and behind it
abbrev pub own_program : List CardText → CardText → List CardText → List CardText
own_program earlier c later = since_program earlier ++ c ∷ take_while (λ other. not (is_called (codes "PEND") other)) later

-- Of the cards that stand behind these others, the least that names what isn't there is that card, and that is its
-- fault.
abbrev pub NameFault : List CardText → List CardText → List CardText → ℕ → Why → Type 0
NameFault cards earlier [] card why = ⊥
NameFault cards earlier (c ∷ later) card why =
    (HasNameFault cards (own_program earlier c later) c why × (card ≡ c.number))
    ⊎ (((other : Why) → HasNameFault cards (own_program earlier c later) c other → ⊥) × NameFault cards (c ∷ earlier) later card why)

-- The cards break no rule of form, and there is no END: the fault is at the card behind the last.
pub record LacksEnd (lines : List (List ℕ)) (card : ℕ) (why : Why) : Type 0 where
  pub form : NoFormFault [] 1 lines
  pub no_end : IsTrue (not (has_operation (codes "END") (cards_from 1 lines)))
  pub place : card ≡ length lines + 1
  pub reason : why ≡ (if has_operation (codes "TASK") (cards_from 1 lines) then NoEnd else NoJobStep)

-- The cards break no rule of form and have their END, and one names what isn't there.
pub record LacksName (lines : List (List ℕ)) (card : ℕ) (why : Why) : Type 0 where
  pub form : NoFormFault [] 1 lines
  pub end : IsTrue (has_operation (codes "END") (cards_from 1 lines))
  pub unfound : NameFault (cards_from 1 lines) [] (cards_from 1 lines) card why

-- The lines have that first fault: of form, else a missing END, else a name that isn't there.
abbrev pub LinesFault : List (List ℕ) → ℕ → Why → Type 0
LinesFault lines card why = FormFault [] 1 lines card why ⊎ (LacksEnd lines card why ⊎ LacksName lines card why)

-- The input has that first fault: too many bytes, at the card that holds the first byte too many; else that of its
-- lines.
pub record IsFirstFault (bytes : List ℕ) (card : ℕ) (why : Why) : Type 0 where
  pub by_size : most_bytes < length bytes → (card ≡ number_at bytes most_bytes) × (why ≡ TooLong)
  pub by_card : length bytes ≤ most_bytes → LinesFault (lines_of bytes) card why
