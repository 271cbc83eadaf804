-- An input has at most one first fault.
use Rattle.std.proofs.Common.{◌≡◌, ℕ, ◌+◌, Bool, true, false, not, List, [], ◌∷◌, length, Option, Some, None, refl, ap, sym, ◌∙◌, inl, inr}
use Rattle.std.specs.Prelude.{codes}
use Rattle.std.specs.List.{list_any, list_all}
use Rattle.std.proofs.lemmas.Bool.{and_parts, not-true, cases_lt, both_ways}
use Rattle.rtm_deck_operands.specs.declared.value.Value.{Value}
use Rattle.rtm_deck_operands.specs.declared.value.Value.TheVariants as values
use Rattle.rtm_deck_operands.specs.declared.slot.Slot.{Slot}
use Rattle.rtm_deck_operands.specs.declared.slot.Kind.{Kind}
use Rattle.rtm_deck_operands.specs.declared.slot.Kind.TheVariants as kinds
use Rattle.rtm_deck_operands.specs.declared.slot.NameOf.{NameOf}
use Rattle.rtm_deck_operands.specs.declared.slot.NameOf.TheVariants as names
use Rattle.rtm_cards.specs.declared.fault.CutWhy.{CutWhy}
use Rattle.rtm_cards.specs.Limits.{most_bytes}
use Rattle.rtm_cards.specs.Lines.{lines_of}
use Rattle.rtm_cards.specs.Rules.{fault_of}
use Rattle.rtm_cards.specs.Cards.{CardText, card_of, cards_from}
use Rattle.rtm_deck_items.specs.declared.why.Why.{Why}
use Rattle.rtm_deck_items.specs.declared.why.Why.TheVariants.{UnknownName, UnknownLabel}
use Rattle.rtm_deck_items.specs.declared.form.CardForm.{CardForm}
use Rattle.rtm_deck_items.specs.Forms.{slots_of}
use Rattle.rtm_deck_items.specs.Faults.{BreaksFirst, BreaksNone, rules, HasFault, HasNone, with_line, FormFault, NoFormFault, why_of_name, IsUnfound, NamesUnfound, HasNameFault, own_program, NameFault, LacksEnd, LacksName, LinesFault, IsFirstFault, has_operation}
use Rattle.rtm_deck_spelling.proofs.Forms.{for_each_test, one_form}

-- a rule that is broken first is one alone
pub one_breaks_first : (earlier : List CardText) (c : CardText) (rules : List Why) (p q : Why) → BreaksFirst earlier c rules p → BreaksFirst earlier c rules q → p ≡ q
one_breaks_first earlier c [] p q f g = absurd f
one_breaks_first earlier c (rule ∷ others) p q (inl f) (inl g) = f.1 ∙ sym g.1
one_breaks_first earlier c (rule ∷ others) p q (inl f) (inr g) = absurd (g.0 f.0)
one_breaks_first earlier c (rule ∷ others) p q (inr f) (inl g) = absurd (f.0 g.0)
one_breaks_first earlier c (rule ∷ others) p q (inr f) (inr g) = one_breaks_first earlier c others p q f.1 g.1

pub none_breaks_first : (earlier : List CardText) (c : CardText) (rules : List Why) (p : Why) → BreaksFirst earlier c rules p → BreaksNone earlier c rules → ⊥
none_breaks_first earlier c [] p f g = f
none_breaks_first earlier c (rule ∷ others) p (inl f) g = g.0 f.0
none_breaks_first earlier c (rule ∷ others) p (inr f) g = none_breaks_first earlier c others p f.1 g.1

-- a line has one fault, or none
pub one_fault : (earlier : List CardText) (number : ℕ) (line : List ℕ) (broken : Option CutWhy) (p q : Why) → HasFault earlier number line broken p → HasFault earlier number line broken q → p ≡ q
one_fault earlier number line (Some broken) p q f g = f ∙ sym g
one_fault earlier number line None p q f g = one_breaks_first earlier (card_of number line) rules p q f.1 g.1

pub fault_and_none : (earlier : List CardText) (number : ℕ) (line : List ℕ) (broken : Option CutWhy) (p : Why) → HasFault earlier number line broken p → HasNone earlier number line broken → ⊥
fault_and_none earlier number line (Some broken) p f g = g
fault_and_none earlier number line None p f g = none_breaks_first earlier (card_of number line) rules p f.1 (g f.0)

-- what is said of one fault: the card and the reason
abbrev pub Same : ℕ → ℕ → Why → Why → Type 0
Same a b p q = (a ≡ b) × (p ≡ q)

pub one_form_fault : (earlier : List CardText) (number : ℕ) (lines : List (List ℕ)) (a b : ℕ) (p q : Why) → FormFault earlier number lines a p → FormFault earlier number lines b q → Same a b p q
one_form_fault earlier number [] a b p q f g = absurd f
one_form_fault earlier number (line ∷ lines) a b p q (inl f) (inl g) = (f.1 ∙ sym g.1, one_fault earlier number line (fault_of number line) p q f.0 g.0)
one_form_fault earlier number (line ∷ lines) a b p q (inl f) (inr g) = absurd (fault_and_none earlier number line (fault_of number line) p f.0 g.0)
one_form_fault earlier number (line ∷ lines) a b p q (inr f) (inl g) = absurd (fault_and_none earlier number line (fault_of number line) q g.0 f.0)
one_form_fault earlier number (line ∷ lines) a b p q (inr f) (inr g) = one_form_fault (with_line earlier number line) (number + 1) lines a b p q f.1 g.1

pub form_fault_and_none : (earlier : List CardText) (number : ℕ) (lines : List (List ℕ)) (a : ℕ) (p : Why) → FormFault earlier number lines a p → NoFormFault earlier number lines → ⊥
form_fault_and_none earlier number [] a p f g = f
form_fault_and_none earlier number (line ∷ lines) a p (inl f) g = fault_and_none earlier number line (fault_of number line) p f.0 g.0
form_fault_and_none earlier number (line ∷ lines) a p (inr f) g = form_fault_and_none (with_line earlier number line) (number + 1) lines a p f.1 g.1

abbrev is_label_name : NameOf → Bool
is_label_name names.OwnLabel = true
is_label_name names.AnyLabel = true
is_label_name _ = false

-- the fault of a name of that sort
abbrev why_for : Bool → Why
why_for true = UnknownLabel
why_for false = UnknownName

-- an operand of that kind names a label
abbrev names_label : Kind → Bool
names_label (kinds.Name named) = is_label_name named
names_label _ = false

-- an operand of that kind names nothing, or something of that sort
abbrev is_of_sort : Bool → Kind → Bool
is_of_sort true (kinds.Name named) = is_label_name named
is_of_sort false (kinds.Name named) = not (is_label_name named)
is_of_sort labels _ = true

-- some operand of these names a label
abbrev name_labels : List Slot → Bool
name_labels slots = list_any (λ slot. names_label slot.kind) slots

-- what a form's operands name is of one sort
abbrev pub is_one_sort : CardForm → Bool
is_one_sort form = list_all (λ slot. is_of_sort (name_labels (slots_of form)) slot.kind) (slots_of form)

reason_of_sort : (labels : Bool) (named : NameOf) → is_of_sort labels (kinds.Name named) ≡ true → why_of_name named ≡ why_for labels
reason_of_sort true names.OwnLabel h = refl
reason_of_sort true names.AnyLabel h = refl
reason_of_sort false names.Program h = refl
reason_of_sort false names.Task h = refl
reason_of_sort false names.Srb h = refl
reason_of_sort _ _ h = absurd cc

reason_of_value : (cards own : List CardText) (labels : Bool) (kind : Kind) (value : Option Value) (why : Why) → is_of_sort labels kind ≡ true → IsUnfound cards own kind value why
    → why ≡ why_for labels
reason_of_value cards own labels (kinds.Name named) (Some (values.Name name)) why h f = f.1 ∙ reason_of_sort labels named h
reason_of_value cards own labels kind value why h f = absurd f

one_reason : (cards own : List CardText) (labels : Bool) (slots : List Slot) (vs : List (Option Value)) (why : Why) → list_all (λ slot. is_of_sort labels slot.kind) slots ≡ true
    → NamesUnfound cards own slots vs why → why ≡ why_for labels
one_reason cards own labels [] vs why h f = absurd f
one_reason cards own labels (slot ∷ slots) [] why h f = absurd f
one_reason cards own labels (slot ∷ slots) (v ∷ vs) why h (inl f) =
    reason_of_value cards own labels slot.kind v why (and_parts (is_of_sort labels slot.kind) _ h).0 f
one_reason cards own labels (slot ∷ slots) (v ∷ vs) why h (inr f) = one_reason cards own labels slots vs why (and_parts (is_of_sort labels slot.kind) _ h).1 f

-- the one reason for which a card of a form is refused
pub reason_of_form : (cards own : List CardText) (form : CardForm) (vs : List (Option Value)) (why : Why) → NamesUnfound cards own (slots_of form) vs why → why ≡ why_for (name_labels (slots_of form))
reason_of_form cards own form vs why f = one_reason cards own (name_labels (slots_of form)) (slots_of form) vs why (for_each_test is_one_sort refl form) f

-- a card is refused for one reason
pub one_name_fault_of_card : (cards own : List CardText) (c : CardText) (p q : Why) → HasNameFault cards own c p → HasNameFault cards own c q → p ≡ q
one_name_fault_of_card cards own c p q f g =
    let same = one_form f.form g.form c.operands f.values g.values f.operands g.operands (f.operation ∙ sym g.operation) in
    reason_of_form cards own f.form f.values p f.unfound
    ∙ (ap (λ (form : CardForm). why_for (name_labels (slots_of form))) same ∙ sym (reason_of_form cards own g.form g.values q g.unfound))

pub one_name_fault : (cards earlier later : List CardText) (a b : ℕ) (p q : Why) → NameFault cards earlier later a p → NameFault cards earlier later b q → Same a b p q
one_name_fault cards earlier [] a b p q f g = absurd f
one_name_fault cards earlier (c ∷ later) a b p q (inl f) (inl g) = (f.1 ∙ sym g.1, one_name_fault_of_card cards (own_program earlier c later) c p q f.0 g.0)
one_name_fault cards earlier (c ∷ later) a b p q (inl f) (inr g) = absurd (g.0 p f.0)
one_name_fault cards earlier (c ∷ later) a b p q (inr f) (inl g) = absurd (f.0 q g.0)
one_name_fault cards earlier (c ∷ later) a b p q (inr f) (inr g) = one_name_fault cards (c ∷ earlier) later a b p q f.1 g.1

end_or_none : (lines : List (List ℕ)) (a b : ℕ) (p q : Why) → LacksEnd lines a p → LacksName lines b q → ⊥
end_or_none lines a b p q f g = both_ways (has_operation (codes "END") (cards_from 1 lines)) (not-true _ f.no_end) g.end

pub one_lines_fault : (lines : List (List ℕ)) (a b : ℕ) (p q : Why) → LinesFault lines a p → LinesFault lines b q → Same a b p q
one_lines_fault lines a b p q (inl f) (inl g) = one_form_fault [] 1 lines a b p q f g
one_lines_fault lines a b p q (inl f) (inr (inl g)) = absurd (form_fault_and_none [] 1 lines a p f g.form)
one_lines_fault lines a b p q (inl f) (inr (inr g)) = absurd (form_fault_and_none [] 1 lines a p f g.form)
one_lines_fault lines a b p q (inr (inl f)) (inl g) = absurd (form_fault_and_none [] 1 lines b q g f.form)
one_lines_fault lines a b p q (inr (inr f)) (inl g) = absurd (form_fault_and_none [] 1 lines b q g f.form)
one_lines_fault lines a b p q (inr (inl f)) (inr (inl g)) = (f.place ∙ sym g.place, f.reason ∙ sym g.reason)
one_lines_fault lines a b p q (inr (inl f)) (inr (inr g)) = absurd (end_or_none lines a b p q f g)
one_lines_fault lines a b p q (inr (inr f)) (inr (inl g)) = absurd (end_or_none lines b a q p g f)
one_lines_fault lines a b p q (inr (inr f)) (inr (inr g)) = one_name_fault (cards_from 1 lines) [] (cards_from 1 lines) a b p q f.unfound g.unfound

pub one_fault_of_input : (bytes : List ℕ) (a b : ℕ) (p q : Why) → IsFirstFault bytes a p → IsFirstFault bytes b q → Same a b p q
one_fault_of_input bytes a b p q f g = elim (cases_lt most_bytes (length bytes)) [
  | inl over ↦ let x = f.by_size over in let y = g.by_size over in (x.0 ∙ sym y.0, x.1 ∙ sym y.1)
  | inr few ↦ one_lines_fault (lines_of bytes) a b p q (f.by_card few) (g.by_card few)
]
