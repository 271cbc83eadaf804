-- The first name that the reader doesn't find is the first that isn't there.
use Rattle.std.proofs.Common.{◌≡◌, ℕ, Bool, true, false, not, ◌||◌, List, [], ◌∷◌, Option, Some, None, refl, ap, sym, subst, ◌∙◌, inl, inr}
use Rattle.std.specs.Prelude.{codes, IsTrue, if◌then◌else◌}
use Rattle.std.specs.Option.{option_or}
use Rattle.std.specs.List.{list_any, list_all, AllByRecursion}
use Rattle.std.proofs.lemmas.Bool.{and_parts, not-true}
use Rattle.rtm_cards.specs.Cards.{CardText}
use Rattle.rtm_deck_operands.specs.declared.value.Value.{Value}
use Rattle.rtm_deck_operands.specs.declared.value.Value.TheVariants as values
use Rattle.rtm_deck_operands.specs.declared.slot.Kind.{Kind}
use Rattle.rtm_deck_operands.specs.declared.slot.Kind.TheVariants as kinds
use Rattle.rtm_deck_operands.specs.declared.slot.NameOf.{NameOf}
use Rattle.rtm_deck_operands.specs.declared.slot.NameOf.TheVariants as names
use Rattle.rtm_deck_operands.specs.declared.slot.Slot.{Slot}
use Rattle.rtm_deck_operands.specs.Name.{trimmed_text, is_padded_name}
use Rattle.rtm_deck_operands.specs.Value.{fits}
use Rattle.rtm_deck_operands.specs.Slot.{slots_fit, slot_fits, slot_is_well_made}
use Rattle.rtm_deck_operands.proofs.SlotReading.{table_parts, slots_fit-spelled}
use Rattle.rtm_deck_items.specs.declared.why.Why.{Why}
use Rattle.rtm_deck_items.specs.declared.form.CardForm.{CardForm}
use Rattle.rtm_deck_items.specs.Forms.{slots_of}
use Rattle.rtm_deck_items.specs.Spelling.{SpellsOperands}
use Rattle.rtm_deck_items.specs.Faults.{is_called, is_named, is_found, why_of_name, IsUnfound, NamesUnfound, HasNameFault}
use Rattle.rtm_deck_spelling.proofs.Forms.{for_each_test, form_is_well_made, one_form, one_values}
use Rattle.rtm_deck.specs.declared.role.Role.TheVariants as roles
use Rattle.rtm_deck.specs.inner.View.{SeenView, ReadView}
use Rattle.rtm_deck.specs.inner.Roles.{role_of, is_line}
use Rattle.rtm_deck.specs.inner.Seen.{has_name}
use Rattle.rtm_deck.specs.inner.References.{finds, unfound, first_unfound}
use Rattle.rtm_deck.proofs.Cards.SeenCards.{Holds, is_text, is_line_role}
use Rattle.rtm_deck.proofs.Cards.ReadCards.{ReadAs}

-- The values' names are names with their padding.

abbrev IsPadded : Option Value → Type 0
IsPadded (Some (values.Name name)) = IsTrue (is_padded_name name)
IsPadded _ = Unit {0}

padded_if : (kind : Kind) (name : List ℕ) → fits kind (values.Name name) ≡ true → IsTrue (is_padded_name name)
padded_if (kinds.Name named) name e = e
padded_if _ name e = absurd cc

padded_value : (slot : Slot) (value : Option Value) → slot_fits slot value ≡ true → IsPadded value
padded_value slot (Some (values.Name name)) e = padded_if slot.kind name e
padded_value slot _ e = tt

padded_values : (slots : List Slot) (vs : List (Option Value)) → slots_fit slots vs ≡ true → AllByRecursion IsPadded vs
padded_values [] [] e = tt
padded_values [] (v ∷ vs) e = absurd cc
padded_values (slot ∷ slots) [] e = absurd cc
padded_values (slot ∷ slots) (v ∷ vs) e = let parts = and_parts (slot_fits slot v) (slots_fit slots vs) e in (padded_value slot v parts.0, padded_values slots vs parts.1)

spelled_padded : (slots : List Slot) (operands : List (List ℕ)) (vs : List (Option Value)) → list_all slot_is_well_made slots ≡ true → SpellsOperands slots operands vs → AllByRecursion IsPadded vs
spelled_padded [] operands vs made s = subst (λ (ws : List (Option Value)). AllByRecursion IsPadded ws) (sym s) tt
spelled_padded (slot ∷ slots) operands vs made s = padded_values (slot ∷ slots) vs (slots_fit-spelled (slot ∷ slots) operands vs made s)

-- what has to be known of the labels of the own program: where one is named
abbrev pub OwnAre : List (List ℕ) → List CardText → Type 0
OwnAre own cards = (name : List ℕ) → IsTrue (is_padded_name name) → has_name own name ≡ list_any (is_named (trimmed_text name)) cards

-- an operand of that kind names a label of the own program
abbrev names_own : Kind → Bool
names_own (kinds.Name names.OwnLabel) = true
names_own _ = false

abbrev KnowsOwn : List (List ℕ) → List CardText → List Slot → Type 0
KnowsOwn own cards slots = AllByRecursion (λ (slot : Slot). names_own slot.kind ≡ true → OwnAre own cards) slots

if_known : (own : List (List ℕ)) (cards : List CardText) (slots : List Slot) → OwnAre own cards → KnowsOwn own cards slots
if_known own cards [] h = tt
if_known own cards (slot ∷ slots) h = (λ _. h, if_known own cards slots h)

if_not_named : (own : List (List ℕ)) (cards : List CardText) (slots : List Slot) → list_all (λ slot. not (names_own slot.kind)) slots ≡ true → KnowsOwn own cards slots
if_not_named own cards [] e = tt
if_not_named own cards (slot ∷ slots) e =
    let parts = and_parts (not (names_own slot.kind)) _ e in
    (λ named. absurd (let not_named = not-true (names_own slot.kind) parts.0 in cc), if_not_named own cards slots parts.1)

-- own labels are named on cards of programs alone
knows_own : (own : List (List ℕ)) (cards : List CardText) (f : CardForm) → (role_of f ≡ roles.Line → OwnAre own cards) → KnowsOwn own cards (slots_of f)
knows_own own cards f h = go (is_line (role_of f)) refl (for_each_test (λ f. is_line (role_of f) || list_all (λ slot. not (names_own slot.kind)) (slots_of f)) refl f)
  where
    go : (line : Bool) → is_line (role_of f) ≡ line → (line || list_all (λ slot. not (names_own slot.kind)) (slots_of f)) ≡ true → KnowsOwn own cards (slots_of f)
    go true line e = if_known own cards (slots_of f) (h (is_line_role (role_of f) line))
    go false line e = if_not_named own cards (slots_of f) e

-- What is seen on all cards is what all cards say.
pub record SeesAll (s : SeenView) (cards : List CardText) : Type 0 where
  pub programs : Holds s.programs (is_called (codes "PROG")) cards
  pub tasks : Holds s.tasks (is_called (codes "TASK")) cards
  pub srbs : Holds s.srbs (is_called (codes "SRB")) cards
  pub labels : Holds s.labels is_text cards

-- One name is found by the reader where it is there.
found_is : (s : SeenView) (cards own_cards : List CardText) (own : List (List ℕ)) (named : NameOf) (name : List ℕ) → SeesAll s cards → (names_own (kinds.Name named) ≡ true → OwnAre own own_cards) → IsTrue (is_padded_name name)
    → finds s own named name ≡ is_found cards own_cards named (trimmed_text name)
found_is s cards own_cards own names.Program name h k is = h.programs name is
found_is s cards own_cards own names.Task name h k is = h.tasks name is
found_is s cards own_cards own names.Srb name h k is = h.srbs name is
found_is s cards own_cards own names.OwnLabel name h k is = k refl name is
found_is s cards own_cards own names.AnyLabel name h k is = h.labels name is

-- what the look at one value says
abbrev ValueNames : List CardText → List CardText → Kind → Option Value → Option Why → Type 0
ValueNames cards own kind value None = (why : Why) → IsUnfound cards own kind value why → ⊥
ValueNames cards own kind value (Some why) = IsUnfound cards own kind value why

name_is : (cards own : List CardText) (named : NameOf) (name : List ℕ) (found : Bool) → found ≡ is_found cards own named (trimmed_text name)
    → ValueNames cards own (kinds.Name named) (Some (values.Name name)) (if found then None else Some (why_of_name named))
name_is cards own named name true e = λ why f. absurd (let clash : false ≡ true = ap not e ∙ f.0 in cc)
name_is cards own named name false e = (ap not (sym e), refl)

value_is : (s : SeenView) (cards own_cards : List CardText) (own : List (List ℕ)) (kind : Kind) (value : Option Value) → SeesAll s cards → (names_own kind ≡ true → OwnAre own own_cards) → IsPadded value
    → ValueNames cards own_cards kind value (unfound s own kind value)
value_is s cards own_cards own (kinds.Name named) (Some (values.Name name)) h k p =
    name_is cards own_cards named name (finds s own named name) (found_is s cards own_cards own named name h k p)
value_is s cards own_cards own _ _ h k p = λ why f. f

-- what the first that isn't found says
abbrev Unfound : List CardText → List CardText → List Slot → List (Option Value) → Option Why → Type 0
Unfound cards own slots vs None = (why : Why) → NamesUnfound cards own slots vs why → ⊥
Unfound cards own slots vs (Some why) = NamesUnfound cards own slots vs why

unfound_here : (cards own : List CardText) (slot : Slot) (slots : List Slot) (value : Option Value) (vs : List (Option Value)) (here others : Option Why) → ValueNames cards own slot.kind value here
    → Unfound cards own slots vs others → Unfound cards own (slot ∷ slots) (value ∷ vs) (option_or here others)
unfound_here cards own slot slots value vs (Some why) others f h = inl f
unfound_here cards own slot slots value vs None (Some why) f h = inr h
unfound_here cards own slot slots value vs None None f h = λ why named. neither why named
  where
    neither : (why : Why) → NamesUnfound cards own (slot ∷ slots) (value ∷ vs) why → ⊥
    neither why (inl n) = f why n
    neither why (inr n) = h why n

unfound_is : (s : SeenView) (cards own_cards : List CardText) (own : List (List ℕ)) (slots : List Slot) (vs : List (Option Value)) → SeesAll s cards → KnowsOwn own own_cards slots → AllByRecursion IsPadded vs
    → Unfound cards own_cards slots vs (first_unfound s own slots vs)
unfound_is s cards own_cards own [] vs h k p = λ why f. f
unfound_is s cards own_cards own (slot ∷ slots) [] h k p = λ why f. f
unfound_is s cards own_cards own (slot ∷ slots) (v ∷ vs) h k p =
    unfound_here cards own_cards slot slots v vs (unfound s own slot.kind v) (first_unfound s own slots vs)
    (value_is s cards own_cards own slot.kind v h k.0 p.0) (unfound_is s cards own_cards own slots vs h k.1 p.1)

-- what the reader's look at a card says
abbrev pub CardNames : List CardText → List CardText → CardText → Option Why → Type 0
CardNames cards own c None = (why : Why) → HasNameFault cards own c why → ⊥
CardNames cards own c (Some why) = HasNameFault cards own c why

card_names_as : (cards own : List CardText) (c : CardText) (r : ReadView) (o : Option Why) → ReadAs c r → Unfound cards own (slots_of r.form) r.values o → CardNames cards own c o
card_names_as cards own c r None read h = λ why f.
    let same = one_form f.form r.form c.operands f.values r.values f.operands read.spelled (f.operation ∙ sym read.operation) in
    let vs = one_values f.form r.form c.operands f.values r.values f.operands read.spelled (f.operation ∙ sym read.operation) in
    h why (subst (λ (g : CardForm). NamesUnfound cards own (slots_of g) r.values why) same (subst (λ (ws : List (Option Value)). NamesUnfound cards own (slots_of f.form) ws why) vs f.unfound))
card_names_as cards own c r (Some why) read h = record { form = r.form; values = r.values; operation = read.operation; operands = read.spelled; unfound = h }

pub card_names : (s : SeenView) (cards own_cards : List CardText) (own : List (List ℕ)) (c : CardText) (r : ReadView) → SeesAll s cards → ReadAs c r → (role_of r.form ≡ roles.Line → OwnAre own own_cards)
    → CardNames cards own_cards c (first_unfound s own (slots_of r.form) r.values)
card_names s cards own_cards own c r h read k =
    let made = (table_parts (slots_of r.form) (form_is_well_made r.form)).made in
    let padded = spelled_padded (slots_of r.form) c.operands r.values made read.spelled.spelled in
    card_names_as cards own_cards c r (first_unfound s own (slots_of r.form) r.values) read
    (unfound_is s cards own_cards own (slots_of r.form) r.values h (knows_own own own_cards r.form k) padded)
