-- What the reader says of one card: its form and values, or the first rule that it breaks.
use Rattle.std.proofs.Common.{◌≡◌, ℕ, Bool, true, false, not, ◌&&◌, List, [], ◌∷◌, length, Option, Some, None, is_some, refl, ap, sym, subst, ◌∙◌, inl, inr}
use Rattle.std.specs.Prelude.{◌⊎◌, bytes_eq, IsTrue, Result, Ok, Err, ◌==◌, if◌then◌else◌}
use Rattle.std.specs.Option.{option_map, option_or}
use Rattle.std.specs.List.{AllByRecursion}
use Rattle.std.proofs.lemmas.Slice.Eq.{bytes_eq-Decides}
use Rattle.std.proofs.lemmas.Bool.{not-true, not-false}
use Rattle.rtm_cards.specs.Name.{is_name_field}
use Rattle.rtm_cards.specs.Cards.{CardText}
use Rattle.rtm_deck_operands.specs.declared.value.Value.{Value}
use Rattle.rtm_deck_operands.specs.declared.slot.Slot.{Slot}
use Rattle.rtm_deck_operands.specs.Slot.{well_made}
use Rattle.rtm_deck_operands.specs.Name.{name_in}
use Rattle.rtm_deck_operands.proofs.SlotReading.{table_parts, read_slots-Some, read_slots-spelled}
use Rattle.rtm_deck_items.specs.declared.why.Why.{Why}
use Rattle.rtm_deck_items.specs.declared.why.Why.TheVariants.{UnknownOp, BadOperand}
use Rattle.rtm_deck_items.specs.declared.form.CardForm.{CardForm}
use Rattle.rtm_deck_items.specs.declared.form.CardForm.TheVariants as forms
use Rattle.rtm_deck_items.specs.Forms.{all_forms, operation_of, slots_of, needs_some, form_named}
use Rattle.rtm_deck_items.specs.Spelling.{SpellsForm, SpellsOperands}
use Rattle.rtm_deck_items.specs.Faults.{HasBadOperands, BreaksRule, BreaksFirst, BreaksNone, rules}
use Rattle.rtm_deck_spelling.proofs.Forms.{for_each, form_is_well_made}
use Rattle.rtm_deck.specs.inner.View.{SeenView, ReadView}
use Rattle.rtm_deck.specs.inner.Roles.{role_of}
use Rattle.rtm_deck.specs.inner.Seen.{SaidView, read_all, read_by, reading_of, reading_as, reading_by, broken_rule, read_with, read_known, read_card}
use Rattle.rtm_deck_spelling.proofs.RuleTests.{first_form, named_first}
use Rattle.rtm_deck.specs.declared.role.Role.{Role}
use Rattle.rtm_deck.specs.inner.Roles.{is_misnamed_role}
use Rattle.rtm_deck.specs.inner.Seen.{is_misplaced_role, is_doubled_name}
use Rattle.rtm_deck_items.specs.declared.why.Why.TheVariants.{BadCard, WrongPlace, DuplicateName}
use Rattle.rtm_deck.proofs.Cards.SeenCards.{Sees, CallsAs, calls_of}
use Rattle.rtm_deck.proofs.Cards.SeenAfter.{Accepted}
use Rattle.rtm_deck.proofs.Cards.Rules.{Tests, Answers, broken_is, placed_is}

-- operands are spelled by what they are read as
all_found : (slots : List Slot) (operands : List (List ℕ)) (values : List (Option Value)) → read_all slots operands ≡ Some values → SpellsOperands slots operands values
all_found [] operands values e = let same : [] ≡ values = cc in sym same
all_found (slot ∷ slots) operands values e = read_slots-Some (slot ∷ slots) operands values e

all_is : (slots : List Slot) (operands : List (List ℕ)) (values : List (Option Value)) → well_made slots ≡ true → SpellsOperands slots operands values → read_all slots operands ≡ Some values
all_is [] operands values made s = ap Some (sym s)
all_is (slot ∷ slots) operands values made s =
    let t = table_parts (slot ∷ slots) made in
    read_slots-spelled (slot ∷ slots) operands values t.order t.made s

-- what is read by a form is spelled by it
read_found : (slots : List Slot) (wanted : Bool) (operands : List (List ℕ)) (values : List (Option Value)) → read_by slots wanted operands ≡ Some values
    → SpellsOperands slots operands values × (IsTrue wanted → IsTrue (not (length operands == 0)))
read_found slots wanted operands values e = go wanted (length operands == 0) refl e
  where
    go : (wanted none : Bool) → (length operands == 0) ≡ none → (if wanted && none then None else read_all slots operands) ≡ Some values
        → SpellsOperands slots operands values × (IsTrue wanted → IsTrue (not (length operands == 0)))
    go true true n e = absurd cc
    go true false n e = (all_found slots operands values e, λ w. ap not n)
    go false none n e = (all_found slots operands values e, λ w. absurd cc)

-- what is spelled by a form is read by it
read_is : (slots : List Slot) (wanted : Bool) (operands : List (List ℕ)) (values : List (Option Value)) → well_made slots ≡ true → SpellsOperands slots operands values
    → (IsTrue wanted → IsTrue (not (length operands == 0))) → read_by slots wanted operands ≡ Some values
read_is slots false operands values made s some = all_is slots operands values made s
read_is slots true operands values made s some =
    ap (λ b. if true && b then None else read_all slots operands) (not-true (length operands == 0) (some refl)) ∙ all_is slots operands values made s

map_Some : {A B : Type 0} (f : A → B) (o : Option A) (y : B) → option_map f o ≡ Some y → (x : A) × (o ≡ Some x) × (f x ≡ y)
map_Some f None y e = absurd cc
map_Some f (Some x) y e = (x, refl, cc)

-- what is said by a form
as_found : (op : List ℕ) (operands : List (List ℕ)) (form : CardForm) (s : SaidView) (b : Bool) → bytes_eq (operation_of form) op ≡ b
    → (if b then reading_of form (read_by (slots_of form) (needs_some form) operands) else None) ≡ Some s → (operation_of s.form ≡ op) × SpellsForm s.form operands s.values
as_found op operands form s true e h =
    let t = map_Some (λ v. record { form = form; values = v }) (read_by (slots_of form) (needs_some form) operands) s h in
    let r = read_found (slots_of form) (needs_some form) operands t.0 t.1 in
    subst (λ (x : SaidView). (operation_of x.form ≡ op) × SpellsForm x.form operands x.values) t.2
    ((bytes_eq-Decides (operation_of form) op).0 e, record { spelled = r.0; some = r.1 })
as_found op operands form s false e h = absurd cc

or_Some : {A : Type 0} (a b : Option A) (x : A) → option_or a b ≡ Some x → (a ≡ Some x) ⊎ (b ≡ Some x)
or_Some None b x e = inr e
or_Some (Some y) b x e = inl e

-- what is said by the first form that reads the operands
pub said_found : (op : List ℕ) (operands : List (List ℕ)) (all : List CardForm) (s : SaidView) → reading_by op operands all ≡ Some s → (operation_of s.form ≡ op) × SpellsForm s.form operands s.values
said_found op operands [] s e = absurd cc
said_found op operands (form ∷ others) s e = elim (or_Some (reading_as op operands form) (reading_by op operands others) s e) [
  | inl h ↦ as_found op operands form s (bytes_eq (operation_of form) op) refl h
  | inr h ↦ said_found op operands others s h
]

pub or_None : {A : Type 0} (a b : Option A) → option_or a b ≡ None → (a ≡ None) × (b ≡ None)
or_None None b e = (refl, e)
or_None (Some y) b e = absurd cc

none_says : (op : List ℕ) (operands : List (List ℕ)) (all : List CardForm) → reading_by op operands all ≡ None → AllByRecursion (λ form. reading_as op operands form ≡ None) all
none_says op operands [] e = tt
none_says op operands (form ∷ others) e = let n = or_None (reading_as op operands form) (reading_by op operands others) e in (n.0, none_says op operands others n.1)

-- operands that no form reads are bad
pub bad_operands : (c : CardText) → reading_by c.op c.operands all_forms ≡ None → HasBadOperands c
bad_operands c e = λ form values op spelled.
    let none : reading_as c.op c.operands form ≡ None = for_each (λ f. reading_as c.op c.operands f ≡ None) (none_says c.op c.operands all_forms e) form in
    let is = (bytes_eq-Decides (operation_of form) c.op).1 op in
    let read = read_is (slots_of form) (needs_some form) c.operands values (form_is_well_made form) spelled.spelled spelled.some in
    let says : reading_as c.op c.operands form ≡ Some (record { form = form; values = values }) =
    ap (λ b. if b then reading_of form (read_by (slots_of form) (needs_some form) c.operands) else None) is ∙ ap (reading_of form) read in
    let clash = sym none ∙ says in
    absurd cc

some_said : (o : Option SaidView) → is_some o ≡ true → (s : SaidView) × (o ≡ Some s)
some_said None e = absurd cc
some_said (Some s) e = (s, refl)

none_said : (o : Option SaidView) → is_some o ≡ false → o ≡ None
none_said None e = refl
none_said (Some s) e = absurd cc

-- whether the operands can be read
readable : (c : CardText) → Tests (not (is_some (reading_by c.op c.operands all_forms))) (HasBadOperands c)
readable c = record {
  yes = λ e. bad_operands c (none_said _ (not-true _ e));
  no = λ e bad.
      let s = some_said _ (not-false _ e) in
      let f = said_found c.op c.operands all_forms s.0 s.1 in
      bad s.0.form s.0.values f.0 f.1;
}

-- the forms of one operation have one role
pub role_first : (g : CardForm) → role_of (first_form g) ≡ role_of g
role_first forms.Region = refl
role_first _ = refl

same_some : {A : Type 0} (a b : A) → Some a ≡ Some b → a ≡ b
same_some a b e = cc

pub role_is : (c : CardText) (f g : CardForm) → form_named c.op ≡ Some f → operation_of g ≡ c.op → role_of f ≡ role_of g
role_is c f g e op =
    let first : Some f ≡ Some (first_form g) = sym e ∙ ap form_named (sym op) ∙ named_first g in
    ap role_of (same_some f (first_form g) first) ∙ role_first g

-- a card and how it was read
pub record ReadAs (c : CardText) (r : ReadView) : Type 0 where
  pub number : r.number ≡ c.number
  pub name : r.name ≡ name_in c.name
  pub operation : operation_of r.form ≡ c.op
  pub spelled : SpellsForm r.form c.operands r.values

-- a card that breaks no rule behind the others, as it was read
pub record Accepts (s : SeenView) (earlier : List CardText) (c : CardText) (r : ReadView) : Type 0 where
  pub read : ReadAs c r
  pub none : BreaksNone earlier c rules
  pub calls : CallsAs c (role_of r.form)
  pub accepted : Accepted s (role_of r.form) c

if_none : (b : Bool) (why : Why) (o : Option Why) → (if b then Some why else o) ≡ None → (b ≡ false) × (o ≡ None)
if_none true why o e = absurd cc
if_none false why o e = (refl, e)

-- what the reader finds not broken
not_broken : (s : SeenView) (role : Role) (c : CardText) (readable : Bool) → IsTrue (is_name_field c.name) → broken_rule s role (name_in c.name) readable ≡ None → Accepted s role c
not_broken s role c readable field e =
    let named = if_none (is_misnamed_role role (name_in c.name)) BadCard _ e in
    let placed = if_none (is_misplaced_role s role) WrongPlace _ named.1 in
    let read = if_none (not readable) BadOperand _ placed.1 in
    let single = if_none (is_doubled_name s role (name_in c.name)) DuplicateName _ read.1 in
    record { field = field; named = named.0; placed = placed_is s role placed.0; single = single.0 }

-- the reader finds the operands readable
is_readable : (s : SeenView) (role : Role) (name : Option (List ℕ)) (readable : Bool) → broken_rule s role name readable ≡ None → not readable ≡ false
is_readable s role name readable e =
    let named = if_none (is_misnamed_role role name) BadCard _ e in
    let placed = if_none (is_misplaced_role s role) WrongPlace _ named.1 in
    (if_none (not readable) BadOperand _ placed.1).0

impossible : {A : Type 0} → true ≡ false → A
impossible e = absurd cc

-- what an answer of the reader says of a card
abbrev pub CardLaw : SeenView → List CardText → CardText → Result ReadView Why → Type 0
CardLaw s earlier c (Err why) = BreaksFirst earlier c rules why
CardLaw s earlier c (Ok r) = Accepts s earlier c r

known_law : (s : SeenView) (c : CardText) (earlier : List CardText) (f : CardForm) (said : Option SaidView) (broken : Option Why) → form_named c.op ≡ Some f → IsTrue (is_name_field c.name) → Sees s earlier
    → reading_by c.op c.operands all_forms ≡ said → broken_rule s (role_of f) (name_in c.name) (is_some said) ≡ broken → Answers earlier c rules broken
    → CardLaw s earlier c (read_with c.number (name_in c.name) said broken)
known_law s c earlier f said (Some why) is field h e b answer = answer
known_law s c earlier f None None is field h e b answer =
    impossible (is_readable s (role_of f) (name_in c.name) false b)
known_law s c earlier f (Some said) None is field h e b answer =
    let found = said_found c.op c.operands all_forms said e in
    let same = role_is c f said.form is found.0 in
    record {
      read = record { number = refl; name = refl; operation = found.0; spelled = found.1 };
      none = answer;
      calls = calls_of c said.form (sym found.0);
      accepted = subst (λ (role : Role). Accepted s role c) same (not_broken s (role_of f) c true field b);
    }

law_of : (s : SeenView) (c : CardText) (earlier : List CardText) (o : Option CardForm) → form_named c.op ≡ o → IsTrue (is_name_field c.name) → Sees s earlier → CardLaw s earlier c (read_known s c o)
law_of s c earlier None is field h = inl (subst (λ (o : Option CardForm). BreaksRule earlier c o UnknownOp) (sym is) refl, refl)
law_of s c earlier (Some f) is field h =
    known_law s c earlier f (reading_by c.op c.operands all_forms) (broken_rule s (role_of f) (name_in c.name) (is_some (reading_by c.op c.operands all_forms))) is field h refl refl
    (broken_is s c earlier f (is_some (reading_by c.op c.operands all_forms)) is field h (readable c))

-- what the reader says of a card behind the others is so
pub card_law : (s : SeenView) (c : CardText) (earlier : List CardText) → IsTrue (is_name_field c.name) → Sees s earlier → CardLaw s earlier c (read_card s c)
card_law s c earlier field h = law_of s c earlier (form_named c.op) refl field h
