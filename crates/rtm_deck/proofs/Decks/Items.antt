-- Each card that is read says its item, and keeps the conditions on the deck.
use Rattle.std.proofs.Common.{◌≡◌, ℕ, Bool, true, false, not, ◌||◌, List, [], ◌∷◌, length, Option, Some, None, is_some, is_none, refl, ap, sym, subst, ◌∙◌, inl, inr, arith}
use Rattle.std.specs.Prelude.{◌⊎◌, IsTrue, unwrap_or, nat_le, ◌==◌, if◌then◌else◌}
use Rattle.std.specs.List.{list_all, list_any, AllByRecursion}
use Rattle.std.proofs.lemmas.Bool.{and_from, or_left, or_right, ne_eqb}
use Rattle.rtm_cards.specs.Limits.{most_entries}
use Rattle.rtm_cards.specs.Cards.{CardText}
use Rattle.rtm_cards.specs.Name.{is_name, is_name_field}
use Rattle.rtm_deck_operands.specs.declared.value.Value.{Value}
use Rattle.rtm_deck_operands.specs.declared.value.Value.TheVariants as values
use Rattle.rtm_deck_operands.specs.declared.slot.Kind.TheVariants as kinds
use Rattle.rtm_deck_operands.specs.declared.slot.NameOf.TheVariants as names
use Rattle.rtm_deck_operands.specs.declared.slot.Slot.{Slot}
use Rattle.rtm_deck_operands.specs.Name.{padded_text, trimmed_text, is_padded_name, name_in}
use Rattle.rtm_deck_operands.specs.Slot.{SpellsSlots, slot_fits, slots_fit, slot_is_well_made, optional_slot}
use Rattle.rtm_deck_operands.proofs.Names.{trimmed_text-padded_text, is_padded-padded_text}
use Rattle.rtm_deck_operands.proofs.SlotReading.{slots_fit-spelled, table_parts}
use Rattle.rtm_deck_items.specs.declared.deck.UnitKind.TheVariants as kinds_of
use Rattle.rtm_deck_items.specs.declared.why.Why.{Why}
use Rattle.rtm_deck_items.specs.declared.form.CardForm.{CardForm}
use Rattle.rtm_deck_items.specs.declared.form.CardForm.TheVariants as forms
use Rattle.rtm_deck_items.specs.Forms.{operation_of, slots_of, needs_some}
use Rattle.rtm_deck_items.specs.View.{DeckView}
use Rattle.rtm_deck_items.specs.Items.{some, program_name, unit_name, related_name, label_text, values_of_op}
use Rattle.rtm_deck_items.specs.Spelling.{SpellsOperands, SpellsForm, SpellsItem}
use Rattle.rtm_deck_items.specs.WellFormed.{is_program, is_task_in, is_related, is_unit_of, is_command_of, is_label}
use Rattle.rtm_deck_spelling.proofs.Forms.{form_is_well_made}
use Rattle.rtm_deck.specs.declared.role.Role.{Role}
use Rattle.rtm_deck.specs.declared.role.Role.TheVariants.{Task, Srb, Command, Line}
use Rattle.rtm_deck.specs.inner.View.{ReadView, SeenView, Refusal}
use Rattle.rtm_deck.specs.inner.Roles.{role_of, is_line, is_misnamed_role}
use Rattle.rtm_deck.specs.inner.References.{unfound, first_unfound, nameless_or}
use Rattle.rtm_deck.specs.inner.Operations.{no_name, named_number_in, named_number_at, number_at, flag_at, value_at, op_of}
use Rattle.rtm_deck.specs.inner.Building.{unit_of}
use Rattle.rtm_deck.proofs.Cards.ReadCards.{or_None}
use Rattle.rtm_deck.proofs.Decks.Walk.{Step}
use Rattle.rtm_deck.proofs.Decks.Operations.{Places, FindsEach, found, for_shapes, cons, number_said, number_most, flag_said, program_said, program_there, task_said, task_there, Said, said}
use Rattle.rtm_deck.proofs.Decks.Laid.{item_at}
use Rattle.rtm_deck.proofs.Cards.SeenCards.{is_line_role}

-- Names.

no_bytes : (text : List ℕ) → (length text == 0 || false) ≡ true → text ≡ []
no_bytes [] e = refl
no_bytes (b ∷ bs) e =
    let none : ((length (b ∷ bs) == 0) || false) ≡ false = ap (λ t. t || false) (ne_eqb (length (b ∷ bs)) 0 (λ h. absurd (omega (arith, h)))) in
    let clash : false ≡ true = sym none ∙ e in absurd cc

label_if : (text : List ℕ) (b : Bool) → is_name text ≡ b → (length text == 0 || b) ≡ true → text ≡ label_text (if b then Some (padded_text text) else None)
label_if text true e h = sym (trimmed_text-padded_text text e)
label_if text false e h = no_bytes text h

label_read : (text : List ℕ) → IsTrue (is_name_field text) → text ≡ label_text (name_in text)
label_read text h = label_if text (is_name text) refl h

label_padded : (text : List ℕ) (b : Bool) → is_name text ≡ b → IsTrue (is_label (if b then Some (padded_text text) else None))
label_padded text true e = is_padded-padded_text text e
label_padded text false e = refl

pub read_label : (text : List ℕ) → IsTrue (is_label (name_in text))
read_label text = label_padded text (is_name text) refl

name_read : (text : List ℕ) (o : Option (List ℕ)) → IsTrue (is_name_field text) → o ≡ name_in text → is_none o ≡ false → text ≡ trimmed_text (unwrap_or o no_name)
name_read text None h e g = absurd cc
name_read text (Some name) h e g = label_read text h ∙ ap label_text (sym e)

pub name_padded : (text : List ℕ) (o : Option (List ℕ)) → o ≡ name_in text → is_none o ≡ false → IsTrue (is_padded_name (unwrap_or o no_name))
name_padded text None e g = absurd cc
name_padded text (Some name) e g = subst (λ (x : Option (List ℕ)). IsTrue (is_label x)) (sym e) (read_label text)

nameless : (text : List ℕ) (o : Option (List ℕ)) → IsTrue (is_name_field text) → o ≡ name_in text → is_some o ≡ false → text ≡ []
nameless text (Some name) h e g = absurd cc
nameless text None h e g = label_read text h ∙ ap label_text (sym e)

-- Values that are spelled fit.

fit_if_spelled : (slots : List Slot) (operands : List (List ℕ)) (vs : List (Option Value)) → list_all slot_is_well_made slots ≡ true → SpellsOperands slots operands vs → IsTrue (slots_fit slots vs)
fit_if_spelled [] operands vs made h = subst (λ (xs : List (Option Value)). IsTrue (slots_fit [] xs)) (sym h) refl
fit_if_spelled (slot ∷ slots) operands vs made h = slots_fit-spelled (slot ∷ slots) operands vs made h

pub fit : (f : CardForm) (operands : List (List ℕ)) (vs : List (Option Value)) → SpellsForm f operands vs → IsTrue (slots_fit (slots_of f) vs)
fit f operands vs h = fit_if_spelled (slots_of f) operands vs (table_parts (slots_of f) (form_is_well_made f)).made h.spelled

-- Some value is given where some operand has to stand and none has a default.

given_or_none : (slots : List Slot) (operands : List (List ℕ)) (vs : List (Option Value)) → SpellsSlots slots operands vs → (operands ≡ []) ⊎ (list_any is_some vs ≡ true)
given_or_none [] operands [] s = inl s
given_or_none [] operands (v ∷ vs) s = absurd s
given_or_none (slot ∷ slots) operands [] s = absurd s
given_or_none (slot ∷ slots) operands (v ∷ vs) (inl s) = elim (given_or_none slots operands vs s.1) [
  | inl none ↦ inl none
  | inr some ↦ inr (or_right (is_some v) (list_any is_some vs) some)
]
given_or_none (slot ∷ slots) operands (v ∷ vs) (inr s) = inr (or_left (is_some v) (list_any is_some vs) (ap is_some s.0.is))

stands_some : (operands : List (List ℕ)) (vs : List (Option Value)) → (operands ≡ []) ⊎ (list_any is_some vs ≡ true) → IsTrue (not (length operands == 0)) → IsTrue (list_any is_some vs)
stands_some operands vs (inl none) h = absurd (let clash : not (length operands == 0) ≡ false = ap (λ (os : List (List ℕ)). not (length os == 0)) none in cc)
stands_some operands vs (inr some) h = some

gives_some : (f : CardForm) (operands : List (List ℕ)) (vs : List (Option Value)) → SpellsForm f operands vs → IsTrue (needs_some f) → IsTrue (list_any is_some vs)
gives_some forms.Region operands vs s w = stands_some operands vs (given_or_none (slots_of forms.Region) operands vs s.spelled) (s.some w)
gives_some forms.SetRp operands vs s w = stands_some operands vs (given_or_none (slots_of forms.SetRp) operands vs s.spelled) (s.some w)
gives_some _ operands vs s w = absurd cc

-- Nothing is without a name.

pub finds_each : (e : SeenView) (own : List (List ℕ)) (slots : List Slot) (vs : List (Option Value)) → first_unfound e own slots vs ≡ None → FindsEach e own slots vs
finds_each e own [] vs h = tt
finds_each e own (slot ∷ slots) [] h = tt
finds_each e own (slot ∷ slots) (v ∷ vs) h = let n = or_None (unfound e own slot.kind v) (first_unfound e own slots vs) h in (n.0, finds_each e own slots vs n.1)

pub none_nameless : (r : ReadView) (o : Option Why) (others : Option Refusal) → nameless_or r o others ≡ None → (o ≡ None) × (others ≡ None)
none_nameless r None others h = (refl, h)
none_nameless r (Some why) others h = absurd cc

-- each name field is a name, or nothing
abbrev pub Fields : List CardText → Type 0
Fields cs = AllByRecursion (λ (c : CardText). IsTrue (is_name_field c.name)) cs

module _ (e : SeenView) (d : DeckView) (places : Places e d) where
  record TaskValues (vs : List (Option Value)) : Type 0 where
    same : program_name d (named_number_at e.programs vs 0) ∷ [] ≡ vs
    there : IsTrue (is_program d (named_number_at e.programs vs 0))

  task_values : (own : List (List ℕ)) (vs : List (Option Value)) → IsTrue (slots_fit (slots_of forms.Task) vs) → FindsEach e own (slots_of forms.Task) vs → TaskValues vs
  task_values own vs h = for_shapes (slots_of forms.Task) (λ vs. FindsEach e own (slots_of forms.Task) vs → TaskValues vs)
      (λ v h given. record { same = cons (program_said e d places own v h given.0) refl; there = program_there e d places own v h given.0 }) vs h

  related_said : (own : List (List ℕ)) (v : Option Value) → IsTrue (slot_fits (optional_slot [] (kinds.Name names.Task)) v) → unfound e own (kinds.Name names.Task) v ≡ None → related_name d (named_number_in e.units v) ≡ v
  related_said own None h f = refl
  related_said own (Some (values.Name name)) h f = places.task_said name (found _ _ f)
  related_said own _ h f = absurd cc

  related_there : (own : List (List ℕ)) (v : Option Value) → IsTrue (slot_fits (optional_slot [] (kinds.Name names.Task)) v) → unfound e own (kinds.Name names.Task) v ≡ None → IsTrue (is_related d kinds_of.Srb (named_number_in e.units v))
  related_there own None h f = refl
  related_there own (Some (values.Name name)) h f = places.task_there name (found _ _ f)
  related_there own _ h f = absurd cc

  record SrbValues (vs : List (Option Value)) : Type 0 where
    same : program_name d (named_number_at e.programs vs 0) ∷ related_name d (named_number_in e.units (value_at vs 1)) ∷ [] ≡ vs
    there : IsTrue (is_program d (named_number_at e.programs vs 0))
    related : IsTrue (is_related d kinds_of.Srb (named_number_in e.units (value_at vs 1)))

  srb_values : (own : List (List ℕ)) (vs : List (Option Value)) → IsTrue (slots_fit (slots_of forms.Srb) vs) → FindsEach e own (slots_of forms.Srb) vs → SrbValues vs
  srb_values own vs h = for_shapes (slots_of forms.Srb) (λ vs. FindsEach e own (slots_of forms.Srb) vs → SrbValues vs)
      (λ v h w k given. record { same = cons (program_said e d places own v h given.0) (cons (related_said own w k given.1.0) refl); there = program_there e d places own v h given.0; related = related_there own w k given.1.0 }) vs h

  record CancelValues (vs : List (Option Value)) : Type 0 where
    same : unit_name d (named_number_at e.units vs 0) ∷ some (values.Number (number_at vs 1)) ∷ some (values.Flag (flag_at vs 2)) ∷ [] ≡ vs
    there : IsTrue (is_task_in d (named_number_at e.units vs 0))
    most : IsTrue (nat_le (number_at vs 1) most_entries)

  cancel_values : (own : List (List ℕ)) (vs : List (Option Value)) → IsTrue (slots_fit (slots_of forms.Cancel) vs) → FindsEach e own (slots_of forms.Cancel) vs → CancelValues vs
  cancel_values own vs h = for_shapes (slots_of forms.Cancel) (λ vs. FindsEach e own (slots_of forms.Cancel) vs → CancelValues vs)
      (λ v h w k x m given. record { same = cons (task_said e d places own v h given.0) (cons (number_said 0 most_entries w k) (cons (flag_said x m) refl)); there = task_there e d places own v h given.0; most = number_most 0 most_entries w k }) vs h

  -- what holds of the unit or the command that a card says
  abbrev pub Fine : Role → ReadView → Type 0
  Fine Task r = IsTrue (is_unit_of d (unit_of e r kinds_of.Task None))
  Fine Srb r = IsTrue (is_unit_of d (unit_of e r kinds_of.Srb (named_number_in e.units (value_at r.values 1))))
  Fine Command r = IsTrue (is_command_of d (record { target = named_number_at e.units r.values 0; at = number_at r.values 1; dump = flag_at r.values 2 }))
  Fine _ r = Unit {0}

  -- the card says what is read, and that is fine
  abbrev pub Good : Role → CardText → ReadView → Type 0
  Good role c r = SpellsItem d c (item_at e role r) × Fine role r

  with_values : (f : CardForm) (operands : List (List ℕ)) (vs ws : List (Option Value)) → ws ≡ vs → SpellsForm f operands vs → SpellsForm f operands ws
  with_values f operands vs ws is h = subst (λ (x : List (Option Value)). SpellsForm f operands x) (sym is) h

  good_as : (c : CardText) (r : ReadView) (own : List (List ℕ)) → IsTrue (is_name_field c.name) → r.name ≡ name_in c.name → (f : CardForm) → is_line (role_of f) ≡ false → c.op ≡ operation_of f → SpellsForm f c.operands r.values
      → is_misnamed_role (role_of f) r.name ≡ false → IsTrue (slots_fit (slots_of f) r.values) → FindsEach e own (slots_of f) r.values → Good (role_of f) c r
  good_as c r own field name forms.Region l op spells named fits found =
      (record { name = nameless c.name r.name field name named; operation = op; operands = with_values forms.Region c.operands r.values (some (values.Number (number_at r.values 0)) ∷ some (values.Flag (flag_at r.values 1)) ∷ []) (region_values r.values fits) spells }, tt)
    where
      region_values : (vs : List (Option Value)) → IsTrue (slots_fit (slots_of forms.Region) vs) → some (values.Number (number_at vs 0)) ∷ some (values.Flag (flag_at vs 1)) ∷ [] ≡ vs
      region_values vs h = for_shapes (slots_of forms.Region) (λ vs. some (values.Number (number_at vs 0)) ∷ some (values.Flag (flag_at vs 1)) ∷ [] ≡ vs)
          (λ v h w k. cons (number_said 1 most_entries v h) (cons (flag_said w k) refl)) vs h
  good_as c r own field name forms.Prog l op spells named fits found =
      (record { name = name_read c.name r.name field name named; operation = op; operands = with_values forms.Prog c.operands r.values [] (sym spells.spelled) spells }, tt)
  good_as c r own field name forms.Pend l op spells named fits found =
      (record { name = nameless c.name r.name field name named; operation = op; operands = with_values forms.Pend c.operands r.values [] (sym spells.spelled) spells }, tt)
  good_as c r own field name forms.Oper l op spells named fits found =
      (record { name = nameless c.name r.name field name named; operation = op; operands = with_values forms.Oper c.operands r.values [] (sym spells.spelled) spells }, tt)
  good_as c r own field name forms.End l op spells named fits found =
      (record { name = nameless c.name r.name field name named; operation = op; operands = with_values forms.End c.operands r.values [] (sym spells.spelled) spells }, tt)
  good_as c r own field name forms.Task l op spells named fits found =
      let v = task_values own r.values fits found in (
        record { name = name_read c.name r.name field name named; operation = op; operands = with_values forms.Task c.operands r.values _ v.same spells },
        and_from _ true (and_from _ _ (name_padded c.name r.name name named) v.there) refl,
      )
  good_as c r own field name forms.Srb l op spells named fits found =
      let v = srb_values own r.values fits found in (
        record { name = name_read c.name r.name field name named; operation = op; operands = with_values forms.Srb c.operands r.values _ v.same spells },
        and_from _ _ (and_from _ _ (name_padded c.name r.name name named) v.there) v.related,
      )
  good_as c r own field name forms.Cancel l op spells named fits found =
      let v = cancel_values own r.values fits found in (
        record { name = nameless c.name r.name field name named; operation = op; operands = with_values forms.Cancel c.operands r.values _ v.same spells },
        and_from _ _ v.there v.most,
      )
  good_as c r own field name _ l op spells named fits found = absurd cc

  line_good : (c : CardText) (r : ReadView) (own : List (List ℕ)) → IsTrue (is_name_field c.name) → r.name ≡ name_in c.name → c.op ≡ operation_of r.form → SpellsForm r.form c.operands r.values
      → Said e d places own r.form r.values → Good Line c r
  line_good c r own field name op spells s =
      let form = s.form in let same = s.same in (
        record {
          name = label_read c.name field ∙ ap label_text (sym name);
          operation = op ∙ ap operation_of (sym form);
          operands = subst (λ (f : CardForm). SpellsForm f c.operands (values_of_op d (op_of e r.form r.values))) (sym form) (with_values r.form c.operands r.values (values_of_op d (op_of e r.form r.values)) same spells);
        },
        tt,
      )

  pub said_of : (s : SeenView) (c : CardText) (r : ReadView) (own : List (List ℕ)) → Step s c r → is_line (role_of r.form) ≡ true → FindsEach e own (slots_of r.form) r.values → Said e d places own r.form r.values
  said_of s c r own st l found = said e d places own r.form l r.values (fit r.form c.operands r.values st.spells) (gives_some r.form c.operands r.values st.spells) found

  pub good : (s : SeenView) (c : CardText) (r : ReadView) (own : List (List ℕ)) → IsTrue (is_name_field c.name) → Step s c r → FindsEach e own (slots_of r.form) r.values → Good (role_of r.form) c r
  good s c r own field st found = go (is_line (role_of r.form)) refl
    where
      go : (b : Bool) → is_line (role_of r.form) ≡ b → Good (role_of r.form) c r
      go false l = good_as c r own field st.name r.form l st.op st.spells st.named (fit r.form c.operands r.values st.spells) found
      go true l = subst (λ (ρ : Role). Good ρ c r) (sym (is_line_role (role_of r.form) l)) (line_good c r own field st.name st.op st.spells (said_of s c r own st l found))
