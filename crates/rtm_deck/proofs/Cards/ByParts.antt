-- How a card is read, from its parts.
use Rattle.std.proofs.Common.{◌≡◌, ◌∙◌, sym, ap, refl, ℕ, Bool, List, Option, Some, None, is_some}
use Rattle.std.specs.Prelude.{Result, Err, IfSome}
use Rattle.std.specs.Option.{option_map}
use Rattle.rtm_cards.specs.Cards.{CardText}
use Rattle.rtm_deck_operands.specs.declared.value.Value.{Value}
use Rattle.rtm_deck_operands.specs.Name.{name_in}
use Rattle.rtm_deck_items.specs.declared.why.Why.{Why}
use Rattle.rtm_deck_items.specs.declared.form.CardForm.{CardForm}
use Rattle.rtm_deck_items.specs.declared.why.Why.TheVariants.{UnknownOp}
use Rattle.rtm_deck_items.specs.Forms.{all_forms, form_named, operation_of}
use Rattle.rtm_deck_spelling.proofs.RuleTests.{named_first}
use Rattle.rtm_deck.specs.declared.role.Role.{Role}
use Rattle.rtm_deck.proofs.Cards.ReadCards.{said_found, role_first}
use Rattle.rtm_deck.specs.inner.View.{ReadView, SeenView}
use Rattle.rtm_deck.specs.inner.Roles.{role_of}
use Rattle.rtm_deck.specs.inner.Seen.{SaidView, reading_in, reading_by, broken_rule, read_with, read_known, read_card}

-- a card whose operation is known, read from its parts
pub read_card-parts : (s : SeenView) (c : CardText) (form : CardForm) (name : Option (List ℕ)) (said : Option SaidView) (readable : Bool) (broken : Option Why) (r : Result ReadView Why) →
    form_named c.op ≡ Some form → name ≡ name_in c.name → said ≡ reading_by c.op c.operands all_forms → readable ≡ is_some said →
    broken ≡ broken_rule s (role_of form) name readable → r ≡ read_with c.number name said broken → r ≡ read_card s c
read_card-parts s c form name said readable broken r f n t e b is =
    let e2 : readable ≡ is_some (reading_by c.op c.operands all_forms) = e ∙ ap is_some t in
    let b2 : broken ≡ broken_rule s (role_of form) (name_in c.name) (is_some (reading_by c.op c.operands all_forms)) = b ∙ (λ j. broken_rule s (role_of form) (n j) (e2 j)) in
    is ∙ ((λ j. read_with c.number (n j) (t j) (b2 j)) ∙ sym (ap (read_known s c) f))

-- a form by which operands say something has the operation
pub known_names : (op : List ℕ) (operands : List (List ℕ)) (form : Option CardForm) (values : List (Option Value)) → reading_in form values ≡ reading_by op operands all_forms → IfSome form (λ form. operation_of form ≡ op)
known_names op operands None values e = tt
known_names op operands (Some form) values e = (said_found op operands all_forms (record { form = form; values = values }) (sym e)).0

-- operands say something exactly where a form reads them
pub read_by_some : (form : Option CardForm) (values : List (Option Value)) → is_some form ≡ is_some (reading_in form values)
read_by_some None values = refl
read_by_some (Some form) values = refl

-- and the role of all forms of it
pub known_role : (op : List ℕ) (form : CardForm) → operation_of form ≡ op → Some (role_of form) ≡ option_map role_of (form_named op)
known_role op form e = ap Some (sym (role_first form)) ∙ sym (ap (option_map role_of) (sym (ap form_named e) ∙ named_first form))

by_role : (s : SeenView) (c : CardText) (role : Role) (name : Option (List ℕ)) (said : Option SaidView) (readable : Bool) (broken : Option Why) (r : Result ReadView Why) (o : Option CardForm) → form_named c.op ≡ o → Some role ≡ option_map role_of o
    → name ≡ name_in c.name → said ≡ reading_by c.op c.operands all_forms → readable ≡ is_some said → broken ≡ broken_rule s role name readable → r ≡ read_with c.number name said broken → r ≡ read_card s c
by_role s c role name said readable broken r None f e n t a b is = absurd cc
by_role s c role name said readable broken r (Some form) f e n t a b is =
    let same : role ≡ role_of form = cc in
    read_card-parts s c form name said readable broken r f n t a (b ∙ ap (λ x. broken_rule s x name readable) same) is

-- a card whose role is known, read from its parts
pub read_card-role : (s : SeenView) (c : CardText) (role : Role) (name : Option (List ℕ)) (said : Option SaidView) (readable : Bool) (broken : Option Why) (r : Result ReadView Why) → Some role ≡ option_map role_of (form_named c.op)
    → name ≡ name_in c.name → said ≡ reading_by c.op c.operands all_forms → readable ≡ is_some said → broken ≡ broken_rule s role name readable → r ≡ read_with c.number name said broken → r ≡ read_card s c
read_card-role s c role name said readable broken r e n t a b is = by_role s c role name said readable broken r (form_named c.op) refl e n t a b is

none_by : (s : SeenView) (c : CardText) (o : Option CardForm) → form_named c.op ≡ o → None ≡ option_map role_of o → Err UnknownOp ≡ read_card s c
none_by s c None f e = sym (ap (read_known s c) f)
none_by s c (Some form) f e = absurd cc

-- a card whose operation is unknown
pub read_card-unknown : (s : SeenView) (c : CardText) → None ≡ option_map role_of (form_named c.op) → Err UnknownOp ≡ read_card s c
read_card-unknown s c e = none_by s c (form_named c.op) refl e
