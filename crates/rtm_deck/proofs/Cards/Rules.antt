-- The reader tests the rules of form in their order.
use Rattle.std.proofs.Common.{◌≡◌, ℕ, suc, Bool, true, false, not, ◌&&◌, ◌||◌, List, [], ◌∷◌, length, Option, Some, None, is_some, is_none, refl, ap, sym, subst, ◌∙◌, inl, inr, arith}
use Rattle.std.specs.Prelude.{codes, IsTrue, count_by, nat_le, ◌==◌, if◌then◌else◌}
use Rattle.std.specs.List.{list_any}
use Rattle.std.proofs.lemmas.Bool.{ne_eqb, or_parts}
use Rattle.rtm_cards.specs.Name.{is_name, is_name_field}
use Rattle.rtm_cards.specs.Limits.{most_programs, most_units, most_commands}
use Rattle.rtm_cards.specs.Cards.{CardText}
use Rattle.rtm_deck_operands.specs.Name.{padded_text, name_in}
use Rattle.rtm_deck_operands.proofs.Names.{trimmed_text-padded_text, is_padded-padded_text}
use Rattle.rtm_deck_items.specs.declared.why.Why.{Why}
use Rattle.rtm_deck_items.specs.declared.why.Why.TheVariants.{UnknownOp, BadCard, WrongPlace, BadOperand, DuplicateName, OverLimit, NoJobStep}
use Rattle.rtm_deck_items.specs.declared.form.CardForm.{CardForm}
use Rattle.rtm_deck_items.specs.declared.form.CardForm.TheVariants as forms
use Rattle.rtm_deck_items.specs.Forms.{is_inside, form_named, name_field}
use Rattle.rtm_deck_items.specs.Faults.{is_called, is_named, has_operation, is_unit_card, since_program, is_misnamed, is_misplaced, is_out_of_order, differ, is_doubled, is_over_limit, lacks_task, HasBadOperands, BreaksAs, BreaksRule, Breaks, BreaksFirst, BreaksNone, rules}
use Rattle.rtm_deck.specs.declared.role.Role.{Role}
use Rattle.rtm_deck.specs.declared.role.Role.TheVariants.{Region, Program, ProgramEnd, Task, Srb, Commands, Command, End, Line}
use Rattle.rtm_deck.specs.inner.View.{SeenView}
use Rattle.rtm_deck.specs.inner.Roles.{role_of, is_inside_role, is_misnamed_role}
use Rattle.rtm_deck.specs.inner.Seen.{has_name, has_given, is_unordered, is_misplaced_role, is_doubled_name, is_beyond, lacks_task_role, broken_rule}
use Rattle.rtm_deck.proofs.Cards.SeenCards.{Holds, Sees, any_card}

-- of these rules none is broken, or that one first
abbrev pub Answers : List CardText → CardText → List Why → Option Why → Type 0
Answers earlier c others None = BreaksNone earlier c others
Answers earlier c others (Some why) = BreaksFirst earlier c others why

-- the test says whether the rule is broken
pub record Tests (b : Bool) (P : Type 0) : Type 0 where
  pub yes : b ≡ true → P
  pub no : b ≡ false → P → ⊥

-- a test more, before the others
pub tested_first : (earlier : List CardText) (c : CardText) (b : Bool) (rule : Why) (others : List Why) (o : Option Why) → Tests b (Breaks earlier c rule)
    → (b ≡ false → Answers earlier c others o) → Answers earlier c (rule ∷ others) (if b then Some rule else o)
tested_first earlier c true rule others o t h = inl (t.yes refl, refl)
tested_first earlier c false rule others None t h = (t.no refl, h refl)
tested_first earlier c false rule others (Some why) t h = inr (t.no refl, h refl)

-- a rule that is a test
pub as_test : (earlier : List CardText) (c : CardText) (form : CardForm) (rule : Why) (a b : Bool) → form_named c.op ≡ Some form → BreaksAs earlier c form rule ≡ IsTrue a → b ≡ a → Tests b (Breaks earlier c rule)
as_test earlier c form rule a b named is same = record {
  yes = λ e. subst (λ (o : Option CardForm). BreaksRule earlier c o rule) (sym named) (subst (λ (P : Type 0). P) (sym is) (sym same ∙ e));
  no = λ e h. let broken : a ≡ true = subst (λ (P : Type 0). P) is (subst (λ (o : Option CardForm). BreaksRule earlier c o rule) named h) in let clash : true ≡ false = sym broken ∙ sym same ∙ e in absurd cc;
}

-- The rules by the role of a card.
abbrev pub misnamed_by : Role → List ℕ → Bool
misnamed_by Program text = length text == 0
misnamed_by Task text = length text == 0
misnamed_by Srb text = length text == 0
misnamed_by Line text = false
misnamed_by _ text = not (length text == 0)

abbrev pub out_of_order_by : List CardText → Role → Bool
out_of_order_by earlier Region = not (length earlier == 0)
out_of_order_by earlier Program = has_operation (codes "OPER") earlier
out_of_order_by earlier Task = has_operation (codes "OPER") earlier
out_of_order_by earlier Srb = has_operation (codes "OPER") earlier
out_of_order_by earlier Commands = has_operation (codes "OPER") earlier
out_of_order_by earlier Command = not (has_operation (codes "OPER") earlier)
out_of_order_by earlier _ = false

abbrev pub doubled_by : List CardText → Role → List ℕ → Bool
doubled_by earlier Program name = list_any (λ c. is_called (codes "PROG") c && is_named name c) earlier
doubled_by earlier Task name = list_any (λ c. is_unit_card c && is_named name c) earlier
doubled_by earlier Srb name = list_any (λ c. is_unit_card c && is_named name c) earlier
doubled_by earlier _ name = not (length name == 0) && list_any (is_named name) (since_program earlier)

abbrev pub over_by : List CardText → Role → Bool
over_by earlier Program = nat_le most_programs (count_by (is_called (codes "PROG")) earlier)
over_by earlier Task = nat_le most_units (count_by is_unit_card earlier)
over_by earlier Srb = nat_le most_units (count_by is_unit_card earlier)
over_by earlier Command = nat_le most_commands (count_by (is_called (codes "CANCEL")) earlier)
over_by earlier _ = false

abbrev pub lacks_by : List CardText → Role → Bool
lacks_by earlier End = not (has_operation (codes "TASK") earlier)
lacks_by earlier _ = false

-- a form's rules are those of its role
record AsRole (f : CardForm) (role : Role) : Type 0 where
  misnamed : (text : List ℕ) → is_misnamed (name_field f) text ≡ misnamed_by role text
  inside : is_inside f ≡ is_inside_role role
  order : (earlier : List CardText) → is_out_of_order earlier f ≡ out_of_order_by earlier role
  doubled : (earlier : List CardText) (name : List ℕ) → is_doubled earlier f name ≡ doubled_by earlier role name
  over : (earlier : List CardText) → is_over_limit earlier f ≡ over_by earlier role
  lacks : (earlier : List CardText) → lacks_task earlier f ≡ lacks_by earlier role

as_role : (f : CardForm) → AsRole f (role_of f)
as_role forms.Region = record { misnamed = λ t. refl; inside = refl; order = λ e. refl; doubled = λ e n. refl; over = λ e. refl; lacks = λ e. refl }
as_role _ = record { misnamed = λ t. refl; inside = refl; order = λ e. refl; doubled = λ e n. refl; over = λ e. refl; lacks = λ e. refl }

-- the name of a card is left out where its name field is empty
none_is_empty : (text : List ℕ) (b : Bool) → is_name text ≡ b → (length text == 0 || b) ≡ true → is_none (if b then Some (padded_text text) else None) ≡ (length text == 0)
none_is_empty [] true e field = absurd cc
none_is_empty [] false e field = refl
none_is_empty (t ∷ ts) true e field = sym (ne_eqb (suc (length ts)) 0 (λ h. absurd (omega (arith, h))))
none_is_empty (t ∷ ts) false e field =
    let none : ((suc (length ts) == 0) || false) ≡ false = ap (λ b. b || false) (ne_eqb (suc (length ts)) 0 (λ h. absurd (omega (arith, h)))) in
    let clash : false ≡ true = sym none ∙ field in
    absurd cc

none_is : (text : List ℕ) → IsTrue (is_name_field text) → is_none (name_in text) ≡ (length text == 0)
none_is text field = none_is_empty text (is_name text) refl field

some_not_none : {A : Type 0} (o : Option A) → is_some o ≡ not (is_none o)
some_not_none None = refl
some_not_none (Some x) = refl

some_is : (text : List ℕ) → IsTrue (is_name_field text) → is_some (name_in text) ≡ not (length text == 0)
some_is text field = some_not_none (name_in text) ∙ ap not (none_is text field)

misnamed_is : (role : Role) (text : List ℕ) → IsTrue (is_name_field text) → is_misnamed_role role (name_in text) ≡ misnamed_by role text
misnamed_is Region text field = some_is text field
misnamed_is Program text field = none_is text field
misnamed_is ProgramEnd text field = some_is text field
misnamed_is Task text field = none_is text field
misnamed_is Srb text field = none_is text field
misnamed_is Commands text field = some_is text field
misnamed_is Command text field = some_is text field
misnamed_is End text field = some_is text field
misnamed_is Line text field = refl

order_is : (role : Role) (s : SeenView) (earlier : List CardText) → Sees s earlier → is_unordered s role ≡ out_of_order_by earlier role
order_is Region s earlier h = h.started
order_is Program s earlier h = h.oper
order_is ProgramEnd s earlier h = refl
order_is Task s earlier h = h.oper
order_is Srb s earlier h = h.oper
order_is Commands s earlier h = h.oper
order_is Command s earlier h = ap not h.oper
order_is End s earlier h = refl
order_is Line s earlier h = refl

misplaced_is : (f : CardForm) (s : SeenView) (earlier : List CardText) → Sees s earlier → is_misplaced_role s (role_of f) ≡ is_misplaced earlier f
misplaced_is f s earlier h =
    let order = order_is (role_of f) s earlier h ∙ sym ((as_role f).order earlier) in
    λ j. h.ended j || differ (sym (as_role f).inside j) (h.inside j) || order j

-- not misplaced: inside of a program where it has to be
differ_no : (a b : Bool) → differ a b ≡ false → b ≡ a
differ_no true true e = refl
differ_no true false e = absurd cc
differ_no false true e = absurd cc
differ_no false false e = refl

pub placed_is : (s : SeenView) (role : Role) → is_misplaced_role s role ≡ false → s.inside ≡ is_inside_role role
placed_is s role e =
    let ab = (or_parts (s.ended || differ (is_inside_role role) s.inside) (is_unordered s role) e).0 in
    differ_no (is_inside_role role) s.inside (or_parts s.ended (differ (is_inside_role role) s.inside) ab).1

-- a name that stands among the names of such cards
holds_text : (names : List (List ℕ)) (test : CardText → Bool) (cards : List CardText) (text : List ℕ) → is_name text ≡ true → Holds names test cards
    → has_name names (padded_text text) ≡ list_any (λ c. test c && is_named text c) cards
holds_text names test cards text is h = h (padded_text text) (is_padded-padded_text text is) ∙ ap (λ t. list_any (λ c. test c && is_named t c) cards) (trimmed_text-padded_text text is)

-- a name that has to be given
given_text : (names : List (List ℕ)) (test : CardText → Bool) (cards : List CardText) (text : List ℕ) (b : Bool) → is_name text ≡ b → is_none (if b then Some (padded_text text) else None) ≡ false → Holds names test cards
    → has_given names (if b then Some (padded_text text) else None) ≡ list_any (λ c. test c && is_named text c) cards
given_text names test cards text true is some h = holds_text names test cards text is h
given_text names test cards text false is some h = absurd cc

-- a label that may be given
label_text : (names : List (List ℕ)) (cards : List CardText) (text : List ℕ) (b : Bool) → is_name text ≡ b → (length text == 0 || b) ≡ true → Holds names any_card cards
    → has_given names (if b then Some (padded_text text) else None) ≡ (not (length text == 0) && list_any (is_named text) cards)
label_text names cards [] true is field h = absurd cc
label_text names cards [] false is field h = refl
label_text names cards (t ∷ ts) true is field h =
    holds_text names any_card cards (t ∷ ts) is h ∙ ap (λ b. not b && list_any (is_named (t ∷ ts)) cards) (sym (ne_eqb (suc (length ts)) 0 (λ e. absurd (omega (arith, e)))))
label_text names cards (t ∷ ts) false is field h =
    let none : ((suc (length ts) == 0) || false) ≡ false = ap (λ b. b || false) (ne_eqb (suc (length ts)) 0 (λ e. absurd (omega (arith, e)))) in
    let clash : false ≡ true = sym none ∙ field in
    absurd cc

-- no name is given, so none is doubled
empty_text : (earlier : List CardText) (text : List ℕ) → not (length text == 0) ≡ false → false ≡ (not (length text == 0) && list_any (is_named text) (since_program earlier))
empty_text earlier text e = ap (λ b. b && list_any (is_named text) (since_program earlier)) (sym e)

doubled_is : (role : Role) (s : SeenView) (c : CardText) (earlier : List CardText) → Sees s earlier → IsTrue (is_name_field c.name)
    → is_misnamed_role role (name_in c.name) ≡ false → s.inside ≡ is_inside_role role → is_doubled_name s role (name_in c.name) ≡ doubled_by earlier role c.name
doubled_is Region s c earlier h field named placed = empty_text earlier c.name (sym (some_is c.name field) ∙ named)
doubled_is Program s c earlier h field named placed = given_text s.programs _ earlier c.name (is_name c.name) refl named h.programs
doubled_is ProgramEnd s c earlier h field named placed = empty_text earlier c.name (sym (some_is c.name field) ∙ named)
doubled_is Task s c earlier h field named placed = given_text s.units _ earlier c.name (is_name c.name) refl named h.units
doubled_is Srb s c earlier h field named placed = given_text s.units _ earlier c.name (is_name c.name) refl named h.units
doubled_is Commands s c earlier h field named placed = empty_text earlier c.name (sym (some_is c.name field) ∙ named)
doubled_is Command s c earlier h field named placed = empty_text earlier c.name (sym (some_is c.name field) ∙ named)
doubled_is End s c earlier h field named placed = empty_text earlier c.name (sym (some_is c.name field) ∙ named)
doubled_is Line s c earlier h field named placed = label_text s.own (since_program earlier) c.name (is_name c.name) refl field (h.own placed)

over_is : (role : Role) (s : SeenView) (earlier : List CardText) → Sees s earlier → is_beyond s role ≡ over_by earlier role
over_is Region s earlier h = refl
over_is Program s earlier h = ap (λ n. nat_le most_programs n) h.program_count
over_is ProgramEnd s earlier h = refl
over_is Task s earlier h = ap (λ n. nat_le most_units n) h.unit_count
over_is Srb s earlier h = ap (λ n. nat_le most_units n) h.unit_count
over_is Commands s earlier h = refl
over_is Command s earlier h = ap (λ n. nat_le most_commands n) h.command_count
over_is End s earlier h = refl
over_is Line s earlier h = refl

lacks_is : (role : Role) (s : SeenView) (earlier : List CardText) → Sees s earlier → lacks_task_role s role ≡ lacks_by earlier role
lacks_is Region s earlier h = refl
lacks_is Program s earlier h = refl
lacks_is ProgramEnd s earlier h = refl
lacks_is Task s earlier h = refl
lacks_is Srb s earlier h = refl
lacks_is Commands s earlier h = refl
lacks_is Command s earlier h = refl
lacks_is End s earlier h = h.task_there
lacks_is Line s earlier h = refl

-- The rule that the reader finds broken is the first that the card breaks, and none where it finds none.
pub broken_is : (s : SeenView) (c : CardText) (earlier : List CardText) (f : CardForm) (readable : Bool) → form_named c.op ≡ Some f → IsTrue (is_name_field c.name) → Sees s earlier
    → Tests (not readable) (HasBadOperands c) → Answers earlier c rules (broken_rule s (role_of f) (name_in c.name) readable)
broken_is s c earlier f readable is field h operands =
    let role = role_of f in
    let tells = as_role f in
    let o5 = if lacks_task_role s role then Some NoJobStep else None in
    let o4 = if is_beyond s role then Some OverLimit else o5 in
    let o3 = if is_doubled_name s role (name_in c.name) then Some DuplicateName else o4 in
    let o2 = if not readable then Some BadOperand else o3 in
    let o1 = if is_misplaced_role s role then Some WrongPlace else o2 in
    let o0 = if is_misnamed_role role (name_in c.name) then Some BadCard else o1 in
    let test = λ (rule : Why) (b a : Bool) (e : BreaksAs earlier c f rule ≡ IsTrue a) (same : b ≡ a). as_test earlier c f rule a b is e same in
    tested_first earlier c false UnknownOp (BadCard ∷ WrongPlace ∷ BadOperand ∷ DuplicateName ∷ OverLimit ∷ NoJobStep ∷ []) o0 (record { yes = λ e. absurd cc; no = λ e b. subst (λ (o : Option CardForm). BreaksRule earlier c o UnknownOp) is b })
    (λ _. tested_first earlier c (is_misnamed_role role (name_in c.name)) BadCard (WrongPlace ∷ BadOperand ∷ DuplicateName ∷ OverLimit ∷ NoJobStep ∷ []) o1 (test BadCard _ _ refl (misnamed_is role c.name field ∙ sym (tells.misnamed c.name)))
    (λ named. tested_first earlier c (is_misplaced_role s role) WrongPlace (BadOperand ∷ DuplicateName ∷ OverLimit ∷ NoJobStep ∷ []) o2 (test WrongPlace _ _ refl (misplaced_is f s earlier h))
    (λ placed. tested_first earlier c (not readable) BadOperand (DuplicateName ∷ OverLimit ∷ NoJobStep ∷ []) o3 (record {
      yes = λ e. subst (λ (o : Option CardForm). BreaksRule earlier c o BadOperand) (sym is) (operands.yes e);
      no = λ e b. operands.no e (subst (λ (o : Option CardForm). BreaksRule earlier c o BadOperand) is b);
    })
    (λ _. tested_first earlier c (is_doubled_name s role (name_in c.name)) DuplicateName (OverLimit ∷ NoJobStep ∷ []) o4
    (test DuplicateName _ _ refl (doubled_is role s c earlier h field named (placed_is s role placed) ∙ sym (tells.doubled earlier c.name)))
    (λ _. tested_first earlier c (is_beyond s role) OverLimit (NoJobStep ∷ []) o5 (test OverLimit _ _ refl (over_is role s earlier h ∙ sym (tells.over earlier)))
    (λ _. tested_first earlier c (lacks_task_role s role) NoJobStep [] None (test NoJobStep _ _ refl (lacks_is role s earlier h ∙ sym (tells.lacks earlier))) (λ _. tt)))))))
