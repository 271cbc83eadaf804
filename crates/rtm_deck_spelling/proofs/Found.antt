-- All that a deck's operands name is found.
use Rattle.std.proofs.Common.{◌≡◌, ℕ, Bool, true, false, not, ◌&&◌, ◌||◌, List, [], ◌∷◌, ◌++◌, Option, Some, None, refl, ap, sym, subst, ◌∙◌, inl, inr}
use Rattle.std.specs.Prelude.{bytes_eq, codes, IsTrue, take_while}
use Rattle.std.specs.Option.{option_map, option_map_or}
use Rattle.std.specs.List.{list_any, list_all}
use Rattle.std.proofs.lemmas.Bool.{or_cases, or_left, or_right, and_from, not-true, both_ways}
use Rattle.std.proofs.lemmas.List.Sums.{take_while-cons}
use Rattle.std.proofs.lemmas.Slice.Eq.{bytes_eq-Decides}
use Rattle.rtm_deck_operands.specs.declared.value.Value.{Value}
use Rattle.rtm_deck_operands.specs.declared.value.Value.TheVariants as values
use Rattle.rtm_deck_operands.specs.declared.slot.Slot.{Slot}
use Rattle.rtm_deck_operands.specs.declared.slot.Kind.{Kind}
use Rattle.rtm_deck_operands.specs.declared.slot.Kind.TheVariants as kinds
use Rattle.rtm_deck_operands.specs.declared.slot.NameOf.{NameOf}
use Rattle.rtm_deck_operands.specs.declared.slot.NameOf.TheVariants as names
use Rattle.rtm_deck_operands.specs.Name.{trimmed_text, is_padded_name}
use Rattle.rtm_deck_operands.specs.Value.{is_return_code}
use Rattle.rtm_cards.specs.Cards.{CardText}
use Rattle.rtm_deck_items.specs.declared.why.Why.{Why}
use Rattle.rtm_deck_items.specs.declared.deck.Line.{Line}
use Rattle.rtm_deck_items.specs.declared.deck.Unit.{Unit as UnitCard}
use Rattle.rtm_deck_items.specs.declared.deck.UnitKind.{UnitKind}
use Rattle.rtm_deck_items.specs.declared.deck.UnitKind.TheVariants.{Task, Srb}
use Rattle.rtm_deck_items.specs.declared.deck.Command.{Command}
use Rattle.rtm_deck_items.specs.declared.op.Op.{Op}
use Rattle.rtm_deck_items.specs.declared.op.Op.TheVariants as ops
use Rattle.rtm_deck_items.specs.declared.op.Setrp.{Setrp}
use Rattle.rtm_deck_items.specs.declared.form.CardForm.{CardForm}
use Rattle.rtm_deck_items.specs.declared.form.CardForm.TheVariants as forms
use Rattle.rtm_deck_items.specs.Forms.{operation_of, slots_of, form_named, is_inside}
use Rattle.rtm_deck_items.specs.View.{ProgramView, DeckView}
use Rattle.rtm_deck_items.specs.Reading.{is_task, is_task_card, carries}
use Rattle.rtm_deck_items.specs.Items.{Item, RegionCard, ProgramStart, ProgramCard, ProgramEnd, UnitOfWork, CommandsStart, CommandCard, DeckEnd, Block, ProgramBlock, UnitBlock, form_of, form_of_op, form_of_kind, values_of, values_of_op, label_text, program_name, unit_name, related_name}
use Rattle.rtm_deck_items.specs.Spelling.{SpellsItem, SpellEach, programs_in, units_in, SpellsDeck}
use Rattle.rtm_deck_items.specs.WellFormed.{is_well_formed, is_label, is_op, is_program_of, is_unit_of, is_command_of, is_program, is_task_in, is_srb_in, is_related, is_abend_code, is_reason, is_code, is_setrp_rc, is_setrp_code, gives_some, is_retry_label, is_own_label, has_label, has_label_anywhere, are_distinct, labels_in}
use Rattle.rtm_deck_items.specs.Faults.{is_called, is_named, since_program, is_labelled, is_found, IsUnfound, NamesUnfound, HasNameFault, own_program, NameFault}
use Rattle.rtm_deck_items.proofs.Lists.{both_true}
use Rattle.rtm_deck_items.proofs.FormFacts.{conditions}
use Rattle.rtm_deck_spelling.proofs.Forms.{one_form, one_values}
use Rattle.rtm_deck_spelling.proofs.LaidOut.{lines_then, blocks_then, commands_then_end, closing, opening, laid_out}
use Rattle.rtm_deck_spelling.proofs.Decoded.{any_at, at_tested, program_at}
use Rattle.rtm_deck_spelling.proofs.RuleTests.{named_first, first_form, line_form_of_op, line_card, called_as}
use Rattle.rtm_deck_spelling.proofs.Behind.{since_more}

-- no card of these, the first of which stands behind those others, names what isn't there
abbrev pub FindAll : List CardText → List CardText → List CardText → Type 0
FindAll cards earlier [] = Unit {0}
FindAll cards earlier (c ∷ later) = ((why : Why) → HasNameFault cards (own_program earlier c later) c why → ⊥) × FindAll cards (c ∷ earlier) later

pub no_name_fault : (cards earlier later : List CardText) (card : ℕ) (why : Why) → NameFault cards earlier later card why → FindAll cards earlier later → ⊥
no_name_fault cards earlier [] card why f h = f
no_name_fault cards earlier (c ∷ later) card why (inl f) h = h.0 why f.0
no_name_fault cards earlier (c ∷ later) card why (inr f) h = no_name_fault cards (c ∷ earlier) later card why f.1 h.1

-- what the value names is there; no other value names anything
abbrev pub is_value_found : List CardText → List CardText → NameOf → Option Value → Bool
is_value_found cards own named (Some (values.Name name)) = is_found cards own named (trimmed_text name)
is_value_found cards own named value = true

-- what a value of an operand of that kind names is there, where it names something, and the rest holds
abbrev FoundAnd : List CardText → List CardText → Kind → Option Value → Type 0 → Type 0
FoundAnd cards own (kinds.Name named) value Rest = (is_value_found cards own named value ≡ true) × Rest
FoundAnd cards own kind value Rest = Rest

-- each value names something that is there, or nothing
abbrev pub AllFound : List CardText → List CardText → List Slot → List (Option Value) → Type 0
AllFound cards own [] vs = Unit {0}
AllFound cards own (slot ∷ slots) [] = Unit {0}
AllFound cards own (slot ∷ slots) (v ∷ vs) = FoundAnd cards own slot.kind v (AllFound cards own slots vs)

not_unfound : (cards own : List CardText) (kind : Kind) (value : Option Value) (Rest : Type 0) (why : Why) → FoundAnd cards own kind value Rest → IsUnfound cards own kind value why → ⊥
not_unfound cards own (kinds.Name named) (Some (values.Name name)) Rest why h f = both_ways (is_found cards own named (trimmed_text name)) (not-true _ f.0) h.0
not_unfound cards own kind value Rest why h f = f

others_found : (cards own : List CardText) (kind : Kind) (value : Option Value) (Rest : Type 0) → FoundAnd cards own kind value Rest → Rest
others_found cards own (kinds.Name named) value Rest h = h.1
others_found cards own kind value Rest h = h

pub none_unfound : (cards own : List CardText) (slots : List Slot) (vs : List (Option Value)) (why : Why) → AllFound cards own slots vs → NamesUnfound cards own slots vs why → ⊥
none_unfound cards own [] vs why h f = f
none_unfound cards own (slot ∷ slots) [] why h f = f
none_unfound cards own (slot ∷ slots) (v ∷ vs) why h (inl f) = not_unfound cards own slot.kind v (AllFound cards own slots vs) why h f
none_unfound cards own (slot ∷ slots) (v ∷ vs) why h (inr f) =
    none_unfound cards own slots vs why (others_found cards own slot.kind v (AllFound cards own slots vs) h) f

pub card_finds : (d : DeckView) (cards own : List CardText) (c : CardText) (item : Item) (why : Why) → SpellsItem d c item → AllFound cards own (slots_of (form_of item)) (values_of d item)
    → HasNameFault cards own c why → ⊥
card_finds d cards own c item why s found f =
    let op = f.operation ∙ s.operation in
    let form : f.form ≡ form_of item = one_form f.form (form_of item) c.operands f.values (values_of d item) f.operands s.operands op in
    let vs : f.values ≡ values_of d item = one_values f.form (form_of item) c.operands f.values (values_of d item) f.operands s.operands op in
    none_unfound cards own (slots_of (form_of item)) (values_of d item) why found
    (subst (λ (v : List (Option Value)). NamesUnfound cards own (slots_of (form_of item)) v why) vs
    (subst (λ (g : CardForm). NamesUnfound cards own (slots_of g) f.values why) form f.unfound))

-- What a deck has is among its cards.
pub record AreThere (d : DeckView) (cards : List CardText) : Type 0 where
  pub programs : (name : List ℕ) → list_any (λ p. bytes_eq p.name name) d.programs ≡ true → list_any (λ c. is_called (codes "PROG") c && is_named (trimmed_text name) c) cards ≡ true
  pub tasks : (name : List ℕ) → list_any (λ u. is_task_card u && bytes_eq u.name name) d.units ≡ true → list_any (λ c. is_called (codes "TASK") c && is_named (trimmed_text name) c) cards ≡ true
  pub srbs : (name : List ℕ) → list_any (λ u. not (is_task_card u) && bytes_eq u.name name) d.units ≡ true → list_any (λ c. is_called (codes "SRB") c && is_named (trimmed_text name) c) cards ≡ true
  pub labels : (label : List ℕ) → has_label_anywhere d label ≡ true → list_any (is_labelled (trimmed_text label)) cards ≡ true

same_bytes : (a : List ℕ) → bytes_eq a a ≡ true
same_bytes a = (bytes_eq-Decides a a).1 refl

program_is_found : (d : DeckView) (cards own : List CardText) (prog : ℕ) → AreThere d cards → IsTrue (is_program d prog) → is_value_found cards own names.Program (program_name d prog) ≡ true
program_is_found d cards own prog there h =
    let r = program_at d prog h in
    let is = r.is in
    ap (λ (o : Option ProgramView). is_value_found cards own names.Program (option_map (λ p. values.Name p.name) o)) is
    ∙ there.programs r.element.name (any_at (λ (p : ProgramView). bytes_eq p.name r.element.name) d.programs prog r.element is (same_bytes r.element.name))

task_is_found : (d : DeckView) (cards own : List CardText) (unit : ℕ) → AreThere d cards → IsTrue (is_task_in d unit) → is_value_found cards own names.Task (unit_name d unit) ≡ true
task_is_found d cards own unit there h =
    let r = at_tested is_task_card d.units unit h in
    let is = r.is in
    let task : is_task_card r.element ≡ true = subst (λ (o : Option UnitCard). option_map_or is_task_card o false ≡ true) is h in
    ap (λ (o : Option UnitCard). is_value_found cards own names.Task (option_map (λ u. values.Name u.name) o)) is
    ∙ there.tasks r.element.name (any_at (λ (u : UnitCard). is_task_card u && bytes_eq u.name r.element.name) d.units unit r.element is (and_from _ _ task (same_bytes r.element.name)))

srb_is_found : (d : DeckView) (cards own : List CardText) (unit : ℕ) → AreThere d cards → IsTrue (is_srb_in d unit) → is_value_found cards own names.Srb (unit_name d unit) ≡ true
srb_is_found d cards own unit there h =
    let r = at_tested (λ card. not (is_task_card card)) d.units unit h in
    let is = r.is in
    let srb : not (is_task_card r.element) ≡ true = subst (λ (o : Option UnitCard). option_map_or (λ card. not (is_task_card card)) o false ≡ true) is h in
    ap (λ (o : Option UnitCard). is_value_found cards own names.Srb (option_map (λ u. values.Name u.name) o)) is
    ∙ there.srbs r.element.name (any_at (λ (u : UnitCard). not (is_task_card u) && bytes_eq u.name r.element.name) d.units unit r.element is (and_from _ _ srb (same_bytes r.element.name)))

related_is_found : (d : DeckView) (cards own : List CardText) (related : Option ℕ) → AreThere d cards → IsTrue (is_related d Srb related) → is_value_found cards own names.Task (related_name d related) ≡ true
related_is_found d cards own None there h = refl
related_is_found d cards own (Some unit) there h = task_is_found d cards own unit there h

retry_is_found : (d : DeckView) (cards own : List CardText) (label : Option (List ℕ)) → AreThere d cards → IsTrue (is_retry_label d label) → is_value_found cards own names.AnyLabel (option_map values.Name label) ≡ true
retry_is_found d cards own None there h = refl
retry_is_found d cards own (Some label) there h = there.labels label (both_true (is_padded_name label) (has_label_anywhere d label) h).1

-- the labels of a program are among these cards of it
abbrev pub OwnLabels : List Line → List CardText → Type 0
OwnLabels lines own = (label : List ℕ) → has_label label lines ≡ true → list_any (is_named (trimmed_text label)) own ≡ true

own_is_found : (lines : List Line) (own : List CardText) (label : List ℕ) → OwnLabels lines own → IsTrue (is_own_label lines label) → list_any (is_named (trimmed_text label)) own ≡ true
own_is_found lines own label there h = there label (both_true (is_padded_name label) (has_label label lines) h).1

retry_of : (d : DeckView) (s : Setrp) → IsTrue (is_setrp_rc s.rc && is_retry_label d s.retaddr && is_setrp_code s.compcod && is_reason s.reason && gives_some s) → IsTrue (is_retry_label d s.retaddr)
retry_of d s h =
    let a = both_true _ (gives_some s) h in
    let b = both_true _ (is_reason s.reason) a.0 in
    let c = both_true _ (is_setrp_code s.compcod) b.0 in
    (both_true (is_setrp_rc s.rc) (is_retry_label d s.retaddr) c.0).1

-- what an operation names is found
pub op_finds : (d : DeckView) (cards own : List CardText) (lines : List Line) (op : Op) → AreThere d cards → OwnLabels lines own → IsTrue (is_op d lines op)
    → AllFound cards own (slots_of (form_of_op op)) (values_of_op d op)
op_finds d cards own lines (ops.Link prog) there labels h = (program_is_found d cards own prog there h, tt)
op_finds d cards own lines (ops.Xctl prog) there labels h = (program_is_found d cards own prog there h, tt)
op_finds d cards own lines (ops.EstaexCt prog term cancel xctl) there labels h = (program_is_found d cards own prog there h, tt)
op_finds d cards own lines (ops.EstaexOv prog term cancel xctl) there labels h = (program_is_found d cards own prog there h, tt)
op_finds d cards own lines (ops.FrrAdd prog) there labels h = (program_is_found d cards own prog there h, tt)
op_finds d cards own lines (ops.FrrReplace prog) there labels h = (program_is_found d cards own prog there h, tt)
op_finds d cards own lines (ops.Detach unit stae) there labels h = (task_is_found d cards own unit there h, tt)
op_finds d cards own lines (ops.Abterm unit code reason dump retry) there labels h = let g = (both_true _ (is_reason reason) h).0 in (task_is_found d cards own unit there (both_true (is_task_in d unit) (is_abend_code code) g).0, tt)
op_finds d cards own lines (ops.MgrAdd prog space) there labels h = (program_is_found d cards own prog there h, tt)
op_finds d cards own lines (ops.MgrDelete prog space) there labels h = (program_is_found d cards own prog there h, tt)
op_finds d cards own lines (ops.Schedule unit) there labels h = (srb_is_found d cards own unit there h, tt)
op_finds d cards own lines (ops.WaitTask unit) there labels h = (task_is_found d cards own unit there h, tt)
op_finds d cards own lines (ops.SetRp setrp) there labels h = (retry_is_found d cards own setrp.retaddr there (retry_of d setrp h), tt)
op_finds d cards own lines (ops.Ret15 rc label) there labels h = (retry_is_found d cards own label there (both_true (is_return_code rc) (is_retry_label d label) h).1, tt)
op_finds d cards own lines (ops.Branch label) there labels h = (own_is_found lines own label labels h, tt)
op_finds d cards own lines (ops.IfCode code label) there labels h = (own_is_found lines own label labels (both_true (is_code code) (is_own_label lines label) h).1, tt)
op_finds d cards own lines (ops.IfClup label) there labels h = (own_is_found lines own label labels h, tt)
op_finds d cards own lines (ops.IfPerc label) there labels h = (own_is_found lines own label labels h, tt)
op_finds d cards own lines (ops.Attachx unit None term) there labels h =
    let p = both_true (is_task_in d unit && true) _ h in
    (task_is_found d cards own unit there (both_true (is_task_in d unit) true p.0).0, tt)
op_finds d cards own lines (ops.Attachx unit (Some prog) term) there labels h =
    let p = both_true (is_task_in d unit && is_program d prog) true h in
    let q = both_true (is_task_in d unit) (is_program d prog) p.0 in
    (task_is_found d cards own unit there q.0, (program_is_found d cards own prog there q.1, tt))
op_finds d cards own lines _ there labels h = tt

pub unit_finds : (d : DeckView) (cards own : List CardText) (name : List ℕ) (kind : UnitKind) (prog : ℕ) (related : Option ℕ) → AreThere d cards
    → IsTrue (is_padded_name name && is_program d prog && is_related d kind related)
    → (let unit : UnitCard = record { name = name; kind = kind; prog = prog; related = related } in AllFound cards own (slots_of (form_of_kind kind)) (values_of d (UnitOfWork unit)))
unit_finds d cards own name Task prog related there h =
    let p = both_true (is_padded_name name && is_program d prog) (is_related d Task related) h in
    (program_is_found d cards own prog there (both_true (is_padded_name name) (is_program d prog) p.0).1, tt)
unit_finds d cards own name Srb prog related there h =
    let p = both_true (is_padded_name name && is_program d prog) (is_related d Srb related) h in
    (program_is_found d cards own prog there (both_true (is_padded_name name) (is_program d prog) p.0).1, (related_is_found d cards own related there p.1, tt))

-- Through the cards of the deck.

end_finds : (d : DeckView) (cards later earlier : List CardText) → SpellEach d later (DeckEnd ∷ []) → FindAll cards earlier later
end_finds d cards [] earlier s = tt
end_finds d cards (c ∷ []) earlier s = (λ why f. card_finds d cards (own_program earlier c []) c DeckEnd why s.0 tt f, tt)
end_finds d cards (c ∷ other ∷ later) earlier s = absurd s.1

commands_find : (d : DeckView) (cards : List CardText) (commands : List Command) (later earlier : List CardText) → AreThere d cards → IsTrue (list_all (is_command_of d) commands)
    → SpellEach d later (commands_then_end commands) → FindAll cards earlier later
commands_find d cards [] later earlier there good s = end_finds d cards later earlier s
commands_find d cards (command ∷ commands) [] earlier there good s = tt
commands_find d cards (command ∷ commands) (c ∷ later) earlier there good s =
    let parts = both_true (is_command_of d command) (list_all (is_command_of d) commands) good in
    let task = (both_true (is_task_in d command.target) _ parts.0).0 in (
      λ why f. card_finds d cards (own_program earlier c later) c (CommandCard command) why s.0 (task_is_found d cards (own_program earlier c later) command.target there task, tt) f,
      commands_find d cards commands later (c ∷ earlier) there parts.1 s.1,
    )

closing_finds : (d : DeckView) (cards : List CardText) (oper : Bool) (commands : List Command) (later earlier : List CardText) → AreThere d cards → IsTrue (list_all (is_command_of d) commands)
    → SpellEach d later (closing oper commands) → FindAll cards earlier later
closing_finds d cards false commands later earlier there good s = end_finds d cards later earlier s
closing_finds d cards true commands [] earlier there good s = tt
closing_finds d cards true commands (c ∷ later) earlier there good s =
    (λ why f. card_finds d cards (own_program earlier c later) c CommandsStart why s.0 tt f, commands_find d cards commands later (c ∷ earlier) there good s.1)

any_left : {X : Type 0} (test : X → Bool) (xs ys : List X) → list_any test xs ≡ true → list_any test (xs ++ ys) ≡ true
any_left test [] ys h = absurd cc
any_left test (x ∷ xs) ys h = elim (or_cases (test x) (list_any test xs) h) [
  | inl here ↦ or_left (test x) (list_any test (xs ++ ys)) here
  | inr there ↦ or_right (test x) (list_any test (xs ++ ys)) (any_left test xs ys there)
]

any_right : {X : Type 0} (test : X → Bool) (xs ys : List X) → list_any test ys ≡ true → list_any test (xs ++ ys) ≡ true
any_right test [] ys h = h
any_right test (x ∷ xs) ys h = or_right (test x) (list_any test (xs ++ ys)) (any_right test xs ys h)

carried_text : (label : Option (List ℕ)) (wanted : List ℕ) → option_map_or (λ own. bytes_eq own wanted) label false ≡ true → label_text label ≡ trimmed_text wanted
carried_text None wanted h = absurd cc
carried_text (Some own) wanted h = ap trimmed_text ((bytes_eq-Decides own wanted).0 h)

carrier_is_named : (d : DeckView) (c : CardText) (line : Line) (label : List ℕ) → SpellsItem d c (ProgramCard line) → carries label line ≡ true → is_named (trimmed_text label) c ≡ true
carrier_is_named d c line label s h = (bytes_eq-Decides c.name (trimmed_text label)).1 (s.name ∙ carried_text line.label label h)

abbrev is_before_end : CardText → Bool
is_before_end other = not (is_called (codes "PEND") other)

-- the labels that follow in a program
labels_behind : (d : DeckView) (label : List ℕ) (lines : List Line) (rest : List Item) (later : List CardText) → SpellEach d later (lines_then lines rest) → has_label label lines ≡ true
    → list_any (is_named (trimmed_text label)) (take_while is_before_end later) ≡ true
labels_behind d label [] rest later s h = absurd cc
labels_behind d label (line ∷ lines) rest [] s h = absurd cc
labels_behind d label (line ∷ lines) rest (c ∷ later) s h =
    let is = line_card line.op c s.0.operation in
    let pend = is.pend in
    let more : take_while is_before_end (c ∷ later) ≡ c ∷ take_while is_before_end later = take_while-cons is_before_end c later ∙ rw pend refl in
    subst (λ (xs : List CardText). list_any (is_named (trimmed_text label)) xs ≡ true) (sym more)
    (elim (or_cases (carries label line) (has_label label lines) h) [
      | inl here ↦ or_left (is_named (trimmed_text label) c) _ (carrier_is_named d c line label s.0 here)
      | inr there ↦ or_right (is_named (trimmed_text label) c) _ (labels_behind d label lines rest later s.1 there)
    ])

-- the labels of a program stand on the cards since PROG, or follow
abbrev Seen : List CardText → List Line → List Line → Type 0
Seen earlier all lines = (label : List ℕ) → has_label label all ≡ true → (list_any (is_named (trimmed_text label)) (since_program earlier) || has_label label lines) ≡ true

own_labels : (d : DeckView) (all lines : List Line) (line : Line) (rest : List Item) (c : CardText) (later earlier : List CardText) → SpellsItem d c (ProgramCard line)
    → SpellEach d later (lines_then lines rest) → Seen earlier all (line ∷ lines) → OwnLabels all (own_program earlier c later)
own_labels d all lines line rest c later earlier s each seen = λ label h.
    elim (or_cases (list_any (is_named (trimmed_text label)) (since_program earlier)) _ (seen label h)) [
      | inl before ↦ any_left (is_named (trimmed_text label)) (since_program earlier) _ before
      | inr from ↦ any_right (is_named (trimmed_text label)) (since_program earlier) _ (elim (or_cases (carries label line) (has_label label lines) from) [
        | inl here ↦ or_left (is_named (trimmed_text label) c) _ (carrier_is_named d c line label s here)
        | inr behind ↦ or_right (is_named (trimmed_text label) c) _ (labels_behind d label lines rest later each behind)
      ])
    ]

seen_more : (d : DeckView) (all lines : List Line) (line : Line) (c : CardText) (earlier : List CardText) → SpellsItem d c (ProgramCard line) → Seen earlier all (line ∷ lines) → Seen (c ∷ earlier) all lines
seen_more d all lines line c earlier s seen = λ label h.
    let is = line_card line.op c s.operation in
    let more : since_program (c ∷ earlier) ≡ c ∷ since_program earlier = since_more c earlier is.prog in
    subst (λ (xs : List CardText). (list_any (is_named (trimmed_text label)) xs || has_label label lines) ≡ true) (sym more)
    (elim (or_cases (list_any (is_named (trimmed_text label)) (since_program earlier)) _ (seen label h)) [
      | inl before ↦ or_left _ (has_label label lines) (or_right (is_named (trimmed_text label) c) _ before)
      | inr from ↦ elim (or_cases (carries label line) (has_label label lines) from) [
        | inl here ↦ or_left _ (has_label label lines) (or_left (is_named (trimmed_text label) c) _ (carrier_is_named d c line label s here))
        | inr behind ↦ or_right _ (has_label label lines) behind
      ]
    ])

-- what the cards behind find, whatever stands before them
abbrev Finds : DeckView → List CardText → List Item → Type 0
Finds d cards items = (later earlier : List CardText) → SpellEach d later items → FindAll cards earlier later

lines_find : (d : DeckView) (cards : List CardText) (all lines : List Line) (rest : List Item) (later earlier : List CardText) → AreThere d cards
    → IsTrue (list_all (λ line. is_label line.label && is_op d all line.op) lines) → SpellEach d later (lines_then lines rest) → Seen earlier all lines → Finds d cards rest → FindAll cards earlier later
lines_find d cards all [] rest [] earlier there good s seen next = tt
lines_find d cards all [] rest (c ∷ later) earlier there good s seen next =
    (λ why f. card_finds d cards (own_program earlier c later) c ProgramEnd why s.0 tt f, next later (c ∷ earlier) s.1)
lines_find d cards all (line ∷ lines) rest [] earlier there good s seen next = tt
lines_find d cards all (line ∷ lines) rest (c ∷ later) earlier there good s seen next =
    let p = both_true (is_label line.label && is_op d all line.op) _ good in
    let q = both_true (is_label line.label) (is_op d all line.op) p.0 in (
      λ why f. card_finds d cards (own_program earlier c later) c (ProgramCard line) why s.0
          (op_finds d cards (own_program earlier c later) all line.op there (own_labels d all lines line rest c later earlier s.0 s.1 seen) q.1) f,
      lines_find d cards all lines rest later (c ∷ earlier) there p.1 s.1 (seen_more d all lines line c earlier s.0 seen) next,
    )

blocks_find : (d : DeckView) (cards : List CardText) (blocks : List Block) (rest : List Item) (later earlier : List CardText) → AreThere d cards
    → IsTrue (list_all (is_program_of d) (programs_in blocks)) → IsTrue (list_all (is_unit_of d) (units_in blocks)) → SpellEach d later (blocks_then blocks rest) → Finds d cards rest → FindAll cards earlier later
blocks_find d cards [] rest later earlier there ps us s next = next later earlier s
blocks_find d cards (ProgramBlock p ∷ blocks) rest [] earlier there ps us s next = tt
blocks_find d cards (ProgramBlock p ∷ blocks) rest (c ∷ later) earlier there ps us s next =
    let parts = both_true (is_program_of d p) (list_all (is_program_of d) (programs_in blocks)) ps in
    let outer = both_true (is_padded_name p.name && list_all (λ line. is_label line.label && is_op d p.lines line.op) p.lines) (are_distinct (labels_in p.lines)) parts.0 in
    let inner = both_true (is_padded_name p.name) _ outer.0 in (
      λ why f. card_finds d cards (own_program earlier c later) c (ProgramStart p.name) why s.0 tt f,
      lines_find d cards p.lines p.lines (blocks_then blocks rest) later (c ∷ earlier) there inner.1 s.1
          (λ label h. or_right (list_any (is_named (trimmed_text label)) (since_program (c ∷ earlier))) (has_label label p.lines) h)
          (λ later earlier s. blocks_find d cards blocks rest later earlier there parts.1 us s next),
    )
blocks_find d cards (UnitBlock u ∷ blocks) rest [] earlier there ps us s next = tt
blocks_find d cards (UnitBlock u ∷ blocks) rest (c ∷ later) earlier there ps us s next =
    let parts = both_true (is_unit_of d u) (list_all (is_unit_of d) (units_in blocks)) us in (
      λ why f. card_finds d cards (own_program earlier c later) c (UnitOfWork u) why s.0 (unit_finds d cards (own_program earlier c later) u.name u.kind u.prog u.related there parts.0) f,
      blocks_find d cards blocks rest later (c ∷ earlier) there ps parts.1 s.1 next,
    )

opening_finds : (d : DeckView) (cards : List CardText) (region : Bool) (limit : ℕ) (sdwa : Bool) (rest : List Item) (later earlier : List CardText) → SpellEach d later (opening region limit sdwa rest) → Finds d cards rest → FindAll cards earlier later
opening_finds d cards false limit sdwa rest later earlier s next = next later earlier s
opening_finds d cards true limit sdwa rest [] earlier s next = tt
opening_finds d cards true limit sdwa rest (c ∷ later) earlier s next =
    (λ why f. card_finds d cards (own_program earlier c later) c (RegionCard limit sdwa) why s.0 tt f, next later (c ∷ earlier) s.1)

-- What a deck has is among the cards that spell it.

any_spelled : (d : DeckView) (test : CardText → Bool) (wanted : Item → Bool) → ((c : CardText) (item : Item) → SpellsItem d c item → wanted item ≡ true → test c ≡ true)
    → (cards : List CardText) (items : List Item) → SpellEach d cards items → list_any wanted items ≡ true → list_any test cards ≡ true
any_spelled d test wanted each [] items s h = absurd (let none : list_any wanted items ≡ false = ap (list_any wanted) s in cc)
any_spelled d test wanted each (c ∷ cards) [] s h = absurd s
any_spelled d test wanted each (c ∷ cards) (item ∷ items) s h = elim (or_cases (wanted item) (list_any wanted items) h) [
  | inl here ↦ or_left (test c) (list_any test cards) (each c item s.0 here)
  | inr there ↦ or_right (test c) (list_any test cards) (any_spelled d test wanted each cards items s.1 there)
]

-- the item is a program's start, a card or a unit that passes the test
abbrev wants : (List ℕ → Bool) → (Line → Bool) → (UnitCard → Bool) → Item → Bool
wants start line unit (ProgramStart name) = start name
wants start line unit (ProgramCard l) = line l
wants start line unit (UnitOfWork u) = unit u
wants start line unit _ = false

behind_lines : (wanted : Item → Bool) (lines : List Line) (rest : List Item) → list_any wanted rest ≡ true → list_any wanted (lines_then lines rest) ≡ true
behind_lines wanted [] rest h = or_right (wanted ProgramEnd) (list_any wanted rest) h
behind_lines wanted (line ∷ lines) rest h = or_right (wanted (ProgramCard line)) (list_any wanted (lines_then lines rest)) (behind_lines wanted lines rest h)

among_lines : (start : List ℕ → Bool) (line : Line → Bool) (unit : UnitCard → Bool) (lines : List Line) (rest : List Item) → list_any line lines ≡ true → list_any (wants start line unit) (lines_then lines rest) ≡ true
among_lines start line unit [] rest h = absurd cc
among_lines start line unit (l ∷ lines) rest h = elim (or_cases (line l) (list_any line lines) h) [
  | inl here ↦ or_left (line l) _ here
  | inr there ↦ or_right (line l) _ (among_lines start line unit lines rest there)
]

starts_among : (start : List ℕ → Bool) (line : Line → Bool) (unit : UnitCard → Bool) (blocks : List Block) (rest : List Item) → list_any (λ p. start p.name) (programs_in blocks) ≡ true
    → list_any (wants start line unit) (blocks_then blocks rest) ≡ true
starts_among start line unit [] rest h = absurd cc
starts_among start line unit (ProgramBlock p ∷ blocks) rest h = elim (or_cases (start p.name) (list_any (λ p. start p.name) (programs_in blocks)) h) [
  | inl here ↦ or_left (start p.name) _ here
  | inr there ↦ or_right (start p.name) _ (behind_lines (wants start line unit) p.lines (blocks_then blocks rest) (starts_among start line unit blocks rest there))
]
starts_among start line unit (UnitBlock u ∷ blocks) rest h = or_right (unit u) _ (starts_among start line unit blocks rest h)

lines_among : (start : List ℕ → Bool) (line : Line → Bool) (unit : UnitCard → Bool) (blocks : List Block) (rest : List Item) → list_any (λ p. list_any line p.lines) (programs_in blocks) ≡ true
    → list_any (wants start line unit) (blocks_then blocks rest) ≡ true
lines_among start line unit [] rest h = absurd cc
lines_among start line unit (ProgramBlock p ∷ blocks) rest h = or_right (start p.name) _ (elim (or_cases (list_any line p.lines) (list_any (λ p. list_any line p.lines) (programs_in blocks)) h) [
  | inl here ↦ among_lines start line unit p.lines (blocks_then blocks rest) here
  | inr there ↦ behind_lines (wants start line unit) p.lines (blocks_then blocks rest) (lines_among start line unit blocks rest there)
])
lines_among start line unit (UnitBlock u ∷ blocks) rest h = or_right (unit u) _ (lines_among start line unit blocks rest h)

units_among : (start : List ℕ → Bool) (line : Line → Bool) (unit : UnitCard → Bool) (blocks : List Block) (rest : List Item) → list_any unit (units_in blocks) ≡ true
    → list_any (wants start line unit) (blocks_then blocks rest) ≡ true
units_among start line unit [] rest h = absurd cc
units_among start line unit (ProgramBlock p ∷ blocks) rest h = or_right (start p.name) _ (behind_lines (wants start line unit) p.lines (blocks_then blocks rest) (units_among start line unit blocks rest h))
units_among start line unit (UnitBlock u ∷ blocks) rest h = elim (or_cases (unit u) (list_any unit (units_in blocks)) h) [
  | inl here ↦ or_left (unit u) _ here
  | inr there ↦ or_right (unit u) _ (units_among start line unit blocks rest there)
]

in_opening : (wanted : Item → Bool) (region : Bool) (limit : ℕ) (sdwa : Bool) (rest : List Item) → list_any wanted rest ≡ true → list_any wanted (opening region limit sdwa rest) ≡ true
in_opening wanted true limit sdwa rest h = or_right (wanted (RegionCard limit sdwa)) _ h
in_opening wanted false limit sdwa rest h = h

abbrev never : {X : Type 0} → X → Bool
never x = false

start_is_there : (d : DeckView) (name : List ℕ) (c : CardText) (item : Item) → SpellsItem d c item → wants (λ n. bytes_eq n name) never never item ≡ true
    → (is_called (codes "PROG") c && is_named (trimmed_text name) c) ≡ true
start_is_there d name c (ProgramStart n) s h =
    and_from (is_called (codes "PROG") c) (is_named (trimmed_text name) c) (called_as c forms.Prog (codes "PROG") s.operation)
    ((bytes_eq-Decides c.name (trimmed_text name)).1 (s.name ∙ ap trimmed_text ((bytes_eq-Decides n name).0 h)))
start_is_there d name c _ s h = absurd cc

task_called : (c : CardText) (kind : UnitKind) → is_task kind ≡ true → c.op ≡ operation_of (form_of_kind kind) → is_called (codes "TASK") c ≡ true
task_called c Task h e = called_as c forms.Task (codes "TASK") e
task_called c Srb h e = absurd cc

srb_called : (c : CardText) (kind : UnitKind) → not (is_task kind) ≡ true → c.op ≡ operation_of (form_of_kind kind) → is_called (codes "SRB") c ≡ true
srb_called c Task h e = absurd cc
srb_called c Srb h e = called_as c forms.Srb (codes "SRB") e

task_is_there : (d : DeckView) (name : List ℕ) (c : CardText) (item : Item) → SpellsItem d c item → wants never never (λ u. is_task_card u && bytes_eq u.name name) item ≡ true
    → (is_called (codes "TASK") c && is_named (trimmed_text name) c) ≡ true
task_is_there d name c (UnitOfWork u) s h =
    let parts = both_true (is_task_card u) (bytes_eq u.name name) h in
    and_from (is_called (codes "TASK") c) (is_named (trimmed_text name) c) (task_called c u.kind parts.0 s.operation)
    ((bytes_eq-Decides c.name (trimmed_text name)).1 (s.name ∙ ap trimmed_text ((bytes_eq-Decides u.name name).0 parts.1)))
task_is_there d name c _ s h = absurd cc

srb_is_there : (d : DeckView) (name : List ℕ) (c : CardText) (item : Item) → SpellsItem d c item → wants never never (λ u. not (is_task_card u) && bytes_eq u.name name) item ≡ true
    → (is_called (codes "SRB") c && is_named (trimmed_text name) c) ≡ true
srb_is_there d name c (UnitOfWork u) s h =
    let parts = both_true (not (is_task_card u)) (bytes_eq u.name name) h in
    and_from (is_called (codes "SRB") c) (is_named (trimmed_text name) c) (srb_called c u.kind parts.0 s.operation)
    ((bytes_eq-Decides c.name (trimmed_text name)).1 (s.name ∙ ap trimmed_text ((bytes_eq-Decides u.name name).0 parts.1)))
srb_is_there d name c _ s h = absurd cc

label_is_there : (d : DeckView) (label : List ℕ) (c : CardText) (item : Item) → SpellsItem d c item → wants never (carries label) never item ≡ true → is_labelled (trimmed_text label) c ≡ true
label_is_there d label c (ProgramCard line) s h =
    let form : form_named c.op ≡ Some (first_form (form_of_op line.op)) = ap form_named s.operation ∙ named_first (form_of_op line.op) in
    and_from _ (is_named (trimmed_text label) c) (ap (λ (o : Option CardForm). option_map_or is_inside o false) form ∙ (line_form_of_op line.op).inside) (carrier_is_named d c line label s h)
label_is_there d label c _ s h = absurd cc

-- what the deck has is there
pub are_there : (cards : List CardText) (d : DeckView) → SpellsDeck cards d → AreThere d cards
are_there cards d s =
    let items = opening s.region d.limit d.sdwa (blocks_then s.blocks (closing s.oper d.commands)) in
    let each : SpellEach d cards items = subst (λ (items : List Item). SpellEach d cards items) (laid_out s.region s.oper s.blocks d) s.each in
    let rest = closing s.oper d.commands in
    let programs = sym s.programs in
    let units = sym s.units in
    record {
      programs = λ name h. any_spelled d (λ c. is_called (codes "PROG") c && is_named (trimmed_text name) c) (wants (λ n. bytes_eq n name) never never) (start_is_there d name) cards items each
          (in_opening (wants (λ n. bytes_eq n name) never never) s.region d.limit d.sdwa _ (starts_among (λ n. bytes_eq n name) never never s.blocks rest
          (subst (λ (ps : List ProgramView). list_any (λ p. bytes_eq p.name name) ps ≡ true) programs h)));
      tasks = λ name h. any_spelled d (λ c. is_called (codes "TASK") c && is_named (trimmed_text name) c) (wants never never (λ u. is_task_card u && bytes_eq u.name name)) (task_is_there d name) cards items each
          (in_opening (wants never never (λ u. is_task_card u && bytes_eq u.name name)) s.region d.limit d.sdwa _ (units_among never never (λ u. is_task_card u && bytes_eq u.name name) s.blocks rest
          (subst (λ (us : List UnitCard). list_any (λ u. is_task_card u && bytes_eq u.name name) us ≡ true) units h)));
      srbs = λ name h. any_spelled d (λ c. is_called (codes "SRB") c && is_named (trimmed_text name) c) (wants never never (λ u. not (is_task_card u) && bytes_eq u.name name)) (srb_is_there d name) cards items each
          (in_opening (wants never never (λ u. not (is_task_card u) && bytes_eq u.name name)) s.region d.limit d.sdwa _ (units_among never never (λ u. not (is_task_card u) && bytes_eq u.name name) s.blocks rest
          (subst (λ (us : List UnitCard). list_any (λ u. not (is_task_card u) && bytes_eq u.name name) us ≡ true) units h)));
      labels = λ label h. any_spelled d (is_labelled (trimmed_text label)) (wants never (carries label) never) (label_is_there d label) cards items each
          (in_opening (wants never (carries label) never) s.region d.limit d.sdwa _ (lines_among never (carries label) never s.blocks rest
          (subst (λ (ps : List ProgramView). list_any (λ p. has_label label p.lines) ps ≡ true) programs h)));
    }

-- no card of a deck names what isn't there
pub cards_find_all : (cards : List CardText) (d : DeckView) → SpellsDeck cards d → IsTrue (is_well_formed d) → FindAll cards [] cards
cards_find_all cards d s h =
    let k = conditions d h in
    let there = are_there cards d s in
    opening_finds d cards s.region d.limit d.sdwa (blocks_then s.blocks (closing s.oper d.commands)) cards []
    (subst (λ (items : List Item). SpellEach d cards items) (laid_out s.region s.oper s.blocks d) s.each)
    (λ later earlier each. blocks_find d cards s.blocks (closing s.oper d.commands) later earlier there
    (subst (λ (ps : List ProgramView). IsTrue (list_all (is_program_of d) ps)) (sym s.programs) k.programs)
    (subst (λ (us : List UnitCard). IsTrue (list_all (is_unit_of d) us)) (sym s.units) k.units)
    each (λ later earlier each. closing_finds d cards s.oper d.commands later earlier there k.commands each))

-- the item is END
abbrev is_last : Item → Bool
is_last DeckEnd = true
is_last _ = false

-- the END of a deck is there
end_called : (d : DeckView) (c : CardText) (item : Item) → SpellsItem d c item → is_last item ≡ true → is_called (codes "END") c ≡ true
end_called d c DeckEnd s h = called_as c forms.End (codes "END") s.operation
end_called d c _ s h = absurd cc

last_among_commands : (commands : List Command) → list_any is_last (commands_then_end commands) ≡ true
last_among_commands [] = refl
last_among_commands (command ∷ commands) = last_among_commands commands

last_in_closing : (oper : Bool) (commands : List Command) → list_any is_last (closing oper commands) ≡ true
last_in_closing true commands = last_among_commands commands
last_in_closing false commands = refl

last_behind_blocks : (blocks : List Block) (rest : List Item) → list_any is_last rest ≡ true → list_any is_last (blocks_then blocks rest) ≡ true
last_behind_blocks [] rest h = h
last_behind_blocks (ProgramBlock p ∷ blocks) rest h = behind_lines is_last p.lines (blocks_then blocks rest) (last_behind_blocks blocks rest h)
last_behind_blocks (UnitBlock u ∷ blocks) rest h = last_behind_blocks blocks rest h

pub end_is_there : (cards : List CardText) (d : DeckView) → SpellsDeck cards d → list_any (is_called (codes "END")) cards ≡ true
end_is_there cards d s =
    let items = opening s.region d.limit d.sdwa (blocks_then s.blocks (closing s.oper d.commands)) in
    any_spelled d (is_called (codes "END")) is_last (end_called d) cards items
    (subst (λ (items : List Item). SpellEach d cards items) (laid_out s.region s.oper s.blocks d) s.each)
    (in_opening is_last s.region d.limit d.sdwa _ (last_behind_blocks s.blocks (closing s.oper d.commands) (last_in_closing s.oper d.commands)))
