-- Some bytes spell at most one deck.
use Rattle.std.proofs.Common.{◌≡◌, ℕ, Bool, true, false, ◌&&◌, List, [], ◌∷◌, map, refl, ap, sym, subst, ◌∙◌}
use Rattle.std.specs.Prelude.{IsTrue}
use Rattle.std.specs.List.{list_all, AllByRecursion}
use Rattle.rtm_deck_operands.specs.Name.{padded_text, trimmed_text, is_padded_name}
use Rattle.rtm_cards.specs.Cards.{CardText}
use Rattle.rtm_cards.specs.Lines.{lines_of}
use Rattle.rtm_cards.specs.Cards.{cards_from}
use Rattle.rtm_deck_items.specs.declared.deck.Line.{Line}
use Rattle.rtm_deck_items.specs.declared.deck.Unit.{Unit as UnitCard}
use Rattle.rtm_deck_items.specs.declared.deck.UnitKind.{UnitKind}
use Rattle.rtm_deck_items.specs.declared.deck.UnitKind.TheVariants.{Task, Srb}
use Rattle.rtm_deck_items.specs.declared.deck.Command.{Command}
use Rattle.rtm_deck_items.specs.declared.form.CardForm.{CardForm}
use Rattle.rtm_deck_items.specs.View.{ProgramView, DeckView}
use Rattle.rtm_deck_items.specs.Items.{Item, Block, ProgramBlock, UnitBlock, items_of, form_of, form_of_kind, name_of, values_of, label_text}
use Rattle.rtm_deck_items.specs.Spelling.{SpellsItem, SpellEach, programs_in, units_in, SpellsDeck, DeckText}
use Rattle.rtm_deck_items.specs.WellFormed.{is_well_formed, is_label, is_op, is_program_of, is_unit_of, is_command_of, is_program, is_related, are_distinct, labels_in}
use Rattle.rtm_deck_items.proofs.Lists.{both_true}
use Rattle.rtm_deck_items.proofs.FormFacts.{conditions}
use Rattle.rtm_deck_operands.proofs.Names.{padded_parts}
use Rattle.rtm_deck_spelling.proofs.Forms.{one_form, one_values}
use Rattle.rtm_deck_spelling.proofs.LaidOut.{lines_then, blocks_then, commands_then_end, closing, opening, laid_out}
use Rattle.rtm_deck_spelling.proofs.Parts.{deck_of, deck_found}
use Rattle.rtm_deck_spelling.proofs.Operations.{program_name_of_op, unit_name_of_op, program_name_then, unit_name_then}
use Rattle.rtm_deck_spelling.proofs.Decoded.{Named, Good, program_names, unit_names, one_item}

good_lines : (d : DeckView) (all lines : List Line) (rest : List Item)
    → IsTrue (list_all (λ line. is_label line.label && is_op d all line.op) lines) → AllByRecursion (Good d) rest → AllByRecursion (Good d) (lines_then lines rest)
good_lines d all [] rest h r = (tt, r)
good_lines d all (line ∷ lines) rest h r =
    let p = both_true (is_label line.label && is_op d all line.op) _ h in
    let q = both_true (is_label line.label) (is_op d all line.op) p.0 in
    ((q.0, (all, q.1)), good_lines d all lines rest p.1 r)

good_blocks : (d : DeckView) (blocks : List Block) (rest : List Item)
    → IsTrue (list_all (is_program_of d) (programs_in blocks)) → IsTrue (list_all (is_unit_of d) (units_in blocks))
    → AllByRecursion (Good d) rest → AllByRecursion (Good d) (blocks_then blocks rest)
good_blocks d [] rest h g r = r
good_blocks d (ProgramBlock p ∷ blocks) rest h g r =
    let parts = both_true (is_program_of d p) (list_all (is_program_of d) (programs_in blocks)) h in
    let outer = both_true (is_padded_name p.name && list_all (λ line. is_label line.label && is_op d p.lines line.op) p.lines) (are_distinct (labels_in p.lines)) parts.0 in
    let inner = both_true (is_padded_name p.name) _ outer.0 in
    (inner.0, good_lines d p.lines p.lines (blocks_then blocks rest) inner.1 (good_blocks d blocks rest parts.1 g r))
good_blocks d (UnitBlock u ∷ blocks) rest h g r =
    let parts = both_true (is_unit_of d u) (list_all (is_unit_of d) (units_in blocks)) g in
    (parts.0, good_blocks d blocks rest h parts.1 r)

good_commands : (d : DeckView) (commands : List Command) → IsTrue (list_all (is_command_of d) commands) → AllByRecursion (Good d) (commands_then_end commands)
good_commands d [] h = (tt, tt)
good_commands d (command ∷ commands) h =
    let parts = both_true (is_command_of d command) (list_all (is_command_of d) commands) h in
    (parts.0, good_commands d commands parts.1)

good_closing : (d : DeckView) (oper : Bool) (commands : List Command) → IsTrue (list_all (is_command_of d) commands) → AllByRecursion (Good d) (closing oper commands)
good_closing d true commands h = (tt, good_commands d commands h)
good_closing d false commands h = (tt, tt)

good_opening : (d : DeckView) (region : Bool) (limit : ℕ) (sdwa : Bool) (rest : List Item) → AllByRecursion (Good d) rest → AllByRecursion (Good d) (opening region limit sdwa rest)
good_opening d true limit sdwa rest r = (tt, r)
good_opening d false limit sdwa rest r = r

-- each item of a well formed deck is good
pub good_items : (cards : List CardText) (d : DeckView) (s : SpellsDeck cards d) → IsTrue (is_well_formed d) → AllByRecursion (Good d) (items_of s.region s.oper s.blocks d)
good_items cards d s h =
    let k = conditions d h in
    let programs : IsTrue (list_all (is_program_of d) (programs_in s.blocks)) = subst (λ (ps : List ProgramView). IsTrue (list_all (is_program_of d) ps)) (sym s.programs) k.programs in
    let units : IsTrue (list_all (is_unit_of d) (units_in s.blocks)) = subst (λ (us : List UnitCard). IsTrue (list_all (is_unit_of d) us)) (sym s.units) k.units in
    subst (λ (items : List Item). AllByRecursion (Good d) items) (sym (laid_out s.region s.oper s.blocks d))
    (good_opening d s.region d.limit d.sdwa _ (good_blocks d s.blocks _ programs units (good_closing d s.oper d.commands k.commands)))

pub named : (d : DeckView) → IsTrue (is_well_formed d) → Named d
named d h =
    let k = conditions d h in
    let parts = both_true (are_distinct (program_names d)) (are_distinct (unit_names d)) k.names in
    record { programs = parts.0; units = parts.1 }

-- the names that the items of programs and of units bring
abbrev programs_named : List Item → List (List ℕ)
programs_named [] = []
programs_named (item ∷ items) = program_name_then (form_of item) (name_of item) (programs_named items)

abbrev units_named : List Item → List (List ℕ)
units_named [] = []
units_named (item ∷ items) = unit_name_then (form_of item) (name_of item) (units_named items)

programs_named_past_lines : (lines : List Line) (rest : List Item) → programs_named (lines_then lines rest) ≡ programs_named rest
programs_named_past_lines [] rest = refl
programs_named_past_lines (line ∷ lines) rest = program_name_of_op line.op (label_text line.label) (programs_named (lines_then lines rest)) ∙ programs_named_past_lines lines rest

units_named_past_lines : (lines : List Line) (rest : List Item) → units_named (lines_then lines rest) ≡ units_named rest
units_named_past_lines [] rest = refl
units_named_past_lines (line ∷ lines) rest = unit_name_of_op line.op (label_text line.label) (units_named (lines_then lines rest)) ∙ units_named_past_lines lines rest

program_past_unit : (kind : UnitKind) (name : List ℕ) (rest : List (List ℕ)) → program_name_then (form_of_kind kind) name rest ≡ rest
program_past_unit Task name rest = refl
program_past_unit Srb name rest = refl

unit_at_unit : (kind : UnitKind) (name : List ℕ) (rest : List (List ℕ)) → unit_name_then (form_of_kind kind) name rest ≡ padded_text name ∷ rest
unit_at_unit Task name rest = refl
unit_at_unit Srb name rest = refl

one_name_more : (a b : List ℕ) (xs ys : List (List ℕ)) → a ≡ b → xs ≡ ys → a ∷ xs ≡ b ∷ ys
one_name_more a b xs ys e f = rw (e, f) refl

programs_named_in_blocks : (d : DeckView) (blocks : List Block) (rest : List Item) → IsTrue (list_all (is_program_of d) (programs_in blocks)) → programs_named rest ≡ []
    → programs_named (blocks_then blocks rest) ≡ map (λ p. p.name) (programs_in blocks)
programs_named_in_blocks d [] rest h e = e
programs_named_in_blocks d (ProgramBlock p ∷ blocks) rest h e =
    let parts = both_true (is_program_of d p) (list_all (is_program_of d) (programs_in blocks)) h in
    let outer = both_true (is_padded_name p.name && list_all (λ line. is_label line.label && is_op d p.lines line.op) p.lines) (are_distinct (labels_in p.lines)) parts.0 in
    let inner = both_true (is_padded_name p.name) _ outer.0 in
    one_name_more (padded_text (trimmed_text p.name)) p.name _ (map (λ p. p.name) (programs_in blocks)) (sym (padded_parts p.name inner.0).whole)
    (programs_named_past_lines p.lines (blocks_then blocks rest) ∙ programs_named_in_blocks d blocks rest parts.1 e)
programs_named_in_blocks d (UnitBlock u ∷ blocks) rest h e =
    program_past_unit u.kind (trimmed_text u.name) (programs_named (blocks_then blocks rest)) ∙ programs_named_in_blocks d blocks rest h e

units_named_in_blocks : (d : DeckView) (blocks : List Block) (rest : List Item) → IsTrue (list_all (is_unit_of d) (units_in blocks)) → units_named rest ≡ []
    → units_named (blocks_then blocks rest) ≡ map (λ u. u.name) (units_in blocks)
units_named_in_blocks d [] rest h e = e
units_named_in_blocks d (ProgramBlock p ∷ blocks) rest h e = units_named_past_lines p.lines (blocks_then blocks rest) ∙ units_named_in_blocks d blocks rest h e
units_named_in_blocks d (UnitBlock u ∷ blocks) rest h e =
    let parts = both_true (is_unit_of d u) (list_all (is_unit_of d) (units_in blocks)) h in
    let outer = both_true (is_padded_name u.name && is_program d u.prog) (is_related d u.kind u.related) parts.0 in
    let inner = both_true (is_padded_name u.name) (is_program d u.prog) outer.0 in
    unit_at_unit u.kind (trimmed_text u.name) (units_named (blocks_then blocks rest))
    ∙ one_name_more (padded_text (trimmed_text u.name)) u.name _ (map (λ u. u.name) (units_in blocks)) (sym (padded_parts u.name inner.0).whole) (units_named_in_blocks d blocks rest parts.1 e)

programs_named_by_commands : (commands : List Command) → programs_named (commands_then_end commands) ≡ []
programs_named_by_commands [] = refl
programs_named_by_commands (command ∷ commands) = programs_named_by_commands commands

units_named_by_commands : (commands : List Command) → units_named (commands_then_end commands) ≡ []
units_named_by_commands [] = refl
units_named_by_commands (command ∷ commands) = units_named_by_commands commands

programs_named_by_closing : (oper : Bool) (commands : List Command) → programs_named (closing oper commands) ≡ []
programs_named_by_closing true commands = programs_named_by_commands commands
programs_named_by_closing false commands = refl

units_named_by_closing : (oper : Bool) (commands : List Command) → units_named (closing oper commands) ≡ []
units_named_by_closing true commands = units_named_by_commands commands
units_named_by_closing false commands = refl

programs_named_opening : (region : Bool) (limit : ℕ) (sdwa : Bool) (rest : List Item) → programs_named (opening region limit sdwa rest) ≡ programs_named rest
programs_named_opening true limit sdwa rest = refl
programs_named_opening false limit sdwa rest = refl

units_named_opening : (region : Bool) (limit : ℕ) (sdwa : Bool) (rest : List Item) → units_named (opening region limit sdwa rest) ≡ units_named rest
units_named_opening true limit sdwa rest = refl
units_named_opening false limit sdwa rest = refl

programs_named_are : (cards : List CardText) (d : DeckView) (s : SpellsDeck cards d) → IsTrue (is_well_formed d) → programs_named (items_of s.region s.oper s.blocks d) ≡ program_names d
programs_named_are cards d s h =
    let k = conditions d h in
    let good : IsTrue (list_all (is_program_of d) (programs_in s.blocks)) = subst (λ (ps : List ProgramView). IsTrue (list_all (is_program_of d) ps)) (sym s.programs) k.programs in
    let rest = closing s.oper d.commands in
    ap programs_named (laid_out s.region s.oper s.blocks d)
    ∙ (programs_named_opening s.region d.limit d.sdwa (blocks_then s.blocks rest)
    ∙ (programs_named_in_blocks d s.blocks rest good (programs_named_by_closing s.oper d.commands)
    ∙ ap (λ (ps : List ProgramView). map (λ p. p.name) ps) s.programs))

units_named_are : (cards : List CardText) (d : DeckView) (s : SpellsDeck cards d) → IsTrue (is_well_formed d) → units_named (items_of s.region s.oper s.blocks d) ≡ unit_names d
units_named_are cards d s h =
    let k = conditions d h in
    let good : IsTrue (list_all (is_unit_of d) (units_in s.blocks)) = subst (λ (us : List UnitCard). IsTrue (list_all (is_unit_of d) us)) (sym s.units) k.units in
    let rest = closing s.oper d.commands in
    ap units_named (laid_out s.region s.oper s.blocks d)
    ∙ (units_named_opening s.region d.limit d.sdwa (blocks_then s.blocks rest)
    ∙ (units_named_in_blocks d s.blocks rest good (units_named_by_closing s.oper d.commands)
    ∙ ap (λ (us : List UnitCard). map (λ u. u.name) us) s.units))

-- one card says items of one form, one name and one list of values, in whatever decks
pub record Alike (a b : DeckView) (i j : Item) : Type 0 where
  pub form : form_of i ≡ form_of j
  pub name : name_of i ≡ name_of j
  pub values : values_of a i ≡ values_of b j

pub alike : (a b : DeckView) (c : CardText) (i j : Item) → SpellsItem a c i → SpellsItem b c j → Alike a b i j
alike a b c i j p q =
    let op = sym p.operation ∙ q.operation in
    record {
      form = one_form (form_of i) (form_of j) c.operands (values_of a i) (values_of b j) p.operands q.operands op;
      name = sym p.name ∙ q.name;
      values = one_values (form_of i) (form_of j) c.operands (values_of a i) (values_of b j) p.operands q.operands op;
    }

same_programs_named : (a b : DeckView) (cards : List CardText) (is js : List Item) → SpellEach a cards is → SpellEach b cards js → programs_named is ≡ programs_named js
same_programs_named a b [] is js p q = ap programs_named (p ∙ sym q)
same_programs_named a b (c ∷ cs) [] js p q = absurd p
same_programs_named a b (c ∷ cs) (i ∷ is) [] p q = absurd q
same_programs_named a b (c ∷ cs) (i ∷ is) (j ∷ js) p q =
    let same = alike a b c i j p.0 q.0 in
    rest (form_of i) (form_of j) (name_of i) (name_of j) (programs_named is) (programs_named js) same.form same.name (same_programs_named a b cs is js p.1 q.1)
  where
    rest : (f g : CardForm) (x y : List ℕ) (xs ys : List (List ℕ)) → f ≡ g → x ≡ y → xs ≡ ys → program_name_then f x xs ≡ program_name_then g y ys
    rest f g x y xs ys e1 e2 e3 = rw (e1, e2, e3) refl

same_units_named : (a b : DeckView) (cards : List CardText) (is js : List Item) → SpellEach a cards is → SpellEach b cards js → units_named is ≡ units_named js
same_units_named a b [] is js p q = ap units_named (p ∙ sym q)
same_units_named a b (c ∷ cs) [] js p q = absurd p
same_units_named a b (c ∷ cs) (i ∷ is) [] p q = absurd q
same_units_named a b (c ∷ cs) (i ∷ is) (j ∷ js) p q =
    let same = alike a b c i j p.0 q.0 in
    rest (form_of i) (form_of j) (name_of i) (name_of j) (units_named is) (units_named js) same.form same.name (same_units_named a b cs is js p.1 q.1)
  where
    rest : (f g : CardForm) (x y : List ℕ) (xs ys : List (List ℕ)) → f ≡ g → x ≡ y → xs ≡ ys → unit_name_then f x xs ≡ unit_name_then g y ys
    rest f g x y xs ys e1 e2 e3 = rw (e1, e2, e3) refl

same_items : (a b : DeckView) (cards : List CardText) (is js : List Item) → SpellEach a cards is → SpellEach b cards js
    → AllByRecursion (Good a) is → AllByRecursion (Good b) js → Named a → Named b → program_names a ≡ program_names b → unit_names a ≡ unit_names b → is ≡ js
same_items a b [] is js p q g h n m programs units = p ∙ sym q
same_items a b (c ∷ cs) [] js p q g h n m programs units = absurd p
same_items a b (c ∷ cs) (i ∷ is) [] p q g h n m programs units = absurd q
same_items a b (c ∷ cs) (i ∷ is) (j ∷ js) p q g h n m programs units =
    let same = alike a b c i j p.0 q.0 in
    one_more i j is js (one_item a b i j n m g.0 h.0 programs units same.form same.name same.values) (same_items a b cs is js p.1 q.1 g.1 h.1 n m programs units)
  where
    one_more : (i j : Item) (is js : List Item) → i ≡ j → is ≡ js → i ∷ is ≡ j ∷ js
    one_more i j is js e f = rw (e, f) refl

-- some cards spell at most one well formed deck
pub one_deck_of_cards : (cards : List CardText) (a b : DeckView) → SpellsDeck cards a → SpellsDeck cards b → IsTrue (is_well_formed a) → IsTrue (is_well_formed b) → a ≡ b
one_deck_of_cards cards a b s t h k =
    let is = items_of s.region s.oper s.blocks a in
    let js = items_of t.region t.oper t.blocks b in
    let programs = sym (programs_named_are cards a s h) ∙ (same_programs_named a b cards is js s.each t.each ∙ programs_named_are cards b t k) in
    let units = sym (units_named_are cards a s h) ∙ (same_units_named a b cards is js s.each t.each ∙ units_named_are cards b t k) in
    sym (deck_found cards a s)
    ∙ (ap deck_of (same_items a b cards is js s.each t.each (good_items cards a s h) (good_items cards b t k) (named a h) (named b k) programs units)
    ∙ deck_found cards b t)

pub one_deck : (bytes : List ℕ) (a b : DeckView) → DeckText bytes a → DeckText bytes b → a ≡ b
one_deck bytes a b p q = one_deck_of_cards (cards_from 1 (lines_of bytes)) a b p.spelled q.spelled p.well_formed q.well_formed
