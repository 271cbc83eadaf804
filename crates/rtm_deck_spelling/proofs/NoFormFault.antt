-- No card of a deck that is spelled has a fault of form.
use Rattle.std.proofs.Common.{◌≡◌, ℕ, suc, ◌+◌, ◌-◌, ◌<◌, ◌≤◌, Bool, true, false, not, ◌&&◌, ◌||◌, cond, eqb, List, [], ◌∷◌, length, map, Option, Some, None, refl, ap, sym, subst, ◌∙◌, arith}
use Rattle.std.specs.Prelude.{bytes_eq, codes, IsTrue, count_by, slice_index_or}
use Rattle.std.specs.Option.{option_map_or}
use Rattle.std.specs.List.{list_any, list_all, AllByRecursion}
use Rattle.std.proofs.lemmas.Bool.{or_from, and_left, and_right, not-true, not_from_true, lt-leb, ne_eqb}
use Rattle.std.proofs.lemmas.List.Sums.{sum_by-cons}
use Rattle.rtm_deck_items.specs.Forms.{operation_of}
use Rattle.rtm_deck_operands.specs.Name.{trimmed_text, is_padded_name}
use Rattle.rtm_cards.specs.declared.fault.CutWhy.{CutWhy}
use Rattle.rtm_cards.specs.Rules.{fault_of, is_ignored}
use Rattle.rtm_cards.specs.Faults.{NoCutFault}
use Rattle.rtm_cards.specs.Limits.{most_programs, most_units, most_commands}
use Rattle.rtm_cards.specs.Cards.{CardText, card_of, cards_from}
use Rattle.rtm_deck_items.specs.declared.deck.Line.{Line}
use Rattle.rtm_deck_items.specs.declared.deck.Unit.{Unit as UnitCard}
use Rattle.rtm_deck_items.specs.declared.deck.UnitKind.{UnitKind}
use Rattle.rtm_deck_items.specs.declared.deck.UnitKind.TheVariants.{Task, Srb}
use Rattle.rtm_deck_items.specs.declared.deck.Command.{Command}
use Rattle.rtm_deck_items.specs.declared.form.CardForm.TheVariants as forms
use Rattle.rtm_deck_items.specs.View.{ProgramView, DeckView}
use Rattle.rtm_deck_items.specs.Items.{Item, RegionCard, ProgramStart, ProgramCard, ProgramEnd, UnitOfWork, CommandsStart, CommandCard, DeckEnd, Block, ProgramBlock, UnitBlock, form_of_op, form_of_kind, values_of, label_text}
use Rattle.rtm_deck_items.specs.Spelling.{SpellEach, programs_in, units_in, SpellsDeck}
use Rattle.rtm_deck_items.specs.WellFormed.{is_well_formed, is_label, is_op, is_program_of, is_unit_of, is_program, is_related, are_distinct, labels_in}
use Rattle.rtm_deck_items.specs.Faults.{is_called, is_named, has_operation, is_in_program, is_unit_card, since_program, rules, BreaksNone, HasNone, with_line, NoFormFault}
use Rattle.rtm_deck_items.proofs.Lists.{both_true}
use Rattle.rtm_deck_items.proofs.FormFacts.{conditions, limits}
use Rattle.rtm_deck_operands.proofs.Names.{padded_parts, length-name}
use Rattle.rtm_deck_spelling.proofs.LaidOut.{lines_then, blocks_then, commands_then_end, closing, opening, laid_out}
use Rattle.rtm_deck_spelling.proofs.Decoded.{program_names, unit_names}
use Rattle.rtm_deck_spelling.proofs.RuleTests.{first_form, line_form_of_op, line_card, called_as, KeepsRules, breaks_none}
use Rattle.rtm_deck_spelling.proofs.Behind.{AreFree, free_behind, Kept, IsOther, line_is_other, kept_past, kept_program, unit_card, unit_operation, kept_unit, opened, closed, stays, since_start, since_more, FreeLabels, has_program, has_unit}

-- none of these cards breaks a rule of form, the first of which stands behind those others
abbrev pub BreakNone : List CardText → List CardText → Type 0
BreakNone earlier [] = Unit {0}
BreakNone earlier (c ∷ cs) = BreaksNone earlier c rules × BreakNone (c ∷ earlier) cs

-- From lines to cards.

no_fault_here : (earlier : List CardText) (number : ℕ) (line : List ℕ) (broken : Option CutWhy) → broken ≡ None → (IsTrue (not (is_ignored line)) → BreaksNone earlier (card_of number line) rules) → HasNone earlier number line broken
no_fault_here earlier number line broken e h = subst (λ (b : Option CutWhy). HasNone earlier number line b) (sym e) h

-- what a line says, whether it is ignored or a card
first_line : (earlier : List CardText) (c : CardText) (cards : List CardText) (ignored : Bool) → BreakNone earlier (cond ignored cards (c ∷ cards))
    → (IsTrue (not ignored) → BreaksNone earlier c rules) × BreakNone (cond ignored earlier (c ∷ earlier)) cards
first_line earlier c cards true h = (λ e. absurd cc, h)
first_line earlier c cards false h = (λ e. h.0, h.1)

pub no_form_fault : (earlier : List CardText) (number : ℕ) (lines : List (List ℕ)) → ((k : ℕ) → k < length lines → fault_of (number + k) (slice_index_or lines k []) ≡ None)
    → BreakNone earlier (cards_from number lines) → NoFormFault earlier number lines
no_form_fault earlier number [] cut h = tt
no_form_fault earlier number (line ∷ lines) cut h =
    let split = first_line earlier (card_of number line) (cards_from (number + 1) lines) (is_ignored line) h in
    let here : fault_of (number + 0) line ≡ None = cut 0 (omega arith) in
    let same : number + 0 ≡ number = omega arith in (
      no_fault_here earlier number line (fault_of number line) (subst (λ (n : ℕ). fault_of n line ≡ None) same here) split.0,
      no_form_fault (with_line earlier number line) (number + 1) lines
          (λ k less. let next : number + suc k ≡ (number + 1) + k = omega arith in
          subst (λ (n : ℕ). fault_of n (slice_index_or lines k []) ≡ None) next (cut (suc k) (omega arith)))
          split.1,
    )

pub cut_from_one : (lines : List (List ℕ)) → NoCutFault lines → (k : ℕ) → k < length lines → fault_of (1 + k) (slice_index_or lines k []) ≡ None
cut_from_one lines cut k less =
    let h = cut (1 + k) (omega arith) (omega arith) in
    let same : (1 + k) - 1 ≡ k = omega arith in
    subst (λ (n : ℕ). fault_of (1 + k) (slice_index_or lines n []) ≡ None) same h

-- The rules at each kind of card.

pub name_stands : (name text : List ℕ) → IsTrue (is_padded_name name) → text ≡ trimmed_text name → eqb (length text) 0 ≡ false
name_stands name text h e =
    let p = length-name (trimmed_text name) (padded_parts name h).name in
    ne_eqb (length text) 0 (λ zero_is. let f : length text ≡ length (trimmed_text name) = ap length e in let g = p.0 in absurd (omega (arith, zero_is, f, g)))

no_name : (text : List ℕ) → text ≡ [] → not (eqb (length text) 0) ≡ false
no_name text e = rw e refl

unnamed_single : (text : List ℕ) (b : Bool) → text ≡ [] → (not (eqb (length text) 0) && b) ≡ false
unnamed_single text b e = and_left (not (eqb (length text) 0)) b (no_name text e)

pub keeps_program : (earlier : List CardText) (name text : List ℕ) (programs : List (List ℕ)) (units : List UnitCard) (commands : ℕ)
    → text ≡ trimmed_text name → IsTrue (is_padded_name name) → Kept earlier (name ∷ programs) units commands → is_in_program earlier ≡ false → KeepsRules earlier forms.Prog text
keeps_program earlier name text programs units commands is padded k outside = let count = k.program_count in record {
  named = name_stands name text padded is;
  placed = or_from _ (has_operation (codes "OPER") earlier) (or_from (has_operation (codes "END") earlier) (is_in_program earlier) k.no_end outside) k.no_oper;
  single = ap (has_program earlier) is ∙ k.free_programs.0;
  few = lt-leb most_programs (count_by (is_called (codes "PROG")) earlier) (omega arith);
  needs_no_task = refl;
}

pub keeps_unit : (earlier : List CardText) (unit : UnitCard) (kind : UnitKind) (text : List ℕ) (programs : List (List ℕ)) (units : List UnitCard) (commands : ℕ)
    → text ≡ trimmed_text unit.name → IsTrue (is_padded_name unit.name) → Kept earlier programs (unit ∷ units) commands → is_in_program earlier ≡ false → KeepsRules earlier (first_form (form_of_kind kind)) text
keeps_unit earlier unit Task text programs units commands is padded k outside = let count = k.unit_count in record {
  named = name_stands unit.name text padded is;
  placed = or_from _ (has_operation (codes "OPER") earlier) (or_from (has_operation (codes "END") earlier) (is_in_program earlier) k.no_end outside) k.no_oper;
  single = ap (has_unit earlier) is ∙ k.free_units.0;
  few = lt-leb most_units (count_by is_unit_card earlier) (omega arith);
  needs_no_task = refl;
}
keeps_unit earlier unit Srb text programs units commands is padded k outside = let count = k.unit_count in record {
  named = name_stands unit.name text padded is;
  placed = or_from _ (has_operation (codes "OPER") earlier) (or_from (has_operation (codes "END") earlier) (is_in_program earlier) k.no_end outside) k.no_oper;
  single = ap (has_unit earlier) is ∙ k.free_units.0;
  few = lt-leb most_units (count_by is_unit_card earlier) (omega arith);
  needs_no_task = refl;
}

keeps_end_of_program : (earlier : List CardText) (text : List ℕ) → text ≡ [] → has_operation (codes "END") earlier ≡ false → is_in_program earlier ≡ true → KeepsRules earlier forms.Pend text
keeps_end_of_program earlier text is no_end inside = record {
  named = no_name text is;
  placed = or_from _ false (or_from (has_operation (codes "END") earlier) (not (is_in_program earlier)) no_end (not_from_true _ inside)) refl;
  single = unnamed_single text _ is;
  few = refl;
  needs_no_task = refl;
}

keeps_commands_start : (earlier : List CardText) (text : List ℕ) → text ≡ [] → has_operation (codes "END") earlier ≡ false → has_operation (codes "OPER") earlier ≡ false → is_in_program earlier ≡ false → KeepsRules earlier forms.Oper text
keeps_commands_start earlier text is no_end no_oper outside = record {
  named = no_name text is;
  placed = or_from _ (has_operation (codes "OPER") earlier) (or_from (has_operation (codes "END") earlier) (is_in_program earlier) no_end outside) no_oper;
  single = unnamed_single text _ is;
  few = refl;
  needs_no_task = refl;
}

-- The cards of a deck's end.

-- what stands before commands and END
pub record InCommands (earlier : List CardText) (commands : ℕ) : Type 0 where
  pub no_end : has_operation (codes "END") earlier ≡ false
  pub oper : has_operation (codes "OPER") earlier ≡ true
  pub outside : is_in_program earlier ≡ false
  pub command_count : count_by (is_called (codes "CANCEL")) earlier + commands ≤ most_commands
  pub task : has_operation (codes "TASK") earlier ≡ true

pub keeps_command : (earlier : List CardText) (text : List ℕ) (commands : ℕ) → text ≡ [] → InCommands earlier (suc commands) → KeepsRules earlier forms.Cancel text
keeps_command earlier text commands is k = let count = k.command_count in record {
  named = no_name text is;
  placed = or_from _ (not (has_operation (codes "OPER") earlier)) (or_from (has_operation (codes "END") earlier) (is_in_program earlier) k.no_end k.outside) (not_from_true _ k.oper);
  single = unnamed_single text _ is;
  few = lt-leb most_commands (count_by (is_called (codes "CANCEL")) earlier) (omega arith);
  needs_no_task = refl;
}

pub keeps_end : (earlier : List CardText) (text : List ℕ) → text ≡ [] → has_operation (codes "END") earlier ≡ false → is_in_program earlier ≡ false → has_operation (codes "TASK") earlier ≡ true → KeepsRules earlier forms.End text
keeps_end earlier text is no_end outside task = record {
  named = no_name text is;
  placed = or_from _ false (or_from (has_operation (codes "END") earlier) (is_in_program earlier) no_end outside) refl;
  single = unnamed_single text _ is;
  few = refl;
  needs_no_task = not_from_true _ task;
}

end_alone : (d : DeckView) (cards earlier : List CardText) → SpellEach d cards (DeckEnd ∷ []) → has_operation (codes "END") earlier ≡ false → is_in_program earlier ≡ false → has_operation (codes "TASK") earlier ≡ true
    → BreakNone earlier cards
end_alone d [] earlier s no_end outside task = absurd cc
end_alone d (c ∷ []) earlier s no_end outside task =
    (breaks_none earlier c forms.End (values_of d DeckEnd) s.0.operation s.0.operands (keeps_end earlier c.name s.0.name no_end outside task), tt)
end_alone d (c ∷ other ∷ cards) earlier s no_end outside task = absurd s.1

or_behind : (a b : Bool) → b ≡ true → (a || b) ≡ true
or_behind true b e = refl
or_behind false b e = e

or_none : (a : Bool) → (a || false) ≡ true → a ≡ true
or_none true e = refl
or_none false e = e

count_next : (test : CardText → Bool) (c : CardText) (cs : List CardText) (most left : ℕ) → count_by test cs + suc left ≤ most → count_by test (c ∷ cs) + left ≤ most
count_next test c cs most left h = rw (sum_by-cons (λ (x : CardText). cond (test x) 1 0) c cs) (go (test c))
  where
    go : (t : Bool) → (cond t 1 0 + count_by test cs) + left ≤ most
    go true = omega arith
    go false = omega arith

commands_break_none : (d : DeckView) (commands : List Command) (cards earlier : List CardText) → SpellEach d cards (commands_then_end commands) → InCommands earlier (length commands) → BreakNone earlier cards
commands_break_none d [] cards earlier s k = end_alone d cards earlier s k.no_end k.outside k.task
commands_break_none d (command ∷ commands) [] earlier s k = absurd cc
commands_break_none d (command ∷ commands) (c ∷ cards) earlier s k =
    let op = s.0.operation in (
      breaks_none earlier c forms.Cancel (values_of d (CommandCard command)) op s.0.operands (keeps_command earlier c.name (length commands) s.0.name k),
      commands_break_none d commands cards (c ∷ earlier) s.1 (record {
        no_end = or_from (is_called (codes "END") c) _ (called_as c forms.Cancel (codes "END") op) k.no_end;
        oper = or_behind (is_called (codes "OPER") c) _ k.oper;
        outside = stays c earlier (called_as c forms.Cancel (codes "PROG") op) (called_as c forms.Cancel (codes "PEND") op) ∙ k.outside;
        command_count = count_next (is_called (codes "CANCEL")) c earlier most_commands (length commands) k.command_count;
        task = or_behind (is_called (codes "TASK") c) _ k.task;
      }),
    )

closing_breaks_none : (d : DeckView) (oper : Bool) (commands : List Command) (cards earlier : List CardText) → SpellEach d cards (closing oper commands)
    → Kept earlier [] [] (length commands) → is_in_program earlier ≡ false → BreakNone earlier cards
closing_breaks_none d false commands cards earlier s k outside = end_alone d cards earlier s k.no_end outside (or_none _ k.task)
closing_breaks_none d true commands [] earlier s k outside = absurd cc
closing_breaks_none d true commands (c ∷ cards) earlier s k outside =
    let op = s.0.operation in (
      breaks_none earlier c forms.Oper (values_of d CommandsStart) op s.0.operands (keeps_commands_start earlier c.name s.0.name k.no_end k.no_oper outside),
      commands_break_none d commands cards (c ∷ earlier) s.1 (record {
        no_end = or_from (is_called (codes "END") c) _ (called_as c forms.Oper (codes "END") op) k.no_end;
        oper = ap (λ (t : Bool). t || has_operation (codes "OPER") earlier) (called_as c forms.Oper (codes "OPER") op);
        outside = stays c earlier (called_as c forms.Oper (codes "PROG") op) (called_as c forms.Oper (codes "PEND") op) ∙ outside;
        command_count = rw (sum_by-cons (λ (x : CardText). cond (is_called (codes "CANCEL") x) 1 0) c earlier, called_as c forms.Oper (codes "CANCEL") op) (let count = k.command_count in omega arith);
        task = or_behind (is_called (codes "TASK") c) _ (or_none _ k.task);
      }),
    )

-- The cards of programs.

abbrev pub with_label : Option (List ℕ) → List (List ℕ) → List (List ℕ)
with_label label others = option_map_or (λ l. l ∷ others) label others

abbrev pub ArePadded : List (List ℕ) → Type 0
ArePadded names = AllByRecursion (λ n. IsTrue (is_padded_name n)) names

with_label_padded : (label : Option (List ℕ)) (others : List (List ℕ)) → IsTrue (is_label label) → ArePadded others → ArePadded (with_label label others)
with_label_padded None others h all = all
with_label_padded (Some l) others h all = (h, all)

pub labels_padded : (d : DeckView) (all lines : List Line) → IsTrue (list_all (λ line. is_label line.label && is_op d all line.op) lines) → ArePadded (labels_in lines)
labels_padded d all [] h = tt
labels_padded d all (line ∷ lines) h =
    let p = both_true (is_label line.label && is_op d all line.op) _ h in
    let q = both_true (is_label line.label) (is_op d all line.op) p.0 in
    with_label_padded line.label (labels_in lines) q.0 (labels_padded d all lines p.1)

others_distinct : (label : Option (List ℕ)) (others : List (List ℕ)) → IsTrue (are_distinct (with_label label others)) → IsTrue (are_distinct others)
others_distinct None others h = h
others_distinct (Some l) others h = (both_true (not (list_any (bytes_eq l) others)) (are_distinct others) h).1

label_single : (label : Option (List ℕ)) (others : List (List ℕ)) (earlier : List CardText) (text : List ℕ) → text ≡ label_text label → FreeLabels earlier (with_label label others)
    → (not (eqb (length text) 0) && list_any (is_named text) (since_program earlier)) ≡ false
label_single None others earlier text e free = unnamed_single text _ e
label_single (Some l) others earlier text e free = and_right _ (list_any (is_named text) (since_program earlier)) (ap (λ (t : List ℕ). list_any (is_named t) (since_program earlier)) e ∙ free.0)

no_text : (text : List ℕ) → eqb (length text) 0 ≡ false → bytes_eq [] text ≡ false
no_text [] h = absurd cc
no_text (b ∷ bs) h = refl

unlabelled_free : (since : List CardText) (c : CardText) (others : List (List ℕ)) → c.name ≡ [] → ArePadded others
    → AreFree (λ text. list_any (is_named text) since) others → AreFree (λ text. list_any (is_named text) (c ∷ since)) others
unlabelled_free since c [] e all free = tt
unlabelled_free since c (l ∷ others) e all free = (
  or_from (is_named (trimmed_text l) c) _ (ap (λ (n : List ℕ). bytes_eq n (trimmed_text l)) e ∙ no_text (trimmed_text l) (name_stands l (trimmed_text l) all.0 refl)) free.0,
  unlabelled_free since c others e all.1 free.1,
)

labels_behind_card : (label : Option (List ℕ)) (others : List (List ℕ)) (since : List CardText) (c : CardText) → c.name ≡ label_text label → IsTrue (is_label label) → ArePadded others
    → IsTrue (are_distinct (with_label label others)) → AreFree (λ text. list_any (is_named text) since) (with_label label others) → AreFree (λ text. list_any (is_named text) (c ∷ since)) others
labels_behind_card None others since c e h all distinct free = unlabelled_free since c others e all free
labels_behind_card (Some l) others since c e h all distinct free =
    free_behind (λ text. list_any (is_named text) since) (λ text. list_any (is_named text) (c ∷ since)) l others h all
    (not-true _ (both_true (not (list_any (bytes_eq l) others)) (are_distinct others) distinct).0)
    (λ n ne f. or_from (is_named n c) _ (ap (λ (x : List ℕ). bytes_eq x n) e ∙ ne) f) free.1

pub labels_behind : (label : Option (List ℕ)) (others : List (List ℕ)) (earlier : List CardText) (c : CardText) → c.name ≡ label_text label → is_called (codes "PROG") c ≡ false → IsTrue (is_label label) → ArePadded others
    → IsTrue (are_distinct (with_label label others)) → FreeLabels earlier (with_label label others) → FreeLabels (c ∷ earlier) others
labels_behind label others earlier c e prog h all distinct free =
    subst (λ (since : List CardText). AreFree (λ text. list_any (is_named text) since) others) (sym (since_more c earlier prog))
    (labels_behind_card label others (since_program earlier) c e h all distinct free)

end_of_program_is_other : (c : CardText) → c.op ≡ codes "PEND" → IsOther c
end_of_program_is_other c op = record {
  prog = called_as c forms.Pend (codes "PROG") op;
  task = called_as c forms.Pend (codes "TASK") op;
  srb = called_as c forms.Pend (codes "SRB") op;
  oper = called_as c forms.Pend (codes "OPER") op;
  cancel = called_as c forms.Pend (codes "CANCEL") op;
  last = called_as c forms.Pend (codes "END") op;
}

-- what the cards behind must do, whatever stands before them
abbrev Goes : DeckView → List Item → List (List ℕ) → List UnitCard → ℕ → Type 0
Goes d items programs units commands = (cards earlier : List CardText) → SpellEach d cards items → Kept earlier programs units commands → is_in_program earlier ≡ false → BreakNone earlier cards

lines_break_none : (d : DeckView) (all lines : List Line) (rest : List Item) (programs : List (List ℕ)) (units : List UnitCard) (commands : ℕ) (cards earlier : List CardText)
    → IsTrue (list_all (λ line. is_label line.label && is_op d all line.op) lines) → IsTrue (are_distinct (labels_in lines)) → SpellEach d cards (lines_then lines rest)
    → Kept earlier programs units commands → is_in_program earlier ≡ true → FreeLabels earlier (labels_in lines) → Goes d rest programs units commands → BreakNone earlier cards
lines_break_none d all [] rest programs units commands [] earlier good distinct s k inside free next = absurd cc
lines_break_none d all [] rest programs units commands (c ∷ cards) earlier good distinct s k inside free next =
    let op = s.0.operation in (
      breaks_none earlier c forms.Pend (values_of d ProgramEnd) op s.0.operands (keeps_end_of_program earlier c.name s.0.name k.no_end inside),
      next cards (c ∷ earlier) s.1 (kept_past c earlier programs units commands (end_of_program_is_other c op) k)
          (closed c earlier (called_as c forms.Pend (codes "PROG") op) (called_as c forms.Pend (codes "PEND") op)),
    )
lines_break_none d all (line ∷ lines) rest programs units commands [] earlier good distinct s k inside free next = absurd cc
lines_break_none d all (line ∷ lines) rest programs units commands (c ∷ cards) earlier good distinct s k inside free next =
    let op = s.0.operation in
    let p = both_true (is_label line.label && is_op d all line.op) _ good in
    let q = both_true (is_label line.label) (is_op d all line.op) p.0 in
    let f = line_form_of_op line.op in
    let is = line_card line.op c op in (
      breaks_none earlier c (form_of_op line.op) (values_of d (ProgramCard line)) op s.0.operands (record {
        named = f.named c.name;
        placed = or_from _ _ (or_from (has_operation (codes "END") earlier) _ k.no_end (rw (f.inside, inside) refl)) (f.in_order earlier);
        single = f.doubled earlier c.name ∙ label_single line.label (labels_in lines) earlier c.name s.0.name free;
        few = f.few earlier;
        needs_no_task = f.needs_no_task earlier;
      }),
      lines_break_none d all lines rest programs units commands cards (c ∷ earlier) p.1 (others_distinct line.label (labels_in lines) distinct) s.1
          (kept_past c earlier programs units commands (line_is_other c is) k) (stays c earlier is.prog is.pend ∙ inside)
          (labels_behind line.label (labels_in lines) earlier c s.0.name is.prog q.0 (labels_padded d all lines p.1) distinct free) next,
    )

pub programs_padded : (d : DeckView) (programs : List ProgramView) → IsTrue (list_all (is_program_of d) programs) → ArePadded (map (λ p. p.name) programs)
programs_padded d [] h = tt
programs_padded d (p ∷ programs) h =
    let parts = both_true (is_program_of d p) (list_all (is_program_of d) programs) h in
    let outer = both_true (is_padded_name p.name && list_all (λ line. is_label line.label && is_op d p.lines line.op) p.lines) (are_distinct (labels_in p.lines)) parts.0 in
    ((both_true (is_padded_name p.name) _ outer.0).0, programs_padded d programs parts.1)

pub units_padded : (d : DeckView) (units : List UnitCard) → IsTrue (list_all (is_unit_of d) units) → ArePadded (map (λ u. u.name) units)
units_padded d [] h = tt
units_padded d (u ∷ units) h =
    let parts = both_true (is_unit_of d u) (list_all (is_unit_of d) units) h in
    let outer = both_true (is_padded_name u.name && is_program d u.prog) (is_related d u.kind u.related) parts.0 in
    ((both_true (is_padded_name u.name) (is_program d u.prog) outer.0).0, units_padded d units parts.1)

all_free : (names : List (List ℕ)) → AllByRecursion (λ (n : List ℕ). false ≡ false) names
all_free [] = tt
all_free (n ∷ names) = (refl, all_free names)

operation_of_unit : (c : CardText) (kind : UnitKind) → c.op ≡ operation_of (form_of_kind kind) → c.op ≡ unit_operation kind
operation_of_unit c Task e = e
operation_of_unit c Srb e = e

blocks_break_none : (d : DeckView) (blocks : List Block) (rest : List Item) (commands : ℕ) (cards earlier : List CardText)
    → IsTrue (list_all (is_program_of d) (programs_in blocks)) → IsTrue (list_all (is_unit_of d) (units_in blocks))
    → IsTrue (are_distinct (map (λ p. p.name) (programs_in blocks))) → IsTrue (are_distinct (map (λ u. u.name) (units_in blocks)))
    → SpellEach d cards (blocks_then blocks rest) → Kept earlier (map (λ p. p.name) (programs_in blocks)) (units_in blocks) commands → is_in_program earlier ≡ false
    → Goes d rest [] [] commands → BreakNone earlier cards
blocks_break_none d [] rest commands cards earlier ps us dp du s k outside next = next cards earlier s k outside
blocks_break_none d (ProgramBlock p ∷ blocks) rest commands [] earlier ps us dp du s k outside next = absurd cc
blocks_break_none d (ProgramBlock p ∷ blocks) rest commands (c ∷ cards) earlier ps us dp du s k outside next =
    let op = s.0.operation in
    let names = map (λ p. p.name) (programs_in blocks) in
    let parts = both_true (is_program_of d p) (list_all (is_program_of d) (programs_in blocks)) ps in
    let outer = both_true (is_padded_name p.name && list_all (λ line. is_label line.label && is_op d p.lines line.op) p.lines) (are_distinct (labels_in p.lines)) parts.0 in
    let inner = both_true (is_padded_name p.name) _ outer.0 in
    let distinct = both_true (not (list_any (bytes_eq p.name) names)) (are_distinct names) dp in
    let prog : is_called (codes "PROG") c ≡ true = called_as c forms.Prog (codes "PROG") op in (
      breaks_none earlier c forms.Prog (values_of d (ProgramStart p.name)) op s.0.operands (keeps_program earlier p.name c.name names (units_in blocks) commands s.0.name inner.0 k outside),
      lines_break_none d p.lines p.lines (blocks_then blocks rest) names (units_in blocks) commands cards (c ∷ earlier) inner.1 outer.1 s.1
          (kept_program c p.name earlier names (units_in blocks) commands op s.0.name inner.0 (programs_padded d (programs_in blocks) parts.1) (not-true _ distinct.0) k)
          (opened c earlier prog)
          (subst (λ (since : List CardText). AreFree (λ text. list_any (is_named text) since) (labels_in p.lines)) (sym (since_start c earlier prog)) (all_free (labels_in p.lines)))
          (λ cards earlier s k outside. blocks_break_none d blocks rest commands cards earlier parts.1 us distinct.1 du s k outside next),
    )
blocks_break_none d (UnitBlock u ∷ blocks) rest commands [] earlier ps us dp du s k outside next = absurd cc
blocks_break_none d (UnitBlock u ∷ blocks) rest commands (c ∷ cards) earlier ps us dp du s k outside next =
    let programs = map (λ p. p.name) (programs_in blocks) in
    let names = map (λ u. u.name) (units_in blocks) in
    let parts = both_true (is_unit_of d u) (list_all (is_unit_of d) (units_in blocks)) us in
    let outer = both_true (is_padded_name u.name && is_program d u.prog) (is_related d u.kind u.related) parts.0 in
    let padded = (both_true (is_padded_name u.name) (is_program d u.prog) outer.0).0 in
    let distinct = both_true (not (list_any (bytes_eq u.name) names)) (are_distinct names) du in
    let is = unit_card c u.kind (operation_of_unit c u.kind s.0.operation) in (
      breaks_none earlier c (form_of_kind u.kind) (values_of d (UnitOfWork u)) s.0.operation s.0.operands (keeps_unit earlier u u.kind c.name programs (units_in blocks) commands s.0.name padded k outside),
      blocks_break_none d blocks rest commands cards (c ∷ earlier) ps parts.1 dp distinct.1 s.1
          (kept_unit c u earlier programs (units_in blocks) commands is s.0.name padded (units_padded d (units_in blocks) parts.1) (not-true _ distinct.0) k)
          (stays c earlier is.prog is.pend ∙ outside) next,
    )

-- A deck's first card, which may be REGION.

region_is_other : (c : CardText) → c.op ≡ codes "REGION" → IsOther c
region_is_other c op = record {
  prog = called_as c forms.Region (codes "PROG") op;
  task = called_as c forms.Region (codes "TASK") op;
  srb = called_as c forms.Region (codes "SRB") op;
  oper = called_as c forms.Region (codes "OPER") op;
  cancel = called_as c forms.Region (codes "CANCEL") op;
  last = called_as c forms.Region (codes "END") op;
}

opening_breaks_none : (d : DeckView) (region : Bool) (limit : ℕ) (sdwa : Bool) (rest : List Item) (programs : List (List ℕ)) (units : List UnitCard) (commands : ℕ) (cards : List CardText)
    → SpellEach d cards (opening region limit sdwa rest) → Kept [] programs units commands → Goes d rest programs units commands → BreakNone [] cards
opening_breaks_none d false limit sdwa rest programs units commands cards s k next = next cards [] s k refl
opening_breaks_none d true limit sdwa rest programs units commands [] s k next = absurd cc
opening_breaks_none d true limit sdwa rest programs units commands (c ∷ cards) s k next =
    let op = s.0.operation in (
      breaks_none [] c forms.Region (values_of d (RegionCard limit sdwa)) op s.0.operands (record { named = no_name c.name s.0.name; placed = refl; single = unnamed_single c.name _ s.0.name; few = refl; needs_no_task = refl }),
      next cards (c ∷ []) s.1 (kept_past c [] programs units commands (region_is_other c op) k)
          (stays c [] (called_as c forms.Region (codes "PROG") op) (called_as c forms.Region (codes "PEND") op)),
    )

length_mapped : {X Y : Type 0} (f : X → Y) (xs : List X) → length (map f xs) ≡ length xs
length_mapped f [] = refl
length_mapped f (x ∷ xs) = ap suc (length_mapped f xs)

-- nothing stands before the first card
kept_at_first : (d : DeckView) → IsTrue (is_well_formed d) → Kept [] (program_names d) d.units (length d.commands)
kept_at_first d h =
    let l = limits d h in
    let programs = l.programs in
    let units = l.units in
    let commands = l.commands in
    record {
      no_end = refl;
      no_oper = refl;
      free_programs = all_free (program_names d);
      free_units = all_free (map (λ u. u.name) d.units);
      program_count = rw (length_mapped (λ (p : ProgramView). p.name) d.programs) (omega arith);
      unit_count = omega arith;
      command_count = omega arith;
      task = (conditions d h).task;
    }

-- no card of a deck breaks a rule of form
pub cards_break_none : (cards : List CardText) (d : DeckView) → SpellsDeck cards d → IsTrue (is_well_formed d) → BreakNone [] cards
cards_break_none cards d s h =
    let k = conditions d h in
    let names = both_true (are_distinct (program_names d)) (are_distinct (unit_names d)) k.names in
    let programs = sym s.programs in
    let units = sym s.units in
    let first : Kept [] (map (λ p. p.name) (programs_in s.blocks)) (units_in s.blocks) (length d.commands) =
    subst (λ (us : List UnitCard). Kept [] (map (λ p. p.name) (programs_in s.blocks)) us (length d.commands)) units
    (subst (λ (ps : List ProgramView). Kept [] (map (λ p. p.name) ps) d.units (length d.commands)) programs (kept_at_first d h)) in
    opening_breaks_none d s.region d.limit d.sdwa (blocks_then s.blocks (closing s.oper d.commands)) (map (λ p. p.name) (programs_in s.blocks)) (units_in s.blocks) (length d.commands) cards
    (subst (λ (items : List Item). SpellEach d cards items) (laid_out s.region s.oper s.blocks d) s.each) first
    (λ cards earlier each kept outside. blocks_break_none d s.blocks (closing s.oper d.commands) (length d.commands) cards earlier
    (subst (λ (ps : List ProgramView). IsTrue (list_all (is_program_of d) ps)) programs k.programs)
    (subst (λ (us : List UnitCard). IsTrue (list_all (is_unit_of d) us)) units k.units)
    (subst (λ (ps : List ProgramView). IsTrue (are_distinct (map (λ p. p.name) ps))) programs names.0)
    (subst (λ (us : List UnitCard). IsTrue (are_distinct (map (λ u. u.name) us))) units names.1)
    each kept outside
    (λ cards earlier each kept outside. closing_breaks_none d s.oper d.commands cards earlier each kept outside))
