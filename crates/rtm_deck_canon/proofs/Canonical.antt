-- The canonical text spells its deck.
use Rattle.std.proofs.Common.{◌≡◌, ℕ, Bool, true, false, eqb, not, ◌&&◌, ◌||◌, List, [], ◌∷◌, ◌++◌, length, map, Option, Some, None, refl, sym, subst, arith}
use Rattle.std.specs.Prelude.{IsTrue, codes, is_some, if◌then◌else◌}
use Rattle.std.specs.Option.{option_map}
use Rattle.std.specs.List.{flat_map, list_all, list_any, AllByRecursion}
use Rattle.std.proofs.lemmas.Bool.{and_parts, ne_eqb}
use Rattle.rtm_cards.specs.Limits.{most_entries, default_entries}
use Rattle.rtm_cards.specs.Name.{is_name, is_name_field}
use Rattle.rtm_cards.specs.Cards.{CardText, card_of}
use Rattle.rtm_deck_operands.specs.declared.value.Value.{Value}
use Rattle.rtm_deck_operands.specs.declared.value.Value.TheVariants as values
use Rattle.rtm_deck_operands.specs.declared.slot.Slot.{Slot}
use Rattle.rtm_deck_operands.specs.declared.slot.Kind.TheVariants as kinds
use Rattle.rtm_deck_operands.specs.Value.{value_text}
use Rattle.rtm_deck_operands.specs.declared.slot.LeftOut.{LeftOut}
use Rattle.rtm_deck_operands.specs.declared.slot.LeftOut.TheVariants as left_out
use Rattle.rtm_deck_operands.specs.Name.{is_padded_name, trimmed_text}
use Rattle.rtm_deck_operands.specs.Slot.{operand_text, slot_fits, slots_fit, is_default, means_nothing, canon_operands, IsWellMade}
use Rattle.rtm_deck_items.specs.declared.deck.Line.{Line}
use Rattle.rtm_deck_items.specs.declared.deck.Unit.{Unit as UnitCard}
use Rattle.rtm_deck_items.specs.declared.deck.UnitKind.{UnitKind}
use Rattle.rtm_deck_items.specs.declared.deck.UnitKind.TheVariants.{Task, Srb}
use Rattle.rtm_deck_items.specs.declared.deck.Command.{Command}
use Rattle.rtm_deck_items.specs.declared.op.Op.{Op}
use Rattle.rtm_deck_items.specs.declared.op.Op.TheVariants as ops
use Rattle.rtm_deck_items.specs.declared.op.Setrp.{Setrp}
use Rattle.rtm_deck_items.specs.View.{ProgramView, DeckView}
use Rattle.rtm_deck_items.specs.declared.form.CardForm.TheVariants.{Region, SetRp}
use Rattle.rtm_deck_items.specs.Forms.{slots_of, needs_some}
use Rattle.rtm_deck_items.specs.Items.{Item, ProgramCard, ProgramEnd, UnitOfWork, CommandCard, DeckEnd, ProgramBlock, items_of_block, opening_items, closing_items, form_of, values_of, name_of, label_text, form_of_op, values_of_op, form_of_kind, values_of_unit}
use Rattle.rtm_deck_items.specs.Spelling.{SpellsOperands, SpellsItem}
use Rattle.rtm_deck_items.specs.WellFormed.{has_region, is_well_formed, is_label, is_op, is_program_of, is_unit_of, is_command_of, are_distinct, labels_in, is_program, is_related, gives_some, is_setrp}
use Rattle.rtm_deck_items.specs.Canon.{item_line, canon_blocks, canon_items}
use Rattle.rtm_deck_items.proofs.FormFacts.{conditions}
use Rattle.rtm_deck_canon.specs.Fits.{item_fits}
use Rattle.rtm_deck_canon.proofs.Each.{each_tested, both_lists, mapped}
use Rattle.rtm_deck_canon.proofs.Fitting.{unit_fit, command_fit, region_fits, op_fits}
use Rattle.rtm_deck_canon.proofs.OperandLaws.{slots_well_made, canon_spelled, canon_plain}
use Rattle.rtm_deck_canon.proofs.CardLines.{read}
use Rattle.rtm_deck_canon.proofs.Covered.{together, EachProgram, EachUnit}

-- some operand stands on the card that is written
abbrev pub some_are_written : List Slot → List (Option Value) → Bool
some_are_written slots given = not (eqb (length (canon_operands slots given)) 0)

-- What is asked of an item so that its canonical card says it: its name, its values, and that an operand stands there
-- where one must.
pub record CanBeWritten (d : DeckView) (item : Item) : Type 0 where
  pub named : IsTrue (is_name_field (name_of item))
  pub fits : IsTrue (item_fits d item)
  pub some : IsTrue (needs_some (form_of item)) → IsTrue (some_are_written (slots_of (form_of item)) (values_of d item))

-- the first of the cards, and of the numbers, with which its line says the item
pub item_said : (d : DeckView) (item : Item) (number : ℕ) → CanBeWritten d item → SpellsItem d (card_of number (item_line d item)) item
item_said d item number h =
    let form = form_of item in
    let given = values_of d item in
    let plain = canon_plain (slots_of form) given (slots_well_made form) h.fits in
    subst (λ (c : CardText). SpellsItem d c item) (sym (read (name_of item) form given h.named plain number)) (record {
      name = refl;
      operation = refl;
      operands = record { spelled = spelled (slots_of form) given (slots_well_made form) h.fits; some = h.some };
    })
  where
    spelled : (slots : List Slot) (given : List (Option Value)) → IsWellMade slots → IsTrue (slots_fit slots given) → SpellsOperands slots (canon_operands slots given) given
    spelled [] [] made fit = refl
    spelled [] (v ∷ vs) made fit = absurd cc
    spelled (slot ∷ slots) given made fit = canon_spelled (slot ∷ slots) given made fit

-- Each item of a well formed deck can be written.

or_true : (a b : Bool) → b ≡ true → (a || b) ≡ true
or_true true b h = refl
or_true false b h = h

padded_field : (bytes : List ℕ) → IsTrue (is_padded_name bytes) → IsTrue (is_name_field (trimmed_text bytes))
padded_field bytes h = or_true _ _ (and_parts _ (is_name (trimmed_text bytes)) (and_parts _ _ h).0).1

label_field : (label : Option (List ℕ)) → IsTrue (is_label label) → IsTrue (is_name_field (label_text label))
label_field None h = refl
label_field (Some label) h = padded_field label h

is_some-map : {A B : Type 0} (f : A → B) (o : Option A) → is_some (option_map f o) ≡ is_some o
is_some-map f None = refl
is_some-map f (Some x) = refl

some_of_eight : (a b c d e f g h : Bool) → (a || b || c || d || e || f || g || h) ≡ true → (a || (b || (c || (d || (e || (f || (g || (h || false)))))))) ≡ true
some_of_eight true b c d e f g h p = refl
some_of_eight false true c d e f g h p = refl
some_of_eight false false true d e f g h p = refl
some_of_eight false false false true e f g h p = refl
some_of_eight false false false false true f g h p = refl
some_of_eight false false false false false true g h p = refl
some_of_eight false false false false false false true h p = refl
some_of_eight false false false false false false false true p = refl
some_of_eight false false false false false false false false p = absurd cc

-- Where leaving an operand out gives no value, each value that is given is written.

not_default : (absent : LeftOut) (value : Value) → IsTrue (means_nothing absent) → is_default absent value ≡ false
not_default left_out.Needed value h = refl
not_default left_out.Nothing value h = refl
not_default (left_out.Flag flag) value h = absurd cc
not_default (left_out.Number n) value h = absurd cc

some_more : {A : Type 0} (x : A) (xs : List A) → IsTrue (not (eqb (length (x ∷ xs)) 0))
some_more x xs = rw (ne_eqb (length (x ∷ xs)) 0 (λ e. absurd (omega (arith, e)))) refl

given_is_written : (slots : List Slot) (given : List (Option Value)) → IsTrue (list_all (λ (slot : Slot). means_nothing slot.left_out) slots) → IsTrue (slots_fit slots given)
    → IsTrue (list_any is_some given) → IsTrue (some_are_written slots given)
given_is_written [] [] nothing fit some = absurd cc
given_is_written [] (value ∷ values) nothing fit some = absurd cc
given_is_written (slot ∷ slots) [] nothing fit some = absurd cc
given_is_written (slot ∷ slots) (None ∷ values) nothing fit some =
    given_is_written slots values (and_parts (means_nothing slot.left_out) (list_all (λ (slot : Slot). means_nothing slot.left_out) slots) nothing).1 (and_parts (slot_fits slot None) (slots_fit slots values) fit).1 some
given_is_written (slot ∷ slots) (Some value ∷ values) nothing fit some =
    rw (not_default slot.left_out value (and_parts (means_nothing slot.left_out) (list_all (λ (slot : Slot). means_nothing slot.left_out) slots) nothing).0)
    (some_more (operand_text (trimmed_text slot.key) (value_text slot.kind value)) (canon_operands slots values))

-- REGION has an operand wherever it has to stand there.
region_some : (limit : ℕ) (sdwa : Bool) → IsTrue (has_region limit sdwa) → IsTrue (some_are_written (slots_of Region) (Some (values.Number limit) ∷ Some (values.Flag sdwa) ∷ []))
region_some limit sdwa h =
    go (eqb limit default_entries) sdwa
    (operand_text (trimmed_text (codes "LIMIT   ")) (value_text (kinds.Number 1 most_entries) (values.Number limit)))
    (operand_text (trimmed_text (codes "SDWA    ")) (value_text kinds.YesNo (values.Flag sdwa)))
    h
  where
    go : (t s : Bool) (a b : List ℕ) → IsTrue (not t || not s) → IsTrue (not (eqb (length ((if t then [] else a ∷ []) ++ ((if s then [] else b ∷ []) ++ []))) 0))
    go true true a b h = absurd cc
    go true false a b h = some_more b []
    go false s a b h = some_more a ((if s then [] else b ∷ []) ++ [])

module _ (d : DeckView) (form : IsTrue (is_well_formed d)) where
  setrp_some : (s : Setrp) → IsTrue (is_setrp d s) → IsTrue (list_any is_some (values_of_op d (ops.SetRp s)))
  setrp_some s h =
      rw (
        is_some-map values.Number s.rc,
        is_some-map values.Name s.retaddr,
        is_some-map values.Flag s.remrec,
        is_some-map values.Code s.compcod,
        is_some-map values.Reason s.reason,
        is_some-map values.Three s.dump,
        is_some-map values.Three s.logrec,
        is_some-map values.Flag s.fresdwa,
      )
      (some_of_eight (is_some s.rc) (is_some s.retaddr) (is_some s.remrec) (is_some s.compcod) (is_some s.reason) (is_some s.dump) (is_some s.logrec) (is_some s.fresdwa) (and_parts _ (gives_some s) h).1)

  op_some : (lines : List Line) (op : Op) → IsTrue (is_op d lines op) → IsTrue (needs_some (form_of_op op)) → IsTrue (some_are_written (slots_of (form_of_op op)) (values_of_op d op))
  op_some lines (ops.SetRp s) h needed = given_is_written (slots_of SetRp) (values_of_op d (ops.SetRp s)) refl (op_fits d form lines (ops.SetRp s) h) (setrp_some s h)
  op_some lines (ops.Attachx unit None term) h needed = absurd cc
  op_some lines (ops.Attachx unit (Some prog) term) h needed = absurd cc
  op_some lines _ h needed = absurd cc

  line_written : (lines : List Line) (line : Line) → IsTrue (is_label line.label && is_op d lines line.op) → CanBeWritten d (ProgramCard line)
  line_written lines line h =
      let parts = and_parts (is_label line.label) (is_op d lines line.op) h in
      record { named = label_field line.label parts.0; fits = op_fits d form lines line.op parts.1; some = op_some lines line.op parts.1 }

  program_written : (p : ProgramView) → IsTrue (is_program_of d p) → AllByRecursion (CanBeWritten d) (items_of_block (ProgramBlock p))
  program_written p h =
      let parts = and_parts (is_padded_name p.name && list_all (λ (line : Line). is_label line.label && is_op d p.lines line.op) p.lines) (are_distinct (labels_in p.lines)) h in
      let front = and_parts (is_padded_name p.name) _ parts.0 in (
        record { named = padded_field p.name front.0; fits = refl; some = λ needed. absurd cc },
        both_lists (CanBeWritten d) (map ProgramCard p.lines) (ProgramEnd ∷ [])
            (mapped (CanBeWritten d) ProgramCard p.lines (each_tested _ _ (line_written p.lines) p.lines front.1))
            (record { named = refl; fits = refl; some = λ needed. absurd cc }, tt),
      )

  kind_some : (kind : UnitKind) (unit : UnitCard) → IsTrue (needs_some (form_of_kind kind)) → IsTrue (some_are_written (slots_of (form_of_kind kind)) (values_of_unit d kind unit))
  kind_some Task unit needed = absurd cc
  kind_some Srb unit needed = absurd cc

  unit_written : (unit : UnitCard) → IsTrue (is_unit_of d unit) → CanBeWritten d (UnitOfWork unit)
  unit_written unit h =
      let parts = and_parts (is_padded_name unit.name && is_program d unit.prog) (is_related d unit.kind unit.related) h in
      record {
        named = padded_field unit.name (and_parts (is_padded_name unit.name) (is_program d unit.prog) parts.0).0;
        fits = unit_fit d form unit h;
        some = kind_some unit.kind unit;
      }

  command_written : (command : Command) → IsTrue (is_command_of d command) → CanBeWritten d (CommandCard command)
  command_written command h = record { named = refl; fits = command_fit d form command h; some = λ needed. absurd cc }

  opening_written : AllByRecursion (CanBeWritten d) (opening_items (has_region d.limit d.sdwa) d.limit d.sdwa)
  opening_written = go (has_region d.limit d.sdwa) refl
    where
      go : (t : Bool) → has_region d.limit d.sdwa ≡ t → AllByRecursion (CanBeWritten d) (opening_items t d.limit d.sdwa)
      go true e = (record { named = refl; fits = region_fits d form; some = λ needed. region_some d.limit d.sdwa e }, tt)
      go false e = tt

  closing_written : AllByRecursion (CanBeWritten d) (closing_items (not (eqb (length d.commands) 0)) d.commands)
  closing_written = go (eqb (length d.commands) 0)
    where
      go : (t : Bool) → AllByRecursion (CanBeWritten d) (closing_items (not t) d.commands)
      go true = tt
      go false = (
        record { named = refl; fits = refl; some = λ needed. absurd cc },
        mapped (CanBeWritten d) CommandCard d.commands (each_tested _ _ command_written d.commands (conditions d form).commands),
      )

  -- each canonical item can be written
  pub canon_written : AllByRecursion (CanBeWritten d) (canon_items d)
  canon_written =
      let programs : EachProgram (CanBeWritten d) d.programs = each_tested (is_program_of d) _ program_written d.programs (conditions d form).programs in
      let units : EachUnit (CanBeWritten d) d.units = each_tested (is_unit_of d) _ unit_written d.units (conditions d form).units in
      both_lists (CanBeWritten d) _ (DeckEnd ∷ [])
      (both_lists (CanBeWritten d) _ (closing_items (not (eqb (length d.commands) 0)) d.commands)
      (both_lists (CanBeWritten d) (opening_items (has_region d.limit d.sdwa) d.limit d.sdwa) (flat_map items_of_block (canon_blocks d)) opening_written
      (together (CanBeWritten d) d.programs d.units programs units))
      closing_written)
      (record { named = refl; fits = refl; some = λ needed. absurd cc }, tt)
