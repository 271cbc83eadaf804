-- A card that is written: which card its line is, and that it breaks no rule.
use Rattle.std.proofs.Common.{◌≡◌, ℕ, ◌<◌, Bool, true, false, eqb, ltb, not, ◌&&◌, List, [], ◌∷◌, ◌++◌, length, Option, refl, sym, ap, subst, ◌∙◌, append_assoc, inl, inr, arith}
use Rattle.std.specs.Prelude.{IsTrue}
use Rattle.std.specs.List.{list_all, join_with_byte, AllByRecursion}
use Rattle.std.proofs.lemmas.Bool.{and_parts, and_from, eqb-true, or_cases}
use Rattle.std.proofs.lemmas.Bool.Decides.{nat_tests}
use Rattle.std.proofs.lemmas.List.{append-nil}
use Rattle.rtm_cards.specs.Text.{blank, comma, line_feed}
use Rattle.rtm_cards.specs.Name.{is_letter, is_name_byte, is_name, is_name_field}
use Rattle.rtm_cards.specs.Rules.{is_printable, is_comment, is_blank_card, is_ignored, has_good_fields}
use Rattle.rtm_cards.specs.Fields.{op_of}
use Rattle.rtm_cards.specs.Fields.{name_of as field_name}
use Rattle.rtm_cards.specs.Cards.{CardText, card_of}
use Rattle.rtm_cards.specs.Spelling.{Lacks}
use Rattle.rtm_cards.specs.Spelling.{SpellsOperands as SpellsRest}
use Rattle.rtm_cards.proofs.Spelled.{card_read}
use Rattle.rtm_deck_operands.specs.declared.value.Value.{Value}
use Rattle.rtm_deck_operands.specs.Slot.{is_operand_byte, separated_operands, field_of, canon_operands}
use Rattle.rtm_deck_items.specs.declared.form.CardForm.{CardForm}
use Rattle.rtm_deck_items.specs.declared.form.CardForm.TheVariants.{Region}
use Rattle.rtm_deck_items.specs.Forms.{operation_of, slots_of}
use Rattle.rtm_deck_items.specs.Canon.{card_line}
use Rattle.rtm_deck_canon.proofs.Each.{each_test, each, test_append, test_parts}
use Rattle.rtm_deck_canon.proofs.OperandLaws.{IsPlain}

-- Bytes.

printable_operand : (b : ℕ) → IsTrue (is_operand_byte b) → IsTrue (is_printable b)
printable_operand b h = grind (arith, nat_tests)

printable_name : (b : ℕ) → IsTrue (is_name_byte b) → IsTrue (is_printable b)
printable_name b h = grind (arith, nat_tests)

no_blank_operand : (b : ℕ) → IsTrue (is_operand_byte b) → IsTrue (not (eqb b blank))
no_blank_operand b h = grind (arith, nat_tests)

no_comma_operand : (b : ℕ) → IsTrue (is_operand_byte b) → IsTrue (not (eqb b comma))
no_comma_operand b h = grind (arith, nat_tests)

no_blank_name : (b : ℕ) → IsTrue (is_name_byte b) → IsTrue (not (eqb b blank))
no_blank_name b h = grind (arith, nat_tests)

no_line_feed : (b : ℕ) → IsTrue (is_printable b) → IsTrue (not (eqb b line_feed))
no_line_feed b h = grind (arith, nat_tests)

letter_is_name_byte : (b : ℕ) → IsTrue (is_letter b) → IsTrue (is_name_byte b)
letter_is_name_byte b h = rw h refl

letter_is_no_asterisk : (b : ℕ) → IsTrue (is_letter b) → eqb b 42 ≡ false
letter_is_no_asterisk b h = grind (arith, nat_tests)

-- Names and operations.

field_is_name : (b : ℕ) (bs : List ℕ) → IsTrue (is_name_field (b ∷ bs)) → IsTrue (is_name (b ∷ bs))
field_is_name b bs h = elim (or_cases (eqb (length (b ∷ bs)) 0) (is_name (b ∷ bs)) h) [
  | inl none ↦ let zero : length (b ∷ bs) ≡ 0 = eqb-true _ _ none in absurd (omega (arith, zero))
  | inr name ↦ name
]

pub name_bytes : (name : List ℕ) → IsTrue (is_name_field name) → IsTrue (list_all is_name_byte name)
name_bytes [] h = refl
name_bytes (b ∷ bs) h =
    let parts = and_parts (is_letter b && ltb (length bs) 8) (list_all is_name_byte bs) (field_is_name b bs h) in
    and_from (is_name_byte b) _ (letter_is_name_byte b (and_parts (is_letter b) (ltb (length bs) 8) parts.0).0) parts.1

plain_operation : (form : CardForm) → IsTrue (not (eqb (length (operation_of form)) 0) && list_all is_operand_byte (operation_of form))
plain_operation Region = refl
plain_operation _ = refl

some_bytes : (text : List ℕ) → IsTrue (not (eqb (length text) 0)) → 0 < length text
some_bytes [] h = absurd cc
some_bytes (b ∷ bs) h = omega arith

pub operation_plain : (form : CardForm) → IsPlain (operation_of form)
operation_plain form =
    let parts = and_parts (not (eqb (length (operation_of form)) 0)) (list_all is_operand_byte (operation_of form)) (plain_operation form) in
    (some_bytes (operation_of form) parts.0, parts.1)

-- Operands with their separators.

joined : (part : List ℕ) (parts : List (List ℕ)) → part ++ separated_operands comma parts ≡ join_with_byte comma (part ∷ parts)
joined part [] = append-nil part
joined part (p ∷ ps) = ap (λ (t : List ℕ). part ++ (comma ∷ t)) (joined p ps)

join_some : (part : List ℕ) (parts : List (List ℕ)) → 0 < length part → 0 < length (part ++ separated_operands comma parts)
join_some [] parts h = absurd (omega arith)
join_some (b ∷ bs) parts h = omega arith

pub field_spelled : (operands : List (List ℕ)) → AllByRecursion IsPlain operands → SpellsRest (field_of operands) operands
field_spelled [] plain = (0, refl)
field_spelled (part ∷ parts) plain = record {
  blanks = 0;
  remark = [];
  whole = ap (λ (t : List ℕ). blank ∷ t) (joined part parts ∙ sym (append-nil (join_with_byte comma (part ∷ parts))));
  behind = tt;
  stands = subst (λ (t : List ℕ). 0 < length t) (joined part parts) (join_some part parts plain.0.0);
  no_blanks = each IsPlain (Lacks blank) (λ x p. each_test is_operand_byte _ no_blank_operand x p.1) (part ∷ parts) plain;
  no_commas = each IsPlain (Lacks comma) (λ x p. each_test is_operand_byte _ no_comma_operand x p.1) (part ∷ parts) plain;
}

printable_separated : (separator : ℕ) (operands : List (List ℕ)) → IsTrue (is_printable separator) → AllByRecursion IsPlain operands → IsTrue (list_all is_printable (separated_operands separator operands))
printable_separated separator [] s plain = refl
printable_separated separator (part ∷ parts) s plain =
    and_from (is_printable separator) _ s (test_append is_printable part (separated_operands comma parts)
    (each_test is_operand_byte is_printable printable_operand part plain.0.1) (printable_separated comma parts refl plain.1))

-- The line of a card.

module _ (name : List ℕ) (form : CardForm) (given : List (Option Value)) (named : IsTrue (is_name_field name)) (plain : AllByRecursion IsPlain (canon_operands (slots_of form) given)) where
  -- the fields of the line are those that were written
  pub read : (number : ℕ) → card_of number (card_line name form given) ≡ record { number = number; name = name; op = operation_of form; operands = canon_operands (slots_of form) given }
  read number =
      let op = operation_plain form in
      let field = field_of (canon_operands (slots_of form) given) in
      card_read number (card_line name form given) name (operation_of form) (canon_operands (slots_of form) given) 0 field
      (append_assoc name (blank ∷ operation_of form) field)
      (each_test is_name_byte _ no_blank_name name (name_bytes name named))
      (each_test is_operand_byte _ no_blank_operand (operation_of form) op.1)
      op.0 (field_spelled (canon_operands (slots_of form) given) plain)

  pub line_printable : IsTrue (list_all is_printable (card_line name form given))
  line_printable =
      test_append is_printable (name ++ (blank ∷ operation_of form)) (field_of (canon_operands (slots_of form) given))
      (test_append is_printable name (blank ∷ operation_of form) (each_test is_name_byte is_printable printable_name name (name_bytes name named))
      (each_test is_operand_byte is_printable printable_operand (operation_of form) (operation_plain form).1))
      (printable_separated blank (canon_operands (slots_of form) given) refl plain)

  pub line_lacks : Lacks line_feed (card_line name form given)
  line_lacks = each_test is_printable _ no_line_feed (card_line name form given) line_printable

  pub good_fields : IsTrue (has_good_fields (card_line name form given))
  good_fields =
      let name_is : field_name (card_line name form given) ≡ name = ap (λ (c : CardText). c.name) (read 0) in
      let op_is : op_of (card_line name form given) ≡ operation_of form = ap (λ (c : CardText). c.op) (read 0) in
      rw (name_is, op_is) (and_from (is_name_field name) _ named (and_parts _ _ (plain_operation form)).0)

  not_blank : is_blank_card (card_line name form given) ≡ true → ⊥
  not_blank h =
      let front = (test_parts (λ (b : ℕ). eqb b blank) (name ++ (blank ∷ operation_of form)) (field_of (canon_operands (slots_of form) given)) h).0 in
      let op = and_parts true _ (test_parts (λ (b : ℕ). eqb b blank) name (blank ∷ operation_of form) front).1 in
      clash (operation_of form) (operation_plain form) op.1
    where
      clash : (text : List ℕ) → IsPlain text → list_all (λ (b : ℕ). eqb b blank) text ≡ true → ⊥
      clash [] p e = absurd (omega (arith, p.0))
      clash (b ∷ bs) p e =
          let is : b ≡ blank = eqb-true b blank (and_parts _ _ e).0 in
          let byte : is_operand_byte b ≡ true = (and_parts (is_operand_byte b) _ p.1).0 in
          let wrong : is_operand_byte blank ≡ true = subst (λ (x : ℕ). is_operand_byte x ≡ true) is byte in
          absurd cc

  no_comment : is_comment (card_line name form given) ≡ false
  no_comment = go name named
    where
      go : (text : List ℕ) → IsTrue (is_name_field text) → is_comment (text ++ (blank ∷ operation_of form) ++ field_of (canon_operands (slots_of form) given)) ≡ false
      go [] h = refl
      go (b ∷ bs) h = letter_is_no_asterisk b (and_parts (is_letter b) (ltb (length bs) 8) (and_parts (is_letter b && ltb (length bs) 8) (list_all is_name_byte bs) (field_is_name b bs h)).0).0

  pub says_something : is_ignored (card_line name form given) ≡ false
  says_something = rw no_comment (go (is_blank_card (card_line name form given)) refl)
    where
      go : (t : Bool) → is_blank_card (card_line name form given) ≡ t → t ≡ false
      go true e = absurd (not_blank e)
      go false e = refl
