-- No spelling of a card is shorter than its canonical line.
use Rattle.std.proofs.Common.{◌≡◌, ℕ, ◌+◌, ◌<◌, ◌≤◌, List, [], ◌∷◌, ◌++◌, length, replicate, Option, sym, ap, subst, ◌∙◌, length-append, arith}
use Rattle.std.specs.List.{join_with_byte}
use Rattle.rtm_cards.specs.Text.{blank, comma}
use Rattle.rtm_cards.specs.Fields.{op_of}
use Rattle.rtm_cards.specs.Cards.{CardText, card_of}
use Rattle.rtm_cards.specs.Spelling.{SpellsCard}
use Rattle.rtm_cards.specs.Spelling.{SpellsOperands as SpellsRest}
use Rattle.rtm_cards.proofs.Spelled.{card_spelled}
use Rattle.rtm_deck_operands.specs.declared.value.Value.{Value}
use Rattle.rtm_deck_operands.specs.declared.slot.Slot.{Slot}
use Rattle.rtm_deck_operands.specs.Slot.{separated_operands, field_of, canon_operands}
use Rattle.rtm_deck_operands.proofs.CanonTexts.{field-shortest}
use Rattle.rtm_deck_items.specs.declared.form.CardForm.{CardForm}
use Rattle.rtm_deck_items.specs.Forms.{operation_of, slots_of}
use Rattle.rtm_deck_items.specs.View.{DeckView}
use Rattle.rtm_deck_items.specs.Items.{Item, form_of, values_of, name_of}
use Rattle.rtm_deck_items.specs.Spelling.{SpellsOperands, SpellsItem}
use Rattle.rtm_deck_items.specs.Canon.{card_line, item_line}
use Rattle.rtm_deck_canon.proofs.CardLines.{operation_plain}

join-length : (part : List ℕ) (parts : List (List ℕ)) → length part + length (separated_operands comma parts) ≡ length (join_with_byte comma (part ∷ parts))
join-length part [] = omega arith
join-length part (p ∷ ps) = omega (arith, length-append part (comma ∷ join_with_byte comma (p ∷ ps)), length-append p (separated_operands comma ps), join-length p ps)

-- the operands are written behind a blank and with commas between them, in what follows the operation
field-length : (rest : List ℕ) (operands : List (List ℕ)) → SpellsRest rest operands → length (field_of operands) ≤ length rest
field-length rest [] h = omega arith
field-length rest (part ∷ parts) h =
    let field = join_with_byte comma (part ∷ parts) in
    omega (arith, ap length h.whole, length-append (replicate h.blanks blank) (field ++ h.remark), length-append field h.remark, join-length part parts, length-append part (separated_operands comma parts))

-- what is written is no longer, whatever the operands are
canon-length : (slots : List Slot) (operands : List (List ℕ)) (given : List (Option Value)) → SpellsOperands slots operands given
    → length (field_of (canon_operands slots given)) ≤ length (field_of operands)
canon-length [] operands given h = omega arith
canon-length (slot ∷ slots) operands given h = field-shortest (slot ∷ slots) operands given h

card_line-length : (name : List ℕ) (form : CardForm) (given : List (Option Value))
    → length (card_line name form given) ≡ length name + (1 + length (operation_of form)) + length (field_of (canon_operands (slots_of form) given))
card_line-length name form given =
    length-append (name ++ (blank ∷ operation_of form)) (field_of (canon_operands (slots_of form) given))
    ∙ omega (arith, length-append name (blank ∷ operation_of form))

spelled-length : (line : List ℕ) (c : CardText) → SpellsCard line c → length c.name + (1 + length c.op) + length (field_of c.operands) ≤ length line
spelled-length line c h =
    omega (
      arith,
      ap length h.whole,
      length-append c.name (blank ∷ replicate h.blanks blank ++ (c.op ++ h.rest)),
      length-append (replicate h.blanks blank) (c.op ++ h.rest),
      length-append c.op h.rest,
      field-length h.rest c.operands h.operands,
    )

-- A line that says an item is at least as long as the canonical one.
pub shortest : (d : DeckView) (number : ℕ) (line : List ℕ) (item : Item) → SpellsItem d (card_of number line) item → length (item_line d item) ≤ length line
shortest d number line item h =
    let form = form_of item in
    let op_is : op_of line ≡ operation_of form = h.operation in
    let stands : 0 < length (op_of line) = subst (λ (t : List ℕ). 0 < length t) (sym op_is) (operation_plain form).0 in
    let names = ap (λ (t : List ℕ). length t) h.name in
    let ops = ap (λ (t : List ℕ). length t) op_is in
    let spelled = spelled-length line (card_of number line) (card_spelled number line stands) in
    let fewer = canon-length (slots_of form) (card_of number line).operands (values_of d item) h.operands.spelled in
    omega (arith, card_line-length (name_of item) form (values_of d item), names, ops, spelled, fewer)
