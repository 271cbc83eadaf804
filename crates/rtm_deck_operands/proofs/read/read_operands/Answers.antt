use Rattle.std.proofs.Common.{◌≡◌, List, ℕ, Option, Some, None, option_map, IfNone, map, sym, ◌∙◌, ap, subst, refl, length, ◌<◌, arith}
use Rattle.std.proofs.lemmas.List.{length-map}
use Rattle.rtm_cards.specs.Span.{text_of}
use Rattle.rtm_deck_operands.specs.declared.value.Value.{Value}
use Rattle.rtm_deck_operands.specs.Slot.{SpellsSlots}
use Rattle.rtm_deck_operands.specs.inner.Reading.{read_slots}
use Rattle.rtm_deck_operands.proofs.Loops.{part_texts-spans, AreWithin-spans}
use Rattle.rtm_deck_operands.proofs.SlotReading.{read-found, read-fits, read-only, many-none, many-read}
use Rattle.rtm_deck_operands.proofs.read.read_operands.Goals as goal

pub returns-in_err-parts_of-clause-only : goal.returns-in_err-parts_of-clause-only
returns-in_err-parts_of-clause-only c =
    let operands = map (text_of c.args.bytes.now) c.args.operands.now in
    let many : 8 < length operands = omega (arith, length-map c.args.operands.now (text_of c.args.bytes.now), c.in_err-parts_of.ensures.many) in
    rw c.from_residual.ensures (many-none c.args.slots.now operands c.requires.table many)

pub returns-in_err-parts_of-clause-value : goal.returns-in_err-parts_of-clause-value
returns-in_err-parts_of-clause-value c =
    let operands = map (text_of c.args.bytes.now) c.args.operands.now in
    let many : 8 < length operands = omega (arith, length-map c.args.operands.now (text_of c.args.bytes.now), c.in_err-parts_of.ensures.many) in
    rw (c.from_residual.ensures, many-read c.args.slots.now operands c.requires.table many) refl

pub read_slots-requires-clause-within : goal.read_slots-requires-clause-within
read_slots-requires-clause-within c =
    AreWithin-spans c.args.bytes.now c.in_ok-parts_of.field-0.items c.args.operands.now c.in_ok-parts_of.ensures.spans c.requires.within

pub returns-clause-found : goal.returns-clause-found
returns-clause-found c =
    let texts = part_texts-spans c.args.bytes.now c.in_ok-parts_of.field-0.items c.args.operands.now c.in_ok-parts_of.ensures.spans in
    let operands = map (text_of c.args.bytes.now) c.args.operands.now in
    read-found (λ values. values.items) c.args.slots.now operands c.read_slots.result
    (c.read_slots.ensures ∙ ap (read_slots c.args.slots.now) texts)

pub returns-clause-fit : goal.returns-clause-fit
returns-clause-fit c =
    let texts = part_texts-spans c.args.bytes.now c.in_ok-parts_of.field-0.items c.args.operands.now c.in_ok-parts_of.ensures.spans in
    let operands = map (text_of c.args.bytes.now) c.args.operands.now in
    read-fits (λ values. values.items) c.args.slots.now operands c.read_slots.result c.requires.table
    (c.read_slots.ensures ∙ ap (read_slots c.args.slots.now) texts)

pub returns-clause-only : goal.returns-clause-only
returns-clause-only c =
    let texts = part_texts-spans c.args.bytes.now c.in_ok-parts_of.field-0.items c.args.operands.now c.in_ok-parts_of.ensures.spans in
    let operands = map (text_of c.args.bytes.now) c.args.operands.now in
    read-only (λ values. values.items) c.args.slots.now operands c.read_slots.result c.requires.table
    (c.read_slots.ensures ∙ ap (read_slots c.args.slots.now) texts)

pub returns-clause-value : goal.returns-clause-value
returns-clause-value c =
    let texts = part_texts-spans c.args.bytes.now c.in_ok-parts_of.field-0.items c.args.operands.now c.in_ok-parts_of.ensures.spans in
    c.read_slots.ensures ∙ ap (read_slots c.args.slots.now) texts
