use Rattle.std.proofs.Common.{◌≡◌, ℕ, ◌<◌, length, ap, Some, List, ◌∙◌, arith}
use Rattle.rtm_deck_operands.specs.declared.part.Part.{Part}
use Rattle.rtm_deck_operands.specs.Name.{trimmed_text}
use Rattle.rtm_deck_operands.specs.inner.Part.{part_texts}
use Rattle.rtm_deck_operands.specs.inner.Reading.{place_of}
use Rattle.rtm_deck_operands.proofs.Loops.{taken_there}
use Rattle.rtm_deck_operands.proofs.read.take_operand.Goals as goal

pub returns-in-Some-clause-value : goal.returns-in-Some-clause-value
returns-in-Some-clause-value c =
    let old = c.args.left.now.items in
    let same = c.as_slice.ensures.value in
    let there : c.in-Some.i < length old = rw same at c.in-Some.ensures.there in
    let key : c.trimmed_text.result.now ≡ trimmed_text c.args.slot.now.key = c.trimmed_text.ensures in
    let place : Some c.in-Some.i ≡ place_of (trimmed_text c.args.slot.now.key) (part_texts c.args.bytes.now old) =
    c.in-Some.ensures.place ∙ ap (λ (k : List ℕ). place_of k (part_texts c.args.bytes.now c.as_slice.result.now)) key
    ∙ ap (λ (parts : List Part). place_of (trimmed_text c.args.slot.now.key) (part_texts c.args.bytes.now parts)) same in
    taken_there c.args.slot.now c.args.bytes.now old c.remove-operand.new.self.items c.remove-operand.result c.text.result.now
    c.in-Some.i c.operand_value.result c.given_value.result there c.remove-operand.ensures.value c.remove-operand.ensures.items
    c.text.ensures c.operand_value.ensures c.given_value.ensures place
