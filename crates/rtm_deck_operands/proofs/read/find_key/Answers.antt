use Rattle.std.proofs.Common.{◌≡◌, List, ℕ, Bool, true, false, sym, ap, ◌∙◌, get_or}
use Rattle.rtm_cards.specs.Span.{text_of}
use Rattle.rtm_deck_operands.specs.declared.part.Part.{Part}
use Rattle.rtm_deck_operands.specs.inner.Part.{span_of}
use Rattle.rtm_deck_operands.specs.inner.Reading.{has_key}
use Rattle.rtm_deck_operands.proofs.Loops.{position_found, position_missed, position_end}
use Rattle.rtm_deck_operands.proofs.read.find_key.Goals as goal

pub returns-then-has_key-clause-place : goal.returns-then-has_key-clause-place
returns-then-has_key-clause-place c =
    let first : Part = record { from = 0; to = 0 } in
    let f : Part → List ℕ = λ part. text_of c.args.bytes.now (span_of part) in
    let passes = ap (has_key c.args.key.now) (sym c.text.ensures) ∙ (sym c.has_key.ensures ∙ c.if-has_key.true) in
    sym (position_found f (has_key c.args.key.now) c.args.operands.now c.loop-i.i first c.loop-i-test.true passes) ∙ c.loop-i.invariant

pub loop-i-preserved : goal.loop-i-preserved
loop-i-preserved c =
    let first : Part = record { from = 0; to = 0 } in
    let f : Part → List ℕ = λ part. text_of c.args.bytes.now (span_of part) in
    let misses = ap (has_key c.args.key.now) (sym c.text.ensures) ∙ (sym c.has_key.ensures ∙ c.if-has_key.false) in
    sym (position_missed f (has_key c.args.key.now) c.args.operands.now c.loop-i.i first c.loop-i-test.true misses) ∙ c.loop-i.invariant

pub returns-clause-place : goal.returns-clause-place
returns-clause-place c =
    let f : Part → List ℕ = λ part. text_of c.args.bytes.now (span_of part) in
    sym (position_end f (has_key c.args.key.now) c.args.operands.now c.loop-i.i c.loop-i-test.false) ∙ c.loop-i.invariant
