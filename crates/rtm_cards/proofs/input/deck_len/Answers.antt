use Rattle.std.proofs.Common.{◌≡◌, ◌+◌, ◌≤◌, List, ℕ, drop, length, min, take, true, false, refl, sym, ap, ◌∙◌, arith}
use Rattle.rtm_cards.specs.Split.{deck_part, trace_part}
use Rattle.rtm_cards.proofs.DeckParts.{IsLine, ends_here, goes_on, left, taken}
use Rattle.rtm_cards.proofs.input.deck_len.Goals as goal

-- the line that this one cut off
line_at_min : (c : goal.After-min) → IsLine c.args.bytes.now c.split_at.result.1.now c.split_at-in-lines.result.0.now c.lines.at c.find-len.result
line_at_min c = record {
  below = c.lines-test.true;
  starts = c.split_at.ensures.back;
  within = c.find-len.ensures.within;
  front = c.find-len.ensures.front;
  behind = c.find-len.ensures.rest;
  line_is = c.split_at-in-lines.ensures.front;
}

line_at_else : (c : goal.Else-ends_deck) → IsLine c.args.bytes.now c.split_at.result.1.now c.split_at-in-lines.result.0.now c.lines.at c.find-len.result
line_at_else c = record {
  below = c.lines-test.true;
  starts = c.split_at.ensures.back;
  within = c.find-len.ensures.within;
  front = c.find-len.ensures.front;
  behind = c.find-len.ensures.rest;
  line_is = c.split_at-in-lines.ensures.front;
}

pub returns-then-ends_deck-clause-front : goal.returns-then-ends_deck-clause-front
returns-then-ends_deck-clause-front c =
    ap (λ (n : ℕ). take n c.args.bytes.now) c.min.ensures
    ∙ taken c.args.bytes.now (c.lines.at + c.find-len.result + 1)
    (ends_here c.args.bytes.now c.split_at.result.1.now c.split_at-in-lines.result.0.now c.lines.at c.find-len.result (line_at_min c) (sym c.ends_deck.ensures ∙ c.if-ends_deck.true) c.lines.invariant.front)

pub returns-then-ends_deck-clause-rest : goal.returns-then-ends_deck-clause-rest
returns-then-ends_deck-clause-rest c =
    ap (λ (n : ℕ). drop n c.args.bytes.now) c.min.ensures
    ∙ left c.args.bytes.now (c.lines.at + c.find-len.result + 1)
    (ends_here c.args.bytes.now c.split_at.result.1.now c.split_at-in-lines.result.0.now c.lines.at c.find-len.result (line_at_min c) (sym c.ends_deck.ensures ∙ c.if-ends_deck.true) c.lines.invariant.front)

pub lines-preserved : goal.lines-preserved
lines-preserved c = record {
  front = goes_on c.args.bytes.now c.split_at.result.1.now c.split_at-in-lines.result.0.now c.lines.at c.find-len.result (line_at_else c) (sym c.ends_deck.ensures ∙ c.if-ends_deck.false) c.lines.invariant.front;
  within = omega (arith, c.lines-test.true, c.find-len.ensures.within, c.split_at.ensures.back_len);
}
