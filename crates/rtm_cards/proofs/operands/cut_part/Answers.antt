use Rattle.std.proofs.Common.{◌≡◌, ◌+◌, ◌<◌, ◌≤◌, ◌∙◌, [], length, sym, arith, rules}
use Rattle.rtm_cards.specs.Span.{text_of}
use Rattle.rtm_cards.proofs.Spans.{part_rest, text_length, text_empty}
use Rattle.rtm_cards.proofs.Parts.{last_part, first_part}
use Rattle.rtm_cards.proofs.operands.cut_part.Goals as goal

pub returns-then-is_empty-clause-parts : goal.returns-then-is_empty-clause-parts
returns-then-is_empty-clause-parts c =
    let bytes = c.args.bytes.now in
    let none : text_of bytes c.cut_at.result.1 ≡ [] = text_empty bytes c.cut_at.result.1 (search rules) in
    last_part (text_of bytes c.args.rest) _ c.cut_at.ensures.first (sym c.cut_at.ensures.second ∙ none)

pub returns-clause-parts : goal.returns-clause-parts
returns-clause-parts c =
    let bytes = c.args.bytes.now in
    let behind = c.cut_at.result.1 in
    let more : behind.from + 1 ≤ behind.to = search rules in
    let some : 0 < length (text_of bytes behind) = omega (arith, text_length bytes behind c.cut_at.ensures.second_within) in
    first_part (text_of bytes c.args.rest) _ (text_of bytes behind) _ some c.cut_at.ensures.first c.cut_at.ensures.second
    (part_rest bytes behind.from behind.to 1 more)
