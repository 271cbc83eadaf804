use Rattle.std.proofs.Common.{◌≡◌, ◌<◌, ◌∙◌, [], length, drop, sym, ap, arith, rules}
use Rattle.rtm_cards.specs.Span.{text_of}
use Rattle.rtm_cards.proofs.Spans.{part_rest, text_length, text_empty}
use Rattle.rtm_cards.proofs.FirstLine.{first_of}
use Rattle.rtm_cards.proofs.lines.cut_line.Goals as goal

pub returns-then-is_empty-clause-lines : goal.returns-then-is_empty-clause-lines
returns-then-is_empty-clause-lines c =
    let bytes = c.args.bytes.now in
    let whole = text_of bytes c.args.rest in
    let some : 0 < length whole = omega (arith, text_length bytes c.args.rest c.requires.within) in
    let none : text_of bytes c.cut_at.result.1 ≡ [] = text_empty bytes c.cut_at.result.1 (search rules) in
    first_of whole _ _ some c.cut_at.ensures.first (none ∙ ap (drop 1) (sym none ∙ c.cut_at.ensures.second))

pub returns-clause-lines : goal.returns-clause-lines
returns-clause-lines c =
    let bytes = c.args.bytes.now in
    let whole = text_of bytes c.args.rest in
    let behind = c.cut_at.result.1 in
    let some : 0 < length whole = omega (arith, text_length bytes c.args.rest c.requires.within) in
    first_of whole _ _ some c.cut_at.ensures.first
    (part_rest bytes behind.from behind.to 1 (search rules) ∙ ap (drop 1) c.cut_at.ensures.second)
