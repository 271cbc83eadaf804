use Rattle.std.proofs.Common.{rules}
use Rattle.rtm_cards.proofs.CutTo.{NextLine, all_lines, no_fault, first_fault, step}
use Rattle.rtm_cards.proofs.cut.cut_lines.Goals as goal

pub returns-clause-lines : goal.returns-clause-lines
returns-clause-lines c = all_lines _ _ _ _ c.cards.invariant (search rules)

pub returns-clause-fault : goal.returns-clause-fault
returns-clause-fault c = no_fault _ _ _ _ c.cards.invariant (search rules) c.requires

pub returns-in-Some-clause-fault : goal.returns-in-Some-clause-fault
returns-in-Some-clause-fault c =
    let next : NextLine c.args.bytes.now c.cards.rest c.cut_line.result.0 c.cut_line.result.1 = search rules in
    first_fault _ _ _ _ _ _ _ c.cards.invariant next c.requires cc

pub cards-preserved : goal.cards-preserved
cards-preserved c =
    let next : NextLine c.args.bytes.now c.cards.rest c.cut_line.result.0 c.cut_line.result.1 = search rules in
    step _ _ _ _ _ _ _ c.cards.invariant next (search rules) (cc) c.in_ok-put_card.ensures.text
    (c.in_ok-put_card.ensures.each c.cards.invariant.each)
