use Rattle.std.proofs.Common.{sym, ◌∙◌}
use Rattle.rtm_top.proofs.Complete.{is_complete}
use Rattle.rtm_top.proofs.Saying.{says_same, takes_none}
use Rattle.rtm_top.proofs.Words.{words_same}
use Rattle.rtm_top.proofs.top.plain_words.Goals as goal

pub returns-in-Some-clause-answer : goal.returns-in-Some-clause-answer
returns-in-Some-clause-answer g c = λ request is_request words.
    let says = says_same c.in-Some.request request _ c.done-status.result.0
    (words_same c.in-Some.request request c.in-Some.ensures.0 is_request (sym c.in-Some.ensures.1 ∙ words)) c.done-status.ensures.answer in
    (says, is_complete request _ c.done-status.result.0 says)

pub returns-in-None-clause-front : goal.returns-in-None-clause-front
returns-in-None-clause-front g c = takes_none 16777217 _
