use Rattle.std.proofs.Common.{ap, ◌∙◌}
use Rattle.rtm_top.specs.Request.{words_of}
use Rattle.rtm_top_words.proofs.OfRun.{run_answers, run_is_no_load, run_is_not_unknown}
use Rattle.rtm_top_words.proofs.words.rtm_words.Goals as goal

pub returns-in-Some-Run-clause-words : goal.returns-in-Some-Run-clause-words
returns-in-Some-Run-clause-words g c =
    run_is_not_unknown c.args.words.now c.run_words-status.result.0 (c.in-Some-Run.ensures.1 ∙ ap words_of c.in-Some-Run.field-0-is) c.run_words-status.ensures.known

pub returns-in-Some-Run-clause-load : goal.returns-in-Some-Run-clause-load
returns-in-Some-Run-clause-load g c = λ tasks is_load others.
    run_is_no_load c.args.words.now tasks (c.in-Some-Run.ensures.1 ∙ ap words_of c.in-Some-Run.field-0-is) is_load others

pub returns-in-Some-Run-clause-answer : goal.returns-in-Some-Run-clause-answer
returns-in-Some-Run-clause-answer g c =
    run_answers c.args.words.now _ c.run_words-status.result.0 (c.in-Some-Run.ensures.1 ∙ ap words_of c.in-Some-Run.field-0-is) c.run_words-status.ensures.answer
