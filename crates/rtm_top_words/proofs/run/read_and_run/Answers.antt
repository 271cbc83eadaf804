use Rattle.std.proofs.Common.{◌≡◌, ℕ, subst}
use Rattle.std.specs.Prelude.{IfOk}
use Rattle.rtm_deck_items.specs.declared.why.Why.TheVariants as whys
use Rattle.rtm_top.specs.declared.request.Request.TheVariants as requests
use Rattle.rtm_top.proofs.Saying.{unmade_by_memory}
use Rattle.rtm_top.proofs.TooLong.{counts_none, of_fault}
use Rattle.rtm_top_answers.specs.Refusal.{refusal}
use Rattle.rtm_top_words.proofs.run.read_and_run.Goals as goal

pub returns-in-Err-TooLong-clause-ok : goal.returns-in-Err-TooLong-clause-ok
returns-in-Err-TooLong-clause-ok g c =
    let is = subst (λ (n : ℕ). IfOk c.too_long_answer.result (λ a. a ≡ refusal n whys.TooLong)) c.in-Err-TooLong.line-is c.too_long_answer.ensures.ok in
    of_fault requests.Run _ _ _ _ _ c.in-Err-TooLong.line c.in-Err-TooLong.field-0 c.too_long_answer.result tt c.in-Err-TooLong.field-0-is c.in-Err-TooLong.ensures.fault c.requires is

pub returns-in-Err-Memory-clause-err : goal.returns-in-Err-Memory-clause-err
returns-in-Err-Memory-clause-err g c =
    unmade_by_memory requests.Run _ _ _ _ c.requires
    (counts_none _ _ _ _ c.in-Err-Memory.field-0 c.in-Err-Memory.field-0-is c.in-Err-Memory.ensures.fault)
