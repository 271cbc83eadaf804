use Rattle.std.proofs.lemmas.Result.{on_ok_weaker}
use Rattle.rtm_deck_load.proofs.Written.{routine_written}
use Rattle.rtm_deck_load.proofs.text.push_routine.Goals as goal

pub returns : goal.returns
returns c = on_ok_weaker c.push_card.result (routine_written c.args.routine c.args.out.now.items _ _ _ c.in_ok-push_numbered_card.ensures c.in_ok-push_numbered_card-2.ensures) c.push_card.ensures
