use Rattle.std.proofs.lemmas.Result.{on_ok_weaker}
use Rattle.rtm_deck_load.proofs.Written.{round_written}
use Rattle.rtm_deck_load.proofs.text.push_round.Goals as goal

pub returns : goal.returns
returns c = on_ok_weaker c.push_numbered_card-2.result (round_written c.args.round c.args.out.now.items _ _ _ c.in_ok-push_numbered_card.ensures c.in_ok-push_card.ensures) c.push_numbered_card-2.ensures
