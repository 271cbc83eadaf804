use Rattle.std.proofs.lemmas.Result.{on_ok_weaker}
use Rattle.rtm_deck_load.proofs.Written.{main_written}
use Rattle.rtm_deck_load.proofs.text.push_main.Goals as goal

pub returns : goal.returns
returns c = on_ok_weaker c.push_card-3.result (main_written c.args.tasks c.args.out.now.items _ _ _ _ _ c.in_ok-push_card.ensures c.in_ok-push_card-2.ensures c.in_ok-push_numbered_cards.ensures c.in_ok-push_numbered_cards-2.ensures) c.push_card-3.ensures
