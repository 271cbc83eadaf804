use Rattle.std.proofs.lemmas.Result.{on_ok_weaker}
use Rattle.rtm_deck_load.proofs.Written.{units_written}
use Rattle.rtm_deck_load.proofs.text.push_units.Goals as goal

pub returns : goal.returns
returns c = on_ok_weaker c.push_numbered_cards.result (units_written c.args.tasks c.args.out.now.items _ _ c.in_ok-push_card.ensures) c.push_numbered_cards.ensures
