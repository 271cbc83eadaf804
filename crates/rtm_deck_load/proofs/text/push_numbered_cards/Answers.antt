use Rattle.std.proofs.Common.{sym, append-nil}
use Rattle.rtm_deck_load.specs.Text.{numbered_card}
use Rattle.rtm_deck_load.proofs.Written.{appended, card_more, none}
use Rattle.rtm_deck_load.proofs.text.push_numbered_cards.Goals as goal

pub loop-done-init : goal.loop-done-init
loop-done-init c = rw none (sym (append-nil _))

pub loop-done-preserved : goal.loop-done-preserved
loop-done-preserved c =
    appended _ _ _ _ _ _ c.loop-done.invariant c.in_ok-push_numbered_card.ensures (card_more (numbered_card c.args.front.now c.args.back.now) c.loop-done.done)
