use Rattle.std.proofs.Common.{sym, append-nil}
use Rattle.rtm_deck_load.specs.Text.{round_cards}
use Rattle.rtm_deck_load.proofs.Written.{appended, group_more, none}
use Rattle.rtm_deck_load.proofs.text.push_rounds.Goals as goal

pub loop-done-init : goal.loop-done-init
loop-done-init c = rw none (sym (append-nil _))

pub loop-done-preserved : goal.loop-done-preserved
loop-done-preserved c =
    appended _ _ _ _ _ _ c.loop-done.invariant c.in_ok-push_round.ensures (group_more round_cards c.loop-done.done)
