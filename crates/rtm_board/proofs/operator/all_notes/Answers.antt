use Rattle.rtm_board.proofs.Posting.{all_stand}
use Rattle.rtm_board.proofs.operator.all_notes.Goals as goal

pub returns : goal.returns
returns c =
    let opening = c.in_ok-board.ensures in
    all_stand c.args.deck.now c.in_ok-board.board c.in_ok-board.console c.post_all.new.console c.in_ok-board.seats.items c.close.result c.command_count.result
    opening c.post_all.ensures.posted c.command_count.ensures (c.close.ensures.posted (c.post_all.ensures.accounts c.in_ok-board.seats.items opening.accounted))
