use Rattle.rtm_board.proofs.Posting.{accounts_kept}
use Rattle.rtm_board.proofs.operator.post.Goals as goal

pub returns-clause-accounts : goal.returns-clause-accounts
returns-clause-accounts c = λ seats all.
    accounts_kept c.args.cmd c.args.board.now c.post-posted.new.self c.args.console.now c.post-posted.new.seat seats c.post-posted.ensures.board c.post-posted.ensures.accounted all
