use Rattle.std.proofs.Common.{◌≡◌, ◌<◌, ◌∙◌, length, ap, arith}
use Rattle.std.proofs.lemmas.List.{length-set}
use Rattle.rtm_board.specs.View.{BoardView, UnitView}
use Rattle.rtm_board.proofs.Keeping.{all_posted, all_taken_from, if_posted}
use Rattle.rtm_board.proofs.tests.board_step.Goals as goal

pub returns-else-cmd-ge4-clause-accounted : goal.returns-else-cmd-ge4-clause-accounted
returns-else-cmd-ge4-clause-accounted c =
    let size = (if_posted _ c.in-Post.cmd c.args.board.now c.post.new.self c.post.ensures.board).1 in
    all_posted c.args.board.now c.post.new.self c.args.console.now c.post.new.seat c.args.seats.now.items size c.post.ensures.accounted c.requires.accounted

pub returns-else-unit-len-clause-accounted : goal.returns-else-unit-len-clause-accounted
returns-else-unit-len-clause-accounted c =
    let old = c.args.board.now in
    let console = c.args.console.now in
    let seats = c.args.seats.now.items in
    let size : length c.take-notes.new.self.words ≡ length old.words = ap (λ (v : BoardView). length v.words) c.take-notes.ensures.board ∙ length-set old.words _ _ in
    let within : c.in-Take.unit < length seats = omega (arith, c.args.seats.now.ok.0) in
    all_taken_from old c.take-notes.new.self console seats c.in-Take.unit c.index_mut.result.now c.take-notes.new.seat size within c.index_mut.ensures.value (ap (λ (v : UnitView). v.unit) c.take-notes.ensures.seat) (c.take-notes.ensures.accounted console) (c.take-notes.ensures.others console) c.requires.accounted
