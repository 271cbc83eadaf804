use Rattle.rtm_board.proofs.Opening.{few_commands, targets_of_units}
use Rattle.rtm_board.proofs.board.Board.make.Goals as goal

pub board_with_seats-requires-clause-few : goal.board_with_seats-requires-clause-few
board_with_seats-requires-clause-few c = rw c.in_ok-targets.ensures (few_commands c.args.deck.now c.keeps_its_form.ensures.well_formed)

pub board_with_seats-requires-clause-units : goal.board_with_seats-requires-clause-units
board_with_seats-requires-clause-units c =
    rw (c.in_ok-targets.ensures, c.unit_count.ensures.count) (targets_of_units c.args.deck.now c.keeps_its_form.ensures.well_formed)
