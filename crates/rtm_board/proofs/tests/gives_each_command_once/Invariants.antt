use Rattle.std.proofs.Common.{◌≡◌, length}
use Rattle.rtm_board.specs.View.{AreAccountedFor}
use Rattle.rtm_board.proofs.tests.gives_each_command_once.Given as goal

abbrev pub invariant-loop-index : goal.invariant-loop-index
invariant-loop-index g l = (l.console.targets ≡ l.board.targets) × (length l.board.targets ≡ 4) × AreAccountedFor l.board l.console l.seats.items
