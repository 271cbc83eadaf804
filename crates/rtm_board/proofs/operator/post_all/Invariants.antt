use Rattle.std.proofs.Common.{◌≡◌, ℕ, ◌<◌, ◌≤◌, List, length, true}
use Rattle.rtm_board.specs.Commands.{has}
use Rattle.rtm_board.specs.View.{AreAccountedFor, UnitView}
use Rattle.rtm_board.proofs.operator.post_all.Given as goal

abbrev pub invariant-commands : goal.invariant-commands
invariant-commands l = record {
  targets : l.console.targets ≡ l.board.targets;
  count : l.fn.count ≤ length l.board.targets;
  accounts : (seats : List UnitView) → AreAccountedFor l.fn.board l.fn.console seats → AreAccountedFor l.board l.console seats;
  posted : (cmd : ℕ) → cmd < l.cmd → has cmd l.console.posted ≡ true;
}
