use Rattle.std.proofs.Common.{◌≡◌, ◌≤◌, length, drop}
use Rattle.rtm_board.specs.View.{commands_for}
use Rattle.rtm_board.proofs.bits.commands_for.Given as goal

abbrev pub invariant-commands : goal.invariant-commands
invariant-commands l = (l.left ≤ length l.targets) × (l.set ≡ commands_for l.unit (drop l.left l.targets))

abbrev pub decreases-commands : goal.decreases-commands
decreases-commands l = l.left
