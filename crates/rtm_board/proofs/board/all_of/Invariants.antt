use Rattle.std.proofs.Common.{◌≡◌, ◌≤◌, length, drop}
use Rattle.rtm_board.specs.View.{all_of}
use Rattle.rtm_board.proofs.board.all_of.Given as goal

abbrev pub invariant-words : goal.invariant-words
invariant-words l = (l.left ≤ length l.words) × (l.all ≡ all_of (drop l.left l.words))

abbrev pub decreases-words : goal.decreases-words
decreases-words l = l.left
