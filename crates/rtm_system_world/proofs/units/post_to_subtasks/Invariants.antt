use Rattle.std.proofs.Common.{◌≡◌}
use Rattle.rtm_model.specs.Tasks.{Tree}
use Rattle.rtm_system_world.specs.Posting.{post_below}
use Rattle.rtm_system_world.proofs.units.post_to_subtasks.Given as goal

abbrev pub invariant-loop-subtask : goal.invariant-loop-subtask
invariant-loop-subtask l = l.units.items ≡ post_below l.unit l.abort (Tree.lives l.tree) l.fn.units.items l.subtask
