use Rattle.rtm_tasks.proofs.Counting.{at_start}
use Rattle.rtm_tasks.proofs.task_tree.TaskTree.of_units.Goals as goal

pub invariant_of-result : goal.invariant_of-result
invariant_of-result c = rw (c.in_ok-no_subtasks.ensures, c.set_life.ensures, c.in_ok-lives.ensures, c.at_birth.ensures) (at_start c.args.units.now c.args.first)
