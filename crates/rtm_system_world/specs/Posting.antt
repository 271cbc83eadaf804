-- An abort that is posted to the subtasks of a task, unit by unit.
use Rattle.std.specs.Prelude.{List, if◌then◌else◌, is_some, take, ℕ}
use Rattle.rtm_model.specs.declared.abort.Abort.{Abort}
use Rattle.rtm_model.specs.Posts.{post_to_subtasks, with_posted}
use Rattle.rtm_model.specs.Tasks.{Life, is_subtask_of}
use Rattle.rtm_model.specs.World.{Core, UnitOfWork}

-- one unit, by its life
abbrev pub post_if_subtask : ℕ → Abort → Life → UnitOfWork → UnitOfWork
post_if_subtask u abort life unit = if is_subtask_of u life then with_posted (is_some (Core.begun unit.core)) abort unit else unit

-- the units below i have it
abbrev pub post_below : ℕ → Abort → List Life → List UnitOfWork → ℕ → List UnitOfWork
post_below u abort lives units i = post_to_subtasks u abort (take i lives) units
