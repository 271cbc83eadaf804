-- How many living subtasks each unit has.
use Rattle.std.specs.Prelude.{◌≡◌, ℕ, List, slice_index}
use Rattle.std.specs.List.{count_by}
use Rattle.rtm_model.specs.Tasks.{Life, is_subtask_of}

-- the counts are those of the living subtasks, for each unit, and of no other number
pub record AreCounts (counts : List ℕ) (lives : List Life) : Type 0 where
  pub each : (unit : ℕ) → slice_index counts unit ≡ count_by (is_subtask_of unit) lives
