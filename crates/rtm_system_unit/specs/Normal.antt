-- A unit that goes on with its card (this profile).
use Rattle.std.specs.Prelude.{Bool, is_none, not, ◌&&◌}
use Rattle.rtm_model.specs.Aborts.{first_abort}
use Rattle.rtm_model.specs.Cards.{has_frr, in_manager}
use Rattle.rtm_model.specs.Levels.{error_here}
use Rattle.rtm_model.specs.World.{Core, UnitOfWork}

-- no error is open in its innermost bracket, it hasn't begun to end, and no abort is pending
abbrev pub runs_normally : UnitOfWork → Bool
runs_normally unit =
    not (error_here (Core.levels unit.core)) && is_none (Core.begun unit.core) && is_none (first_abort unit.pending)

-- in a task, WAIT and WAITT are no error of mode: no FRR lives, and no resource manager runs
abbrev pub may_wait : Core → Bool
may_wait c = not (has_frr c.frrs) && not (in_manager c.levels)
