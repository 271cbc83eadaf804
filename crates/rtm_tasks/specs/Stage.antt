-- What a unit's stage says of its life.
use Rattle.rtm_model.specs.Tasks.{Life, Dormant, Lives, HasEnded}
use Rattle.rtm_tasks.specs.declared.unit_life.Stage.{Stage}
use Rattle.rtm_tasks.specs.declared.unit_life.Stage.TheVariants.{Unborn, Alive, Gone}

-- the life at that stage
abbrev pub life_at : Stage → Life
life_at Unborn = Dormant
life_at (Alive mother) = Lives mother
life_at (Gone mother) = HasEnded mother
