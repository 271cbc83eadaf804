-- What contracts see of a region, and what it keeps.
use Rattle.std.specs.Prelude.{length, ◌-◌, ◌≡◌}
use Rattle.rtm_desk.specs.Told.{DesksView, HasRoom, told_by}
use Rattle.rtm_system.specs.View.{SystemView}

-- a system that runs, and the managers at their desks
pub record RegionView : Type 0 where
  pub system : SystemView
  pub desks : DesksView

-- The managers were told of the releases of the trace, and can be told of as many more as entries may follow.
pub record AreTold (system : SystemView) (desks : DesksView) : Type 0 where
  pub told : desks.told ≡ told_by system.trace
  pub room : HasRoom (system.deck.limit - length system.trace) desks
