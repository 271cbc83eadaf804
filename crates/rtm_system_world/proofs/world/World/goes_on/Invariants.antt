use Rattle.std.proofs.Common.{◌≡◌, false}
use Rattle.rtm_model.specs.Arrivals.{goes_on_below}
use Rattle.rtm_system_world.proofs.world.World.goes_on.Given as goal

abbrev pub invariant-loop-unit : goal.invariant-loop-unit
invariant-loop-unit l = goes_on_below l.deck l.self l.unit ≡ false
