use Rattle.std.proofs.Common.{◌≡◌, ◌+◌}
use Rattle.std.specs.Prelude.{replicate, vec_capacity}
use Rattle.rtm_model.specs.World.{unborn_unit}
use Rattle.rtm_system_world.proofs.world.units_at_start.Given as goal

abbrev pub invariant-loop-made : goal.invariant-loop-made
invariant-loop-made l = (l.units.items ≡ replicate l._made unborn_unit) × (vec_capacity l.units ≡ l.count + 1)
