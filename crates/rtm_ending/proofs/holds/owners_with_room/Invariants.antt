use Rattle.std.proofs.Common.{◌≡◌, ◌≤◌, replicate, vec_capacity}
use Rattle.rtm_model.specs.Ending.{no_holdings}
use Rattle.rtm_ending.proofs.holds.owners_with_room.Given as goal

abbrev pub invariant-loop-made : goal.invariant-loop-made
invariant-loop-made l = (l.owners.items ≡ replicate l._made no_holdings) × (l.count ≤ vec_capacity l.owners)
