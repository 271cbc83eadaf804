use Rattle.rtm_ending.proofs.Births.{kept_nothing}
use Rattle.rtm_ending.proofs.holds.Holds.of_units.Goals as goal

pub invariant_of-result : goal.invariant_of-result
invariant_of-result c = rw c.in_ok-owners.ensures (kept_nothing c.args.units)
