use Rattle.std.proofs.Common.{◌≡◌}
use Rattle.rtm_model.specs.Ending.{AreHeldBefore}
use Rattle.rtm_ending.proofs.tests.releases_by_class_and_then_the_newest.Given as goal

abbrev pub invariant-loop-index : goal.invariant-loop-index
invariant-loop-index g l = (l.units ≡ l.holds.units) × AreHeldBefore l.index l.holds.owners
