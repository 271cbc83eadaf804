use Rattle.std.proofs.Common.{◌+◌, sym, subst, arith}
use Rattle.rtm_model.specs.Ending.{AreHeldBefore}
use Rattle.rtm_ending.specs.View.{HoldsView}
use Rattle.rtm_ending.proofs.Before.{held_before_next, freed_before, later_before}
use Rattle.rtm_ending.proofs.tests.hold_step.Goals as goal

pub returns-else-owner-units-clause-newest : goal.returns-else-owner-units-clause-newest
returns-else-owner-units-clause-newest c =
    held_before_next c.get.result _ c.args.holds.now c.get.new.self c.get.ensures.ok c.get.ensures.err c.requires.newest

pub returns-in-Free-clause-newest : goal.returns-in-Free-clause-newest
returns-in-Free-clause-newest c =
    let n = c.args.index in
    let old = c.args.holds.now in
    let before : AreHeldBefore (n + 1) old.owners = later_before n (n + 1) old.owners (omega arith) c.requires.newest in
    subst (λ (v : HoldsView). AreHeldBefore (n + 1) v.owners) (sym c.free.ensures.holds) (freed_before (n + 1) c.in-Free.unit c.in-Free.class c.in-Free.id old.owners before)
