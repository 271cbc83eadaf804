use Rattle.std.proofs.Common.{◌≡◌, ◌<◌, ◌≤◌, ap, arith, length}
use Rattle.std.proofs.lemmas.List.{get_or_read, length-set}
use Rattle.rtm_model.specs.Ending.{no_holdings, held_count, holdings_of, AreHeldBefore}
use Rattle.rtm_ending.specs.View.{HoldsView}
use Rattle.rtm_ending.proofs.Births.{kept_got}
use Rattle.rtm_ending.proofs.holds.Holds.get.Goals as goal

pub put_in-requires-clause-room : goal.put_in-requires-clause-room
put_in-requires-clause-room c =
    let items = c.self.inside.owners.items in
    let units : c.self.inside.units ≡ c.args.self.now.units = ap (λ (v : HoldsView). v.units) c.self.view_is in
    let within : c.args.holding.owner < length items = omega (arith, c.self.invariant.all, c.requires.owner) in
    let same : c.index.result.now ≡ holdings_of c.args.holding.owner items = get_or_read items c.args.holding.owner c.index.result.now within c.index.ensures no_holdings in
    omega (arith, ap held_count same, c.count.ensures.value, c.count.ensures.most)

pub invariant_of-self : goal.invariant_of-self
invariant_of-self c =
    let items = c.self.inside.owners.items in
    let units : c.self.inside.units ≡ c.args.self.now.units = ap (λ (v : HoldsView). v.units) c.self.view_is in
    let within : c.args.holding.owner ≤ c.self.inside.units = omega (arith, c.requires.owner) in
    let before : AreHeldBefore c.args.holding.born items = rw (ap (λ (v : HoldsView). v.owners) c.self.view_is) c.requires.newest in
    rw c.put_in.ensures (kept_got c.self.inside.units c.args.holding items within before c.self.invariant (length-set items c.args.holding.owner _))
