use Rattle.std.proofs.Common.{arith, ap, sym, ◌∙◌, ◌≡◌, false, reverse}
use Rattle.rtm_model.specs.Tasks.{is_posted}
use Rattle.rtm_tasks.proofs.Distinct.{MayJoin, may_join}
use Rattle.rtm_tasks.proofs.Told.{tells_joined}
use Rattle.rtm_tasks.proofs.events.Events.post.Goals as goal

pub push_reserved-requires : goal.push_reserved-requires
push_reserved-requires c =
    let absent : is_posted c.args.event (reverse c.self.inside.list.items) ≡ false = ap (is_posted c.args.event) c.self.view_is ∙ sym c.is_posted.ensures ∙ c.if-is_posted.false in
    let may : MayJoin c.args.event c.self.inside.list.items = may_join c.args.event c.self.inside.list.items (omega arith) c.self.invariant.0 absent in
    omega (arith, may.room, c.self.invariant.1)

pub invariant_of-self : goal.invariant_of-self
invariant_of-self c =
    let absent : is_posted c.args.event (reverse c.self.inside.list.items) ≡ false = ap (is_posted c.args.event) c.self.view_is ∙ sym c.is_posted.ensures ∙ c.if-is_posted.false in
    let may : MayJoin c.args.event c.self.inside.list.items = may_join c.args.event c.self.inside.list.items (omega arith) c.self.invariant.0 absent in (
      rw c.push_reserved.ensures.items may.joined,
      omega (arith, c.push_reserved.ensures.capacity, c.self.invariant.1),
      tells_joined c.self.inside.posted.items c.self.inside.list.items c.push_reserved.new.self.items c.args.event (omega (arith, c.ranges.event.fits)) c.push_reserved.ensures.items c.self.invariant.2,
    )
