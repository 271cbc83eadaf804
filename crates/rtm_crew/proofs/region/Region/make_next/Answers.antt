use Rattle.rtm_crew.proofs.Regions.{are_told, room_for_one}
use Rattle.rtm_crew.proofs.region.Region.make_next.Goals as goal

pub tell-requires : goal.tell-requires
tell-requires g c = record {
  room = room_for_one c.self.inside.system c.make_next.new.self c.args.entry c.make_next.ensures.deck c.make_next.ensures.trace c.trace.ensures.legal c.self.inside.desks c.self.invariant;
}

pub invariant_of-self : goal.invariant_of-self
invariant_of-self g c =
    are_told c.self.inside.system c.make_next.new.self c.args.entry c.make_next.ensures.deck c.make_next.ensures.trace c.trace.ensures.legal c.self.inside.desks c.tell.new.desks c.self.invariant c.tell.ensures.told c.tell.ensures.room
