use Rattle.std.proofs.Common.{◌∙◌}
use Rattle.rtm_desk.proofs.desks.reserve_each.Goals as goal

pub places-preserved : goal.places-preserved
places-preserved g c = record {
  count = c.reserve_at.ensures.count ∙ c.places.invariant.count;
  class = c.reserve_at.ensures.class ∙ c.places.invariant.class;
  told = c.reserve_at.ensures.told ∙ c.places.invariant.told;
  kept = λ least all. c.reserve_at.ensures.kept least (c.places.invariant.kept least all);
  room = c.in-Ok.ensures.room c.places.invariant.room;
}

pub returns-in-Err-clause-kept : goal.returns-in-Err-clause-kept
returns-in-Err-clause-kept g c = λ least all. c.reserve_at.ensures.kept least (c.places.invariant.kept least all)
