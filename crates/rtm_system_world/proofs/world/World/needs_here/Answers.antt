use Rattle.std.proofs.Common.{◌∙◌, ap}
use Rattle.rtm_system_world.specs.Needs.{needs_of_card}
use Rattle.rtm_system_world.proofs.world.World.needs_here.Goals as goal

pub returns-in-None : goal.returns-in-None
returns-in-None c = c.needs_behind_the_last.ensures c.args.deck.now ∙ ap (needs_of_card c.args.deck.now c.args.self.now c.args.unit) c.in-None.ensures
