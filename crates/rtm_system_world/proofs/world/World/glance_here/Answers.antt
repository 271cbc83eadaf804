use Rattle.rtm_system_world.proofs.Seeing.{seen_here}
use Rattle.rtm_system_world.proofs.world.World.glance_here.Goals as goal

pub returns-clause-seen : goal.returns-clause-seen
returns-clause-seen c = seen_here c.args.deck.now c.args.self.now c.args.unit c.args.state.now _ c.requires.state c.requires.normal c.glance_by_card.ensures
