use Rattle.std.proofs.Common.{sym, subst}
use Rattle.rtm_model.specs.World.{World}
use Rattle.rtm_system_world.specs.Beyond.{CanDoBeyond}
use Rattle.rtm_system_world.proofs.Applying.{beyond_can, own_can, own_there}
use Rattle.rtm_system_world.proofs.world.World.apply.Goals as goal

pub change_own-requires-clause-in_range : goal.change_own-requires-clause-in_range
change_own-requires-clause-in_range c = own_there c.args.deck.now c.args.index c.args.self.now c.args.entry.now c.keeps_its_form.ensures.well_formed c.requires.follows

pub change_own-requires-clause-can : goal.change_own-requires-clause-can
change_own-requires-clause-can c = own_can c.args.deck.now c.args.index c.args.self.now c.args.entry.now c.keeps_its_form.ensures.well_formed c.requires.follows

pub go_beyond-requires-clause-can : goal.go_beyond-requires-clause-can
go_beyond-requires-clause-can c =
    subst (λ (w : World). CanDoBeyond c.args.deck.now c.args.index w c.args.entry.now.unit c.args.entry.now.what) (sym c.change_own.ensures)
    (beyond_can c.args.deck.now c.args.index c.args.self.now c.args.entry.now c.keeps_its_form.ensures.well_formed c.requires.follows)
