use Rattle.std.proofs.Common.{subst}
use Rattle.rtm_model.specs.Advance.{world}
use Rattle.rtm_system_world.specs.Shape.{IsShaped}
use Rattle.rtm_system.specs.View.{SystemView}
use Rattle.rtm_system.proofs.Standing.{shape_at}
use Rattle.rtm_system.proofs.system.System.is_shaped.Goals as goal

pub returns : goal.returns
returns c =
    subst (λ (v : SystemView). IsShaped v.deck (world v.deck v.trace)) c.self.view_is
    (shape_at c.self.inside.deck _ c.self.inside.trace.items _ _ c.keeps_its_form.ensures.well_formed c.self.invariant)
