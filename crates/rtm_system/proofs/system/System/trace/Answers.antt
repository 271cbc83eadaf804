use Rattle.std.proofs.Common.{subst}
use Rattle.std.specs.List.{AllByRecursion}
use Rattle.rtm_model.specs.Fits.{Fits}
use Rattle.rtm_law_sound.proofs.Fitting.{all_fit}
use Rattle.rtm_system.specs.View.{SystemView}
use Rattle.rtm_system.proofs.system.System.trace.Goals as goal

pub returns-clause-fits : goal.returns-clause-fits
returns-clause-fits c =
    subst (λ (v : SystemView). AllByRecursion (Fits v.deck) v.trace) c.self.view_is
    (all_fit c.self.inside.deck c.self.inside.trace.items c.keeps_its_form.ensures.well_formed c.self.invariant.legal)
