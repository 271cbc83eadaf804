use Rattle.std.proofs.Common.{◌≤◌, length, subst}
use Rattle.rtm_model.specs.declared.entry.Entry.{Entry}
use Rattle.rtm_system.specs.Turned.{IsNext}
use Rattle.rtm_system.specs.View.{SystemView}
use Rattle.rtm_system.proofs.Standing.{next_in_deck}
use Rattle.rtm_system.proofs.system.System.is_in_deck.Goals as goal

pub returns : goal.returns
returns c =
    subst (λ (v : SystemView). (e : Entry) → IsNext v.deck v.trace e → e.unit ≤ length v.deck.units) c.self.view_is
    (λ e next. next_in_deck c.self.inside.deck c.self.inside.trace.items e c.keeps_its_form.ensures.well_formed c.self.invariant.legal next)
