use Rattle.std.proofs.Common.{arith, subst}
use Rattle.std.specs.Prelude.{IsTrue}
use Rattle.rtm_deck_items.specs.View.{DeckView}
use Rattle.rtm_deck_items.specs.WellFormed.{is_well_formed}
use Rattle.rtm_deck_items.proofs.FormFacts.{Limits, limits}
use Rattle.rtm_system.proofs.Arrives.{arrival_in_deck}
use Rattle.rtm_system.proofs.system.System.make_next.Goals as goal

pub show-requires-clause-below : goal.show-requires-clause-below
show-requires-clause-below c =
    let d = c.args.self.now.deck in
    let formed = subst (λ (x : DeckView). IsTrue (is_well_formed x)) c.deck.ensures.value c.keeps_its_form.ensures.well_formed in
    omega (arith, arrival_in_deck d c.args.self.now.trace c.args.entry c.in-Arrive.cmd c.in-Arrive.fate c.in-Arrive.is c.requires.next, Limits.commands (limits d formed))
