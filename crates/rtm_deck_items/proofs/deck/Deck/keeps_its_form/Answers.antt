use Rattle.std.proofs.Common.{subst}
use Rattle.rtm_deck_items.specs.Spelling.{IsSpelled}
use Rattle.rtm_deck_items.proofs.FormFacts.{well_formed}
use Rattle.rtm_deck_items.proofs.deck.Deck.keeps_its_form.Goals as goal

pub returns-clause-spelled : goal.returns-clause-spelled
returns-clause-spelled c = subst (λ d. IsSpelled d) c.self.view_is c.self.invariant

pub returns-clause-well_formed : goal.returns-clause-well_formed
returns-clause-well_formed c = well_formed _ (subst (λ d. IsSpelled d) c.self.view_is c.self.invariant)
