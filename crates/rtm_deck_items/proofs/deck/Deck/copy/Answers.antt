use Rattle.std.proofs.Common.{◌∙◌}
use Rattle.rtm_deck_items.proofs.FormFacts.{same_spelled}
use Rattle.rtm_deck_items.proofs.deck.Deck.copy.Goals as goal

pub invariant_of-result : goal.invariant_of-result
invariant_of-result c =
    same_spelled _ _ _ _ _ _ _ _
    (c.in_ok-programs.ensures ∙ c.deref.ensures.value)
    (c.in_ok-units.ensures ∙ c.deref-2.ensures.value)
    (c.in_ok-commands.ensures ∙ c.deref-3.ensures.value)
    c.self.invariant
