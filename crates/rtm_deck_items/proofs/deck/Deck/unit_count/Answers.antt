use Rattle.std.proofs.Common.{arith}
use Rattle.rtm_deck_items.proofs.FormFacts.{few_units}
use Rattle.rtm_deck_items.proofs.deck.Deck.unit_count.Goals as goal

pub overflow_cast-result : goal.overflow_cast-result
overflow_cast-result c = omega (arith, few_units _ c.self.invariant, c.len.ensures)
