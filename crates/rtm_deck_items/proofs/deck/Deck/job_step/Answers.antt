use Rattle.std.proofs.Common.{ap, length, arith}
use Rattle.rtm_deck_items.proofs.FormFacts.{few_units}
use Rattle.rtm_deck_items.proofs.deck.Deck.job_step.Goals as goal

pub overflow_cast-result : goal.overflow_cast-result
overflow_cast-result c =
    let few = few_units _ c.self.invariant in
    let below = c.in-Some.ensures.bound in
    let same = ap length c.deref.ensures.value in
    omega (arith, few, below, same)
