use Rattle.std.proofs.Common.{refl, arith}
use Rattle.rtm_cards.proofs.cut.cut_cards.Goals as goal

pub returns-clause-fault : goal.returns-clause-fault
returns-clause-fault c = record {
  by_size = λ _. (c.number_at.ensures, refl);
  by_card = λ few. absurd (omega (arith, few));
}
