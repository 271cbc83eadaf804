use Rattle.std.proofs.Common.{take}
use Rattle.rtm_law_sound.proofs.Histories.{prefix_legal}
use Rattle.rtm_law_chains.proofs.Order.{one_order}
use Rattle.rtm_law_chains.proofs.laws.recovery_routines_stand_in_one_order.Goals as goal

pub returns : goal.returns
returns c = λ d h i u deck legal. one_order d (take i h) u deck (prefix_legal d h i legal)
