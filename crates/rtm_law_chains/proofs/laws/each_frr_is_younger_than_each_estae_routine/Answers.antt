use Rattle.rtm_law_chains.proofs.Distinct.{all_younger}
use Rattle.rtm_law_chains.proofs.laws.each_frr_is_younger_than_each_estae_routine.Goals as goal

pub returns : goal.returns
returns c = λ d h u frr estae deck legal here there. all_younger d h deck legal u frr estae here there
