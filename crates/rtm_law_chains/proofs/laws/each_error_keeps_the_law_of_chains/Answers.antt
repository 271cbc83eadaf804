use Rattle.rtm_law_chains.proofs.Ends.{chain_law}
use Rattle.rtm_law_chains.proofs.laws.each_error_keeps_the_law_of_chains.Goals as goal

pub returns : goal.returns
returns c = λ d h deck legal. chain_law d h deck legal
