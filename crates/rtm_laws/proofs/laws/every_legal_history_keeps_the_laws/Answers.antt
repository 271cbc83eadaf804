use Rattle.rtm_law_chains.proofs.Ends.{chain_law}
use Rattle.rtm_law_holds.proofs.Law.{holds}
use Rattle.rtm_law_landings.proofs.Law.{keeps_law}
use Rattle.rtm_laws.proofs.laws.every_legal_history_keeps_the_laws.Goals as goal

pub returns : goal.returns
returns c = λ d h deck legal. record {
  chains = chain_law d h deck legal;
  aborts = keeps_law d h deck legal;
  holdings = holds d h deck legal;
}
