use Rattle.rtm_law_landings.proofs.Law.{keeps_law}
use Rattle.rtm_law_landings.proofs.laws.every_legal_history_keeps_the_law_of_aborts.Goals as goal

pub returns : goal.returns
returns c = keeps_law
