use Rattle.rtm_law_holds.proofs.Law.{holds}
use Rattle.rtm_law_holds.proofs.laws.every_legal_history_keeps_the_law_of_holdings.Goals as goal

pub returns : goal.returns
returns c = holds
