-- It is computed.
use Rattle.std.proofs.Common.{refl}
use Rattle.rtm_model.specs.Advance.{world}
use Rattle.rtm_model_rows.proofs.wrong_machines.setrp_that_clears_clup.Goals as goal

pub returns-clause-aborts : goal.returns-clause-aborts
unfolding world
returns-clause-aborts c = refl

pub returns-clause-chains : goal.returns-clause-chains
unfolding world
returns-clause-chains c = refl
