-- It is computed.
use Rattle.std.proofs.Common.{refl}
use Rattle.rtm_model.specs.Advance.{world}
use Rattle.rtm_model_rows.proofs.wrong_machines.frr_forgotten.Goals as goal

pub returns : goal.returns
unfolding world
returns c = refl
