-- It is computed.
use Rattle.std.proofs.Common.{refl}
use Rattle.rtm_model.specs.Advance.{world}
use Rattle.rtm_model_rows.proofs.broken_landings.landing_that_names_itself.Goals as goal

pub returns : goal.returns
unfolding world
returns c = refl
