-- It is computed.
use Rattle.std.proofs.Common.{refl}
use Rattle.rtm_model.specs.Advance.{world}
use Rattle.rtm_model_rows.proofs.chain_law.name_of_another_breaks_the_law.Goals as goal

pub returns : goal.returns
unfolding world
returns c = refl
