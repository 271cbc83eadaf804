-- The entries before it are legal, and what its unit may make next is computed: not this.
use Rattle.rtm_model.specs.Advance.{world}
use Rattle.rtm_model.specs.Legal.{Legal}
use Rattle.rtm_model_rows.proofs.refusals.arrival_too_early.Goals as goal
use Rattle.std.proofs.Common.{refl}

pub returns : goal.returns
unfolding Legal world
returns c = record { legal = tt; next_is = refl; refused = λ h. let other = h.1 in absurd cc }
