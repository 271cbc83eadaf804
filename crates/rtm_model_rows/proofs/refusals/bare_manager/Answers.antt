-- The entries before it are legal, and what its unit may make next is computed: not this.
use Rattle.rtm_model.specs.Advance.{world}
use Rattle.rtm_model.specs.Legal.{Legal}
use Rattle.rtm_model_rows.proofs.refusals.bare_manager.Goals as goal
use Rattle.std.proofs.Common.{refl, lit<}

pub returns : goal.returns
unfolding Legal world
returns c = record { legal = (lit< tt, refl, (lit< tt, refl, tt)); next_is = refl; refused = λ h. let other = h.2.2.1 in absurd cc }
