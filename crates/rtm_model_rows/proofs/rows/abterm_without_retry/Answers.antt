-- Each entry may follow those before it; the rest is computed.
use Rattle.std.proofs.Common.{refl, lit<}
use Rattle.rtm_model.specs.Advance.{world}
use Rattle.rtm_model.specs.Legal.{Legal}
use Rattle.rtm_model.specs.Turns.{seq}
use Rattle.rtm_model_rows.proofs.rows.abterm_without_retry.Goals as goal

pub returns-clause-legal : goal.returns-clause-legal
unfolding Legal
returns-clause-legal c = (lit< tt, refl, (lit< tt, refl, (lit< tt, refl, (lit< tt, refl, (lit< tt, refl, (lit< tt, refl, (lit< tt, refl, (lit< tt, refl, (lit< tt, refl, tt)))))))))

pub returns-clause-ends : goal.returns-clause-ends
unfolding world
returns-clause-ends c = refl

pub returns-clause-in_turns : goal.returns-clause-in_turns
unfolding seq
returns-clause-in_turns c = refl
