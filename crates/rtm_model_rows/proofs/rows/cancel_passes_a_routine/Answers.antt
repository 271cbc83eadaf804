-- It is the history of one thread, so that it is legal; the rest is computed.
use Rattle.std.proofs.Common.{refl, subst}
use Rattle.rtm_model.specs.Advance.{world}
use Rattle.rtm_model.specs.Legal.{Legal}
use Rattle.rtm_model.specs.Turns.{seq}
use Rattle.rtm_law_turns.proofs.Histories.{seq_legal}
use Rattle.rtm_model_rows.specs.CancelPassesARoutine as row
use Rattle.rtm_model_rows.proofs.rows.cancel_passes_a_routine.Goals as goal

pub returns-clause-in_turns : goal.returns-clause-in_turns
unfolding seq
returns-clause-in_turns c = refl

pub returns-clause-legal : goal.returns-clause-legal
returns-clause-legal c = subst (Legal row.deck) (returns-clause-in_turns c) (seq_legal row.deck)

pub returns-clause-ends : goal.returns-clause-ends
unfolding world
returns-clause-ends c = refl
