use Rattle.rtm_law_turns.proofs.Histories.{seq_ends}
use Rattle.rtm_law_turns.proofs.laws.the_history_of_one_thread_has_an_end.Goals as goal

pub returns : goal.returns
returns c = seq_ends
