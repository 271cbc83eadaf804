use Rattle.rtm_law_turns.proofs.Histories.{seq_legal}
use Rattle.rtm_law_turns.proofs.laws.the_history_of_one_thread_is_legal.Goals as goal

pub returns : goal.returns
returns c = seq_legal
