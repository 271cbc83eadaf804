use Rattle.rtm_law_turns.proofs.Histories.{seq_goes_on, seq_turn}
use Rattle.rtm_law_turns.proofs.laws.each_entry_is_that_of_its_turn.Goals as goal

pub returns : goal.returns
returns c = record { turn = seq_turn; no_end = seq_goes_on }
