use Rattle.rtm_trace_judge.proofs.Firsts.{one_index, one_wanted}
use Rattle.rtm_trace_judge.proofs.laws.one_entry_is_the_first_illegal_one.Goals as goal

pub returns : goal.returns
returns c = record { index = one_index; wanted = one_wanted }
