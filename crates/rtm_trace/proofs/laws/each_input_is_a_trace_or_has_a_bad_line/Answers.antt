use Rattle.rtm_trace.proofs.Places.{one_first}
use Rattle.rtm_trace.proofs.TraceLaws.{one_trace}
use Rattle.rtm_trace.proofs.Replies.{trace_or_line, not_both}
use Rattle.rtm_trace.proofs.laws.each_input_is_a_trace_or_has_a_bad_line.Goals as goal

pub returns-clause-either : goal.returns-clause-either
returns-clause-either c = trace_or_line

pub returns-clause-not_both : goal.returns-clause-not_both
returns-clause-not_both c = not_both

pub returns-clause-one_trace : goal.returns-clause-one_trace
returns-clause-one_trace c = λ d bytes t u w small x y. one_trace d w bytes t u small x y

pub returns-clause-one_line : goal.returns-clause-one_line
returns-clause-one_line c = one_first
