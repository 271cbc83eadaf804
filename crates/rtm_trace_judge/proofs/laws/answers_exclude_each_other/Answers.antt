use Rattle.rtm_trace_judge.proofs.Firsts.{legal_has_none, one_end}
use Rattle.rtm_trace_judge.proofs.laws.answers_exclude_each_other.Goals as goal

pub returns : goal.returns
returns c = record { legal = λ d entries index want. legal_has_none d entries index want; end = λ d entries end stated found. one_end d entries end stated found }
