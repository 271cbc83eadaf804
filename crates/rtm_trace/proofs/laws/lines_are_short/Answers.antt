use Rattle.rtm_trace.proofs.Replies.{short_line}
use Rattle.rtm_trace.proofs.laws.lines_are_short.Goals as goal

pub returns : goal.returns
returns c = short_line
