use Rattle.rtm_trace.proofs.Feeds.{IsFirstLine, of_some}
use Rattle.rtm_trace.proofs.read.line_len.Goals as goal

pub returns-in-Some-clause-after : goal.returns-in-Some-clause-after
returns-in-Some-clause-after c = IsFirstLine.after (of_some c.args.text.now c.memchr.result c.in-Some.feed c.memchr.ensures c.in-Some.is)
