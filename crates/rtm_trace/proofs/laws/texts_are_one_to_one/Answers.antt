use Rattle.rtm_trace.proofs.Replies.{one_text}
use Rattle.rtm_trace.proofs.laws.texts_are_one_to_one.Goals as goal

pub returns : goal.returns
returns c = one_text
