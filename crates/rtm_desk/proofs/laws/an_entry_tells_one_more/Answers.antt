use Rattle.rtm_desk.proofs.Telling.{told_one_more}
use Rattle.rtm_desk.proofs.laws.an_entry_tells_one_more.Goals as goal

pub returns : goal.returns
returns c = told_one_more
