use Rattle.rtm_top.proofs.Saying.{due_load}
use Rattle.rtm_top.proofs.top.make_answer.Goals as goal

pub returns-in-Load-clause-ok : goal.returns-in-Load-clause-ok
returns-in-Load-clause-ok g c =
    due_load c.args.request c.in-Load.tasks _ _ c.load_made.result c.in-Load.is c.requires.untold c.load_made.ensures.ok
