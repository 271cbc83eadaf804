use Rattle.std.proofs.Common.{sym, ◌∙◌}
use Rattle.rtm_model.specs.Chains.{is_of_depth}
use Rattle.rtm_model.proofs.Backwards.{newest_at, absent_from}
use Rattle.rtm_chains.proofs.routine.newest_index.Goals as goal

pub returns-in-Some-clause-there : goal.returns-in-Some-clause-there
returns-in-Some-clause-there c = newest_at (is_of_depth c.args.depth) c.args.list.now c.in-Some.newer (sym c.newer_than_newest.ensures ∙ c.in-Some.is)

pub returns-in-None-clause-absent : goal.returns-in-None-clause-absent
returns-in-None-clause-absent c = absent_from (is_of_depth c.args.depth) c.args.list.now (sym c.newer_than_newest.ensures ∙ c.in-None.is)
