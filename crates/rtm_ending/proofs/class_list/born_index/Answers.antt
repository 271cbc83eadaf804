use Rattle.std.proofs.Common.{◌==◌, sym, ◌∙◌}
use Rattle.rtm_model.specs.declared.holding.Holding.{Holding}
use Rattle.rtm_model.proofs.Backwards.{newest_at, absent_from}
use Rattle.rtm_ending.proofs.class_list.born_index.Goals as goal

pub returns-in-Some-clause-there : goal.returns-in-Some-clause-there
returns-in-Some-clause-there c = newest_at (λ (holding : Holding). holding.born == c.args.born) c.args.list.now c.in-Some.newer (sym c.newer_than_born.ensures ∙ c.in-Some.is)

pub returns-in-None-clause-absent : goal.returns-in-None-clause-absent
returns-in-None-clause-absent c = absent_from (λ (holding : Holding). holding.born == c.args.born) c.args.list.now (sym c.newer_than_born.ensures ∙ c.in-None.is)
