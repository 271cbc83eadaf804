use Rattle.std.proofs.Common.{not, rules, Some}
use Rattle.std.proofs.lemmas.Fn.{filter_same}
use Rattle.rtm_model.specs.declared.holding.Manager1.{Manager1}
use Rattle.rtm_model.specs.Ending.{is_of_task}
use Rattle.rtm_ending.proofs.managers.drop_task.Goals as goal

pub returns-clause-items : goal.returns-clause-items
returns-clause-items c = filter_same _ (λ (manager : Manager1). not (is_of_task (Some c.args.task) manager)) _ (λ x b f' s. search rules) _ _ c.retain.ensures.filtered
