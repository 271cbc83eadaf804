use Rattle.std.proofs.Common.{◌∙◌, sym}
use Rattle.rtm_model.specs.declared.entry.What.TheVariants.{MemEnd}
use Rattle.rtm_system_unit.proofs.Acting.{master_gives, master_runs}
use Rattle.rtm_system_unit.proofs.next.space_act.Goals as goal

pub returns-in-Run : goal.returns-in-Run
returns-in-Run c =
    let a = c.args.surroundings.now in
    c.enter_of_manager.ensures MemEnd
    ∙ master_runs c.args.code MemEnd a.manager a.holding c.in-Run.manager (sym c.next_act.ensures ∙ c.in-Run.is)

pub returns-in-Give : goal.returns-in-Give
returns-in-Give c =
    let a = c.args.surroundings.now in
    c.release_of.ensures MemEnd
    ∙ master_gives c.args.code MemEnd a.manager a.holding c.in-Give.holding (sym c.next_act.ensures ∙ c.in-Give.is)
