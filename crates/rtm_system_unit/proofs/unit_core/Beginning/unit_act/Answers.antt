use Rattle.std.proofs.Common.{◌∙◌, Some, ap, sym}
use Rattle.rtm_codes.specs.declared.code.Code.{Code}
use Rattle.rtm_model.specs.NextEntry.{done_of, manager_or}
use Rattle.rtm_model.specs.World.{Beginning}
use Rattle.rtm_system_unit.proofs.Acting.{unit_gives, unit_runs}
use Rattle.rtm_system_unit.proofs.unit_core.Beginning.unit_act.Goals as goal

pub returns-in-Run : goal.returns-in-Run
returns-in-Run c =
    let a = c.args.surroundings.now in
    let done = done_of c.args.self.now a in
    let code = ap (λ (b : Beginning). b.code) c.self.view_is in
    ap Some (c.enter_of_manager.ensures done ∙ ap (λ (k : Code). manager_or k (Some c.in-Run.manager) done) code)
    ∙ unit_runs c.args.self.now.code done a.subtask a.manager a.holding c.in-Run.manager (sym c.next_act.ensures ∙ c.in-Run.is)

pub returns-in-Give : goal.returns-in-Give
returns-in-Give c =
    let a = c.args.surroundings.now in
    let done = done_of c.args.self.now a in
    ap Some (c.release_of.ensures done)
    ∙ unit_gives c.args.self.now.code done a.subtask a.manager a.holding c.in-Give.holding (sym c.next_act.ensures ∙ c.in-Give.is)
