use Rattle.std.proofs.Common.{subst, sym}
use Rattle.rtm_desk.specs.Told.{DesksView, HasRoom}
use Rattle.rtm_desk.proofs.desks.Desks.reserve_all.Goals as goal

pub returns-clause-kept : goal.returns-clause-kept
returns-clause-kept g c = λ least all. c.reserve_each.ensures.kept least (subst (λ (v : DesksView). HasRoom least v) (sym c.self.view_is) all)
