use Rattle.std.proofs.Common.{subst, sym, ◌+◌}
use Rattle.rtm_desk.specs.Told.{DesksView, HasRoom}
use Rattle.rtm_desk.proofs.desks.Desks.release.Goals as goal

pub returns-clause-room : goal.returns-clause-room
returns-clause-room g c = λ least all. c.release_to.ensures.room least (subst (λ (v : DesksView). HasRoom (least + 1) v) (sym c.self.view_is) all)
