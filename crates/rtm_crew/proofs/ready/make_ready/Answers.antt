use Rattle.rtm_crew.proofs.Regions.{in_order}
use Rattle.rtm_crew.proofs.ready.make_ready.Goals as goal

pub over-desks-requires : goal.over-desks-requires
over-desks-requires g c = record { order = in_order g.M.Manager.class g.M.Manager.released c.args.managers.items c.requires }
