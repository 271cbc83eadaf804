use Rattle.std.proofs.Common.{ap, subst, ◌≤◌, ◌∙◌}
use Rattle.rtm_desk.proofs.Rooms.{one_more, room_kept, told_kept}
use Rattle.std.proofs.Math.Seq.{map-set_same}
use Rattle.rtm_desk.proofs.desks.reserve_at.Goals as goal

pub returns-clause-class : goal.returns-clause-class
returns-clause-class g c =
    map-set_same (λ m. g.M.Manager.class m) c.args.managers.now.items c.args.place c.reserve.new.self c.index_mut.result.now
    (c.reserve.ensures.class ∙ ap (λ m. g.M.Manager.class m) c.index_mut.ensures.value)

pub returns-clause-told : goal.returns-clause-told
returns-clause-told g c =
    told_kept g.M.Manager.class g.M.Manager.released c.args.managers.now.items c.args.place c.reserve.new.self c.index_mut.result.now
    (c.reserve.ensures.class ∙ ap (λ m. g.M.Manager.class m) c.index_mut.ensures.value)
    (c.reserve.ensures.released ∙ ap (λ m. g.M.Manager.released m) c.index_mut.ensures.value)

pub returns-clause-kept : goal.returns-clause-kept
returns-clause-kept g c = λ least all.
    room_kept g.M.Manager.spare least c.args.managers.now.items c.args.place c.reserve.new.self c.index_mut.result.now
    (subst (λ m. g.M.Manager.spare m ≤ g.M.Manager.spare c.reserve.new.self) c.index_mut.ensures.value c.reserve.ensures.spare) all

pub returns-clause-room : goal.returns-clause-room
returns-clause-room g c = one_more g.M.Manager.spare c.reserve.result c.args.n c.args.managers.now.items c.args.place c.reserve.new.self c.reserve.ensures.room
