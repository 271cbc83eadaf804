use Rattle.std.proofs.Common.{[], ap, subst, ◌+◌, ◌++◌, ◌≤◌, ◌∙◌, ◌∷◌}
use Rattle.rtm_desk.proofs.Rooms.{room_used, told_at}
use Rattle.std.proofs.Math.Seq.{map-set_same}
use Rattle.rtm_desk.proofs.desks.release_to.Goals as goal

pub returns-clause-class : goal.returns-clause-class
returns-clause-class g c =
    map-set_same (λ m. g.M.Manager.class m) c.args.managers.now.items c.place_of.result c.release.new.self c.index_mut.result.now
    (c.release.ensures.class ∙ ap (λ m. g.M.Manager.class m) c.index_mut.ensures.value)
    ∙ c.requires.order

pub returns-clause-told : goal.returns-clause-told
returns-clause-told g c =
    told_at g.M.Manager.class g.M.Manager.released c.args.managers.now.items c.place_of.result c.release.new.self c.index_mut.result.now c.args.class (c.args.unit, c.args.id)
    c.place_of.ensures c.requires.order
    (c.release.ensures.class ∙ ap (λ m. g.M.Manager.class m) c.index_mut.ensures.value)
    (c.release.ensures.released ∙ ap (λ m. g.M.Manager.released m ++ (c.args.unit, c.args.id) ∷ []) c.index_mut.ensures.value)

pub returns-clause-room : goal.returns-clause-room
returns-clause-room g c = λ least all.
    room_used g.M.Manager.spare least c.args.managers.now.items c.place_of.result c.release.new.self c.index_mut.result.now
    (subst (λ m. g.M.Manager.spare m ≤ g.M.Manager.spare c.release.new.self + 1) c.index_mut.ensures.value c.release.ensures.spare) all
