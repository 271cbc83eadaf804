use Rattle.std.proofs.Common.{ap, sym, ◌∙◌, ◌≡◌, false}
use Rattle.rtm_model.specs.Aborts.{has_class}
use Rattle.rtm_aborts.proofs.Classes.{MayJoin, may_join}
use Rattle.rtm_aborts.proofs.pending.Pending.post.Goals as goal

pub add-requires : goal.add-requires
add-requires c =
    let absent : has_class c.args.abort.class c.self.inside.list.items ≡ false = ap (has_class c.args.abort.class) (sym c.as_slice.ensures.value) ∙ sym c.has_class.ensures ∙ c.if-has_class.false in
    let may : MayJoin c.args.abort c.self.inside.list.items = may_join c.args.abort c.self.inside.list.items c.self.invariant absent in
    may.room_for
