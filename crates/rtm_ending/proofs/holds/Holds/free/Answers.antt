use Rattle.std.proofs.lemmas.List.{length-set}
use Rattle.rtm_ending.proofs.Births.{kept_fewer, births-after_free}
use Rattle.rtm_ending.proofs.holds.Holds.free.Goals as goal

pub invariant_of-self : goal.invariant_of-self
invariant_of-self c =
    let items = c.self.inside.owners.items in
    rw c.take_from.ensures.lists (kept_fewer c.self.inside.units items _ c.self.invariant (length-set items c.args.unit _) (λ b. births-after_free b c.args.unit c.args.class c.args.id items))
