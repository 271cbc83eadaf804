use Rattle.std.proofs.Common.{◌-◌, arith, refl, vec_len}
use Rattle.rtm_model.specs.Blocks.{with_newest_at}
use Rattle.rtm_model.proofs.Newest.{newest_changed}
use Rattle.rtm_blocks.proofs.block_list.set_place.Goals as goal

pub returns-in-Some-clause-items : goal.returns-in-Some-clause-items
returns-in-Some-clause-items c =
    newest_changed (with_newest_at c.args.place) (λ block. record block { place = c.args.place }) (λ block older. refl)
    c.args.list.now.items (vec_len c.args.list.now - 1) c.in-Some.block.now (omega (arith, c.in-Some.ensures.variant.0 refl)) c.in-Some.ensures.value
