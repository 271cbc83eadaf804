use Rattle.std.proofs.Common.{◌-◌, ◌∙◌, List, ap, arith, refl, reverse, slice_set, vec_len}
use Rattle.rtm_model.specs.declared.block.Block.{Block}
use Rattle.rtm_model.specs.Blocks.{with_newest_at, in_newest_bracket}
use Rattle.rtm_model.proofs.Newest.{newest_changed}
use Rattle.rtm_blocks.proofs.blocks.set_place.Goals as goal

pub returns-in-Some-clause-items : goal.returns-in-Some-clause-items
returns-in-Some-clause-items c =
    ap (λ (blocks : List Block). reverse (slice_set c.args.brackets.now.items (vec_len c.args.brackets.now - 1) blocks)) c.set_place.ensures
    ∙ newest_changed (in_newest_bracket (with_newest_at c.args.place)) (with_newest_at c.args.place) (λ blocks outer. refl)
    c.args.brackets.now.items (vec_len c.args.brackets.now - 1) c.in-Some.list.now (omega (arith, c.in-Some.ensures.variant.0 refl)) c.in-Some.ensures.value
