use Rattle.std.proofs.Common.{◌≡◌, vec_len, vec_capacity}
use Rattle.rtm_blocks.proofs.blocks.add_spares.Given as goal

abbrev pub invariant-loop : goal.invariant-loop
invariant-loop l = (vec_len l.spares ≡ l.counter) × (vec_capacity l.spares ≡ 16)
