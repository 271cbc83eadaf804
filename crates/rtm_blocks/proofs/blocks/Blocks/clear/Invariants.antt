use Rattle.std.proofs.Common.{◌≡◌, ◌+◌, ◌≤◌, vec_len, vec_capacity}
use Rattle.rtm_blocks.proofs.blocks.Blocks.clear.Given as goal

abbrev pub invariant-loop-list : goal.invariant-loop-list
invariant-loop-list l = (vec_len l.self-inside.brackets + vec_len l.self-inside.spares ≡ 16) ×
    (16 ≤ vec_capacity l.self-inside.brackets) × (16 ≤ vec_capacity l.self-inside.spares)

abbrev pub decreases-loop-list : goal.decreases-loop-list
decreases-loop-list l = vec_len l.self-inside.brackets
