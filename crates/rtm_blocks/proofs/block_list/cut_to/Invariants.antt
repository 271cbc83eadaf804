use Rattle.std.proofs.Common.{◌≡◌, ◌≤◌, reverse, length, vec_len, vec_capacity}
use Rattle.rtm_model.specs.Blocks.{from_first, is_block_of}
use Rattle.rtm_blocks.proofs.block_list.cut_to.Given as goal

abbrev pub invariant-loop-block : goal.invariant-loop-block
invariant-loop-block l = record {
  found : from_first (is_block_of l.born) (reverse l.list.items) ≡ from_first (is_block_of l.born) (reverse l.initial.list.items);
  shorter : length l.list.items ≤ length l.initial.list.items;
  capacity : vec_capacity l.list ≡ vec_capacity l.initial.list;
}

abbrev pub decreases-loop-block : goal.decreases-loop-block
decreases-loop-block l = vec_len l.list
