use Rattle.std.proofs.Common.{◌≡◌, map, take}
use Rattle.arrayvec.specs.ArrayVec.{array_vec_len}
use Rattle.rtm_deck_operands.specs.inner.Part.{span_of}
use Rattle.rtm_deck_operands.proofs.part.parts_of.Given as goal

abbrev pub invariant-loop-operand : goal.invariant-loop-operand
invariant-loop-operand l = record {
  spans : map span_of l.parts.items ≡ take l.operand-index l.operands;
  count : array_vec_len l.parts ≡ l.operand-index;
}
