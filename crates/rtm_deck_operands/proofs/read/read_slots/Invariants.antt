use Rattle.std.proofs.Common.{◌≡◌, ◌++◌, drop, option_map}
use Rattle.arrayvec.specs.ArrayVec.{array_vec_len}
use Rattle.rtm_deck_operands.specs.inner.Part.{part_texts, AreWithin}
use Rattle.rtm_deck_operands.specs.inner.Reading.{read_slots}
use Rattle.rtm_deck_operands.proofs.read.read_slots.Given as goal

-- The values so far, with those of the slots to come, are the values of all slots.
abbrev pub invariant-slots : goal.invariant-slots
invariant-slots l = record {
  so_far : option_map (λ more. l.values.items ++ more) (read_slots (drop l.slot-index l.slots) (part_texts l.bytes l.left.items))
      ≡ read_slots l.slots (part_texts l.bytes l.initial.left.items);
  within : AreWithin l.bytes l.left.items;
  count : array_vec_len l.values ≡ l.slot-index;
}
