use Rattle.std.proofs.Common.{◌≡◌, drop}
use Rattle.std.specs.List.{position_from}
use Rattle.rtm_deck_operands.specs.inner.Part.{part_texts}
use Rattle.rtm_deck_operands.specs.inner.Reading.{has_key}
use Rattle.rtm_deck_operands.proofs.read.find_key.Given as goal

-- Where the first one stands from here on is where the first one stands.
abbrev pub invariant-loop-i : goal.invariant-loop-i
invariant-loop-i l =
    position_from (has_key l.key) l.i (drop l.i (part_texts l.bytes l.operands)) ≡ position_from (has_key l.key) 0 (part_texts l.bytes l.operands)
