use Rattle.std.proofs.Common.{◌≡◌, ◌++◌, drop}
use Rattle.rtm_deck_operands.specs.Name.{trimmed_text}
use Rattle.rtm_deck_operands.proofs.write_value.push_before_blank.Given as goal

-- what is written, with what is kept of the rest, is what is kept of all
abbrev pub invariant-loop-byte : goal.invariant-loop-byte
invariant-loop-byte l = l.out.items ++ trimmed_text (drop l.byte-index l.bytes) ≡ l.initial.out.items ++ trimmed_text l.bytes
