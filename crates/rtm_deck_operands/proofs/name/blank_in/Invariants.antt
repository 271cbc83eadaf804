use Rattle.std.proofs.Common.{◌≡◌, ◌++◌, take, drop}
use Rattle.rtm_deck_operands.specs.Name.{trimmed_text}
use Rattle.rtm_deck_operands.proofs.name.blank_in.Given as goal

-- what was passed, with what is kept of the rest, is what is kept of all
abbrev pub invariant-loop-i : goal.invariant-loop-i
invariant-loop-i l = take l.i l.bytes ++ trimmed_text (drop l.i l.bytes) ≡ trimmed_text l.bytes
