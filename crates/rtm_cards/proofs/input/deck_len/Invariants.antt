use Rattle.std.proofs.Common.{◌≡◌, ◌+◌, ◌≤◌, ◌-◌, drop, length}
use Rattle.rtm_cards.specs.Lines.{lines_of}
use Rattle.rtm_cards.specs.Split.{front_in}
use Rattle.rtm_cards.proofs.input.deck_len.Given as goal

-- The lines so far end no deck.
abbrev pub invariant-lines : goal.invariant-lines
invariant-lines l = record {
  front : front_in (lines_of l.bytes) ≡ l.at + front_in (lines_of (drop l.at l.bytes));
  within : l.at ≤ length l.bytes + 1;
}

abbrev pub decreases-lines : goal.decreases-lines
decreases-lines l = length l.bytes + 1 - l.at
