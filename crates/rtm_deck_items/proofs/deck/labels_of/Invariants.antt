use Rattle.std.proofs.Common.{◌≡◌, ℕ, List, drop}
use Rattle.std.specs.Prelude.{bytes_eq}
use Rattle.std.specs.List.{position_from}
use Rattle.std.specs.HashMap.{get_by}
use Rattle.rtm_deck_items.specs.Reading.{carries}
use Rattle.rtm_deck_items.proofs.deck.labels_of.Given as goal

-- each label has its first card among those that were seen, from behind
abbrev pub invariant-loop-i : goal.invariant-loop-i
invariant-loop-i l = (label : List ℕ) → get_by (bytes_eq label) l.labels ≡ position_from (carries label) l.i (drop l.i l.lines)
