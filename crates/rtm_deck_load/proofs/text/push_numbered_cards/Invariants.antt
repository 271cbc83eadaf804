use Rattle.std.proofs.Common.{◌≡◌, ◌++◌, map}
use Rattle.std.specs.List.{flat_map}
use Rattle.rtm_cards.specs.Spelling.{line_with_feed}
use Rattle.rtm_deck_load.specs.Counts.{one_to}
use Rattle.rtm_deck_load.specs.Text.{numbered_card}
use Rattle.rtm_deck_load.proofs.text.push_numbered_cards.Given as goal

abbrev pub invariant-loop-done : goal.invariant-loop-done
invariant-loop-done l = l.out.items ≡ l.initial.out.items ++ flat_map line_with_feed (map (numbered_card l.front l.back) (one_to l.done))
