use Rattle.std.proofs.Common.{◌≡◌, ◌++◌}
use Rattle.std.specs.List.{flat_map}
use Rattle.rtm_cards.specs.Spelling.{line_with_feed}
use Rattle.rtm_deck_load.specs.Counts.{one_to}
use Rattle.rtm_deck_load.specs.Text.{keep_cards}
use Rattle.rtm_deck_load.proofs.text.push_routines.Given as goal

abbrev pub invariant-loop-done : goal.invariant-loop-done
invariant-loop-done l = l.out.items ≡ l.initial.out.items ++ flat_map line_with_feed (flat_map keep_cards (one_to l.done))
