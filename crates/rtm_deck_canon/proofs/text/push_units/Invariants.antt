use Rattle.std.proofs.Common.{◌≡◌, ◌++◌, take}
use Rattle.std.specs.List.{flat_map}
use Rattle.rtm_deck_canon.specs.Text.{unit_text}
use Rattle.rtm_deck_canon.proofs.text.push_units.Given as goal

abbrev pub invariant-loop-unit : goal.invariant-loop-unit
invariant-loop-unit l = l.out.items ≡ l.initial.out.items ++ flat_map (unit_text l.deck) (take l.unit-index l.deck.units)
