use Rattle.std.proofs.Common.{◌≡◌, ◌++◌, take}
use Rattle.std.specs.List.{flat_map}
use Rattle.rtm_deck_canon.specs.Text.{command_text}
use Rattle.rtm_deck_canon.proofs.text.push_commands.Given as goal

abbrev pub invariant-loop-command : goal.invariant-loop-command
invariant-loop-command l = l.out.items ≡ l.initial.out.items ++ flat_map (command_text l.deck) (take l.command-index l.deck.commands)
