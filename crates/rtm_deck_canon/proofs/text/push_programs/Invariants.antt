use Rattle.std.proofs.Common.{◌≡◌, ◌++◌, take}
use Rattle.std.specs.List.{flat_map}
use Rattle.rtm_deck_canon.specs.Text.{program_text}
use Rattle.rtm_deck_canon.proofs.text.push_programs.Given as goal

abbrev pub invariant-loop-program : goal.invariant-loop-program
invariant-loop-program l = l.out.items ≡ l.initial.out.items ++ flat_map (program_text l.deck) (take l.program-index l.deck.programs)
