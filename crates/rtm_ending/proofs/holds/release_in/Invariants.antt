use Rattle.std.proofs.Common.{◌≡◌, ◌++◌, map, take, drop}
use Rattle.rtm_model.specs.Ending.{owner_after_release}
use Rattle.rtm_ending.proofs.holds.release_in.Given as goal

abbrev pub invariant-loop-lists : goal.invariant-loop-lists
invariant-loop-lists l = l.owners ≡ map (owner_after_release l.born) (take l.lists-index l.initial.owners) ++ drop l.lists-index l.initial.owners
