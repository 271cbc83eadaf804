use Rattle.std.proofs.Common.{◌≡◌, drop}
use Rattle.rtm_model.specs.Arrivals.{first_arrival, first_arrival_in}
use Rattle.rtm_system_world.proofs.world.World.first_arrival.Given as goal

abbrev pub invariant-loop-cmd : goal.invariant-loop-cmd
invariant-loop-cmd l =
    first_arrival l.deck l.self l.entries l.quiet ≡ first_arrival_in l.deck l.self l.entries l.quiet l.cmd (drop l.cmd l.deck.commands)
