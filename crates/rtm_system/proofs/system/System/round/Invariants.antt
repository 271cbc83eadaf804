use Rattle.std.proofs.Common.{◌-◌, ◌+◌}
use Rattle.rtm_model.specs.Advance.{world}
use Rattle.rtm_system.proofs.Rounds.{IsLeft}
use Rattle.rtm_system.proofs.system.System.round.Given as goal

abbrev pub invariant-units : goal.invariant-units
invariant-units l = IsLeft l.self.deck (world l.self.deck l.self.trace) l.first l.unit (l.count + 1 - l._tried)
