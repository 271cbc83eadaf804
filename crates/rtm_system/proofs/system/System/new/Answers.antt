use Rattle.std.proofs.Common.{arith, refl}
use Rattle.rtm_system.proofs.Standing.{starts}
use Rattle.rtm_system.proofs.system.System.new.Goals as goal

pub invariant_of-result : goal.invariant_of-result
invariant_of-result c = starts _ _ _ _ _ c.in_ok-world.ensures c.in_ok-trace.ensures.items (omega (arith, c.in_ok-trace.ensures.exact, c.entry_limit.ensures)) refl
