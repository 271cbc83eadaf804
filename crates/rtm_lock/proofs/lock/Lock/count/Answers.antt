use Rattle.std.proofs.Common.{rules}
use Rattle.rtm_lock.proofs.Steps.{counts}
use Rattle.rtm_lock.proofs.lock.Lock.count.Goals as goal

pub fetch_add-requires : goal.fetch_add-requires
fetch_add-requires g c = (search rules, search rules, counts _ _ _ c.args.hold.seat.me)
