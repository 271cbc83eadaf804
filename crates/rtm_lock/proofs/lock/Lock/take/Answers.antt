use Rattle.std.proofs.Common.{ap, map, rules}
use Rattle.rtm_lock.proofs.Steps.{has_slot, seizes}
use Rattle.rtm_lock.proofs.lock.Lock.take.Goals as goal

pub swap_new_seat-found-requires : goal.swap_new_seat-found-requires
swap_new_seat-found-requires g c = (search rules, seizes _ _ c.args.self.now.table.shared.key)

pub exchange-requires : goal.exchange-requires
exchange-requires g c =
    let taken = c.swap_new_seat-found.ensures.1 c.if-found-eq0.true in
    (c.swap_new_seat-found.ensures.0, has_slot _ (ap (λ l. map (λ t. t.0) l) taken.1))
