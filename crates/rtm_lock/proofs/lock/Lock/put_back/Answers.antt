use Rattle.std.proofs.Common.{ap, rules, subst, sym}
use Rattle.atomic_table.specs.Table.{Allows}
use Rattle.rtm_lock.specs.Kept.{IsKept}
use Rattle.rtm_lock.proofs.Steps.{comes_home, has_slot}
use Rattle.rtm_lock.proofs.lock.Lock.put_back.Goals as goal

pub exchange-requires : goal.exchange-requires
exchange-requires g c = (search rules, has_slot _ c.count-seat.result.has)

pub store-requires : goal.store-requires
store-requires g c =
    let Belongs = g.T.Keyed.belongs c.args.self.now.table.shared.key in
    let seat = c.exchange.new.seat in (
      search rules,
      search rules,
      subst (λ n. Allows (IsKept Belongs) n seat.id seat.me 0 (λ _. 0) (λ _ _. Unit {0})) (sym c.args.self.now.sized.1)
          (comes_home Belongs _ _ _ _ (ap (λ me. me.1) c.exchange.ensures.3) c.requires.belongs),
    )
