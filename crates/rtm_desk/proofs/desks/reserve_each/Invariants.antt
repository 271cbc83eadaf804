use Rattle.std.proofs.Common.{map, take, ◌≡◌}
use Rattle.std.specs.Prelude.{vec_len, ℕ}
use Rattle.rtm_desk.specs.Told.{AllHaveRoom, told_to}
use Rattle.rtm_desk.proofs.desks.reserve_each.Given as goal

-- Those before the place have room for n; the rest of what they are stays.
abbrev pub invariant-places : goal.invariant-places
invariant-places g l = record {
  count : vec_len l.managers ≡ vec_len l.fn.managers;
  class : map (λ m. g.M.Manager.class m) l.managers.items ≡ map (λ m. g.M.Manager.class m) l.fn.managers.items;
  told : told_to g.M.Manager.class g.M.Manager.released l.managers.items ≡ told_to g.M.Manager.class g.M.Manager.released l.fn.managers.items;
  kept : (least : ℕ) → AllHaveRoom least (map (λ m. g.M.Manager.spare m) l.fn.managers.items) → AllHaveRoom least (map (λ m. g.M.Manager.spare m) l.managers.items);
  room : AllHaveRoom l.n (take l.place (map (λ m. g.M.Manager.spare m) l.managers.items));
}
