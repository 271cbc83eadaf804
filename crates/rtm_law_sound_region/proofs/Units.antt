-- What a unit keeps of its own, and after a change of its control blocks.
use Rattle.std.proofs.Common.{◌≡◌, ℕ, ◌+◌, ◌<◌, ◌≤◌, Bool, true, false, ◌&&◌, List, [], length, sym, ap, ◌∙◌, arith}
use Rattle.std.specs.Prelude.{if◌then◌else◌, is_none}
use Rattle.rtm_model.specs.declared.abort.Abort.{Abort}
use Rattle.rtm_model.specs.inner.Soundness.{ArePending, OutermostQuiet}
use Rattle.rtm_model.specs.Tasks.{Dormant, HasEnded, Life, Lives, is_dormant, is_living}
use Rattle.rtm_model.specs.World.{Core, UnitOfWork, unborn_unit}
use Rattle.rtm_law_sound_region.proofs.Pending.{pending_later}

-- a unit with that life stands: it lives, and hasn't begun to end
abbrev pub is_up : Life → Core → Bool
is_up life c = is_living life && is_none c.begun

-- What the unit of the number v keeps after n entries, of a deck of m units of which `born` were born so far
pub record IsUnitSound (m n born v : ℕ) (life : Life) (unit : UnitOfWork) : Type 0 where
  pub blocks : length (Core.blocks unit.core) + (if is_up life unit.core then 0 else 1) ≡ length (Core.levels unit.core)
  pub dormant : v < m → is_dormant life ≡ true → unit ≡ unborn_unit
  pub estais : length (Core.estais unit.core) < born
  pub pending : ArePending n unit.pending
  pub quiet : is_up life unit.core ≡ false → unit.pending ≡ []
  -- no error is open in the outermost bracket of the master, which doesn't stand
  pub outermost : v ≡ m → is_up life unit.core ≡ false → OutermostQuiet (Core.levels unit.core)

-- one more entry
pub unit_later : (m n born v : ℕ) (life : Life) (unit : UnitOfWork) → IsUnitSound m n born v life unit → IsUnitSound m (n + 1) born v life unit
unit_later m n born v life unit s = record {
  blocks = s.blocks;
  dormant = s.dormant;
  estais = s.estais;
  pending = pending_later n unit.pending s.pending;
  quiet = s.quiet;
  outermost = s.outermost;
}

-- one more unit was born
pub unit_more : (m n born v : ℕ) (life : Life) (unit : UnitOfWork) → IsUnitSound m n born v life unit → IsUnitSound m n (born + 1) v life unit
unit_more m n born v life unit s = record {
  blocks = s.blocks;
  dormant = s.dormant;
  estais = omega (arith, s.estais);
  pending = s.pending;
  quiet = s.quiet;
  outermost = s.outermost;
}

-- Changed control blocks c' of a unit that stands, or doesn't, as `up` says
pub record IsKept (up : Bool) (c c' : Core) : Type 0 where
  pub begun : Core.begun c' ≡ Core.begun c
  pub counts : length (Core.blocks c') + (if up then 0 else 1) ≡ length (Core.levels c')
  pub estais : length (Core.estais c') ≤ length (Core.estais c)
  pub outermost : up ≡ false → OutermostQuiet (Core.levels c) → OutermostQuiet (Core.levels c')

-- a unit is no longer as it was before its birth once it lives
pub not_dormant : (life : Life) (b : Bool) → is_dormant life ≡ true → (is_living life && b) ≡ true → ⊥
not_dormant Dormant b h e = absurd cc
not_dormant (Lives mother) b h e = absurd cc
not_dormant (HasEnded mother) b h e = absurd cc

pub living_not_dormant : (life : Life) → is_dormant life ≡ true → is_living life ≡ true → ⊥
living_not_dormant Dormant h e = absurd cc
living_not_dormant (Lives mother) h e = absurd cc
living_not_dormant (HasEnded mother) h e = absurd cc

-- it stands after as it stood before
same_up : (life : Life) (c c' : Core) → Core.begun c' ≡ Core.begun c → is_up life c' ≡ is_up life c
same_up life c c' e = ap (λ begun. is_living life && is_none begun) e

-- a unit whose control blocks were changed so, and whose pending aborts grew no more than they were
pub unit_kept : (m n born v : ℕ) (life : Life) (unit : UnitOfWork) (c : Core) (aborts : List Abort) → IsUnitSound m n born v life unit
    → IsKept (is_up life unit.core) unit.core c → ArePending n aborts → (unit.pending ≡ [] → aborts ≡ []) → (v < m → is_living life ≡ true)
    → IsUnitSound m n born v life (record unit { core = c; pending = aborts })
unit_kept m n born v life unit c aborts s k p less lives = record {
  blocks = rw (same_up life unit.core c k.begun) k.counts;
  dormant = λ lt dormant. absurd (living_not_dormant life dormant (lives lt));
  estais = omega (arith, k.estais, s.estais);
  pending = p;
  quiet = λ down. less (s.quiet (sym (same_up life unit.core c k.begun) ∙ down));
  outermost = λ master down. let was : is_up life unit.core ≡ false = sym (same_up life unit.core c k.begun) ∙ down in k.outermost was (s.outermost master was);
}
