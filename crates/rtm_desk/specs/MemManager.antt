-- What a manager in memory is seen as (this profile).
use Rattle.std.specs.Prelude.{List, [], ℕ}
use Rattle.rtm_deck_operands.specs.declared.value.Res.{Res}

-- a manager in memory, as a contract sees it
pub record ManagerState : Type 0 where
  pub class : Res  -- the class of the resources of whose release it is told
  pub released : List (ℕ × ℕ)  -- the owner and the number of each, oldest first
  pub spare : ℕ  -- of how many more it can be told before it needs memory

-- a manager of that class that was told nothing and has no memory
abbrev pub manager_of : Res → ManagerState
manager_of class = record { class = class; released = []; spare = 0 }
