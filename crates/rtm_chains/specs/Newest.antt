-- Where the routine that ESTAEX OV and ESTAEX 0 speak of stands in a list that has the oldest first.
use Rattle.std.specs.Prelude.{◌≡◌, ℕ, ◌<◌, List, length, reverse, Some, remove, slice_index_or, slice_set}
use Rattle.rtm_model.specs.declared.reg.Reg.{Reg}
use Rattle.rtm_model.specs.Chains.{newest_owned, after_cancel, after_overlay}

-- the routine at i is the newest of the bracket, and that request block made it
pub record IsNewestOwned (depth owner : ℕ) (xs : List Reg) (i : ℕ) : Type 0 where
  pub within : i < length xs
  pub is : (d : Reg) → newest_owned depth owner (reverse xs) ≡ Some (slice_index_or xs i d)
  pub removed : reverse (remove xs i) ≡ after_cancel depth owner (reverse xs)
  pub replaced : (y : Reg) → reverse (slice_set xs i y) ≡ after_overlay depth owner y (reverse xs)
