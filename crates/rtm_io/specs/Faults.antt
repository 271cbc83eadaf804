-- Counts of faults, which tell that a failed call has a cause outside the program (this profile).
use Rattle.std.specs.Prelude.{◌≡◌, ℕ, ◌+◌, ◌-◌, ◌^◌, ◌<◌, ◌≤◌, ◌⊎◌, min, Result, IsOk, IsErr}

-- one more, where a count of 64 bits stays at its last number
abbrev pub next_count : ℕ → ℕ
next_count count = min (count + 1) (2 ^ 64 - 1)

-- the count rose, or it stood at the last number of 64 bits already
abbrev pub HasRisen : ℕ → ℕ → Type 0
HasRisen before now = (before < now) ⊎ (before ≡ 2 ^ 64 - 1)

-- the count didn't fall, the call failed only where it rose, and no fault was counted where it succeeded
pub record HasCause {T E : Type 0} (before now : ℕ) (result : Result T E) : Type 0 where
  pub later : before ≤ now
  pub failed : IsErr result → HasRisen before now
  pub kept : IsOk result → now ≡ before
