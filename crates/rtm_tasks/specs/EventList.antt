-- A list of events in which none stands twice.
use Rattle.std.specs.Prelude.{◌≡◌, ℕ, ◌<◌, Bool, false, List, eqb, length, slice_index_or}
use Rattle.std.specs.List.{AllByRecursion, IsDistinct}
use Rattle.rtm_model.specs.Tasks.{is_posted}

-- each is one of 256 events, and none stands twice
pub record AreEvents (events : List ℕ) : Type 0 where
  pub within : AllByRecursion (λ event. event < 256) events
  pub distinct : IsDistinct eqb events

-- the table of all events says of each whether it is in the list
pub record Tells (table : List Bool) (events : List ℕ) : Type 0 where
  pub count : length table ≡ 256
  pub each : (event : ℕ) → event < 256 → slice_index_or table event false ≡ is_posted event events
