-- What a lock keeps: of its two words the first is 0 where the value is at home, in the one slot.
use Rattle.std.specs.Prelude.{length, slice_index, Option, Some, [], ◌∷◌, ◌≡◌}
use mathlib.Core.Option.{some}
use lib.ListN.{get_elem?}
use Rattle.atomic_table.specs.Table.{Me, State}

module _ {T K : Type 0} (Belongs : T → Type 0) where
  -- a value stands in the slot, and it belongs to the key
  abbrev pub IsHome : State (Option T) K → Type 0
  IsHome table = (value : T) × (get_elem? table.homes 0 ≡ some (some (Some value))) × Belongs value

  -- the rule between any two steps
  abbrev pub IsKept : State (Option T) K → Type 0
  IsKept table = (length table.words ≡ 2) × (slice_index table.words 0 ≡ 0 → IsHome table)

  -- a seat has taken the slot with a value that belongs to the key
  abbrev pub HasTaken : Me (Option T) K → Type 0
  HasTaken me = (value : T) × (me.1 ≡ (0, Some value) ∷ []) × Belongs value
