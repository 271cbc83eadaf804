-- Who lives, who attached whom, and which events are posted. Units are named by their numbers, from 0, in the order of
-- their cards; the master unit is not among them (this profile).
use Rattle.std.specs.Prelude.{ℕ, ◌==◌, Bool, true, false, if◌then◌else◌, List, [], ◌∷◌, map, Option, Some, None, slice_index_or, slice_set}
use Rattle.std.specs.List.{list_any}
use Rattle.rtm_deck_items.specs.declared.deck.Unit.{Unit as UnitCard}
use Rattle.rtm_deck_items.specs.View.{DeckView}
use Rattle.rtm_deck_items.specs.Reading.{job_step}

-- A unit is dormant until ATTACHX or SCHEDULE names it, and is never born twice. With its life goes the number of its
-- mother, the task that attached it; the job step task and an SRB have none (this profile). A unit has ended by its own
-- end, or at memory end by its purge.
pub data Life : Type 0 where
  Dormant : Life
  Lives : (mother : Option ℕ) → Life
  HasEnded : (mother : Option ℕ) → Life

abbrev pub is_dormant : Life → Bool
is_dormant Dormant = true
is_dormant (Lives mother) = false
is_dormant (HasEnded mother) = false

abbrev pub is_living : Life → Bool
is_living Dormant = false
is_living (Lives mother) = true
is_living (HasEnded mother) = false

abbrev pub has_ended : Life → Bool
has_ended Dormant = false
has_ended (Lives mother) = false
has_ended (HasEnded mother) = true

-- who attached the unit, for good
abbrev pub mother_of : Life → Option ℕ
mother_of Dormant = None
mother_of (Lives mother) = mother
mother_of (HasEnded mother) = mother

-- who attached it, while it lives
abbrev pub living_mother : Life → Option ℕ
living_mother Dormant = None
living_mother (Lives mother) = mother
living_mother (HasEnded mother) = None

-- there is a number, and it is that one
abbrev pub is_number : ℕ → Option ℕ → Bool
is_number n None = false
is_number n (Some m) = m == n

-- the unit lives, and the task of that number attached it
abbrev pub is_subtask_of : ℕ → Life → Bool
is_subtask_of mother life = is_number mother (living_mother life)

-- the life of the unit of that number; dormant where there is no such unit
abbrev pub life_of : ℕ → List Life → Life
life_of unit lives = slice_index_or lives unit Dormant

-- some subtask of the task lives
abbrev pub has_subtask : ℕ → List Life → Bool
has_subtask mother lives = list_any (is_subtask_of mother) lives

-- ATTACHX or SCHEDULE: a dormant unit is born; any other stays as it is
-- (Assembler Services Reference, ATTACHX; Authorized Assembler Services Reference, SCHEDULE)
abbrev pub with_birth : Option ℕ → ℕ → List Life → List Life
with_birth mother unit lives =
    if is_dormant (life_of unit lives) then slice_set lives unit (Lives mother) else lives

-- a life after its end; nothing where it isn't one
abbrev pub ended_life : Life → Life
ended_life Dormant = Dormant
ended_life (Lives mother) = HasEnded mother
ended_life (HasEnded mother) = HasEnded mother

-- the unit ends, if it lives
abbrev pub with_end : ℕ → List Life → List Life
with_end unit lives = slice_set lives unit (ended_life (life_of unit lives))

-- before the first entry one unit lives, the job step task, and all others are dormant
abbrev pub lives_at_start : List UnitCard → ℕ → List Life
lives_at_start units first = slice_set (map (λ unit. Dormant) units) first (Lives None)

-- whether the event is among those that are posted
abbrev pub is_posted : ℕ → List ℕ → Bool
is_posted event events = list_any (λ posted. event == posted) events

-- POST: the event is posted, and stays so (Assembler Services Reference, POST; that events stay posted is this
-- profile's)
abbrev pub with_event : ℕ → List ℕ → List ℕ
with_event event events = if is_posted event events then events else event ∷ events

-- the units' lives, by number, and the events that are posted, the newest first
pub record Tree : Type 0 where
  pub lives : List Life
  pub events : List ℕ

-- what lives before the first entry
abbrev pub tree_at_start : DeckView → Tree
tree_at_start d = record { lives = lives_at_start d.units (job_step d); events = [] }
