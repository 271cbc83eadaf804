-- Moments of a history, in which its laws are said (this profile).
use Rattle.std.specs.Prelude.{Bool, List, Some, [], false, slice_get, take, true, ℕ, ◌∷◌, ◌≡◌, ◌⊎◌}
use Rattle.rtm_deck_items.specs.View.{DeckView}
use Rattle.rtm_model.specs.declared.entry.Entry.{Entry}
use Rattle.rtm_model.specs.declared.entry.What.{What}
use Rattle.rtm_model.specs.declared.entry.What.TheVariants.{Arrive}
use Rattle.rtm_model.specs.declared.holding.Holding.{Holding}
use Rattle.rtm_model.specs.Advance.{world}
use Rattle.rtm_model.specs.Ending.{holdings_of, of_class}
use Rattle.rtm_model.specs.World.{Core, UnitOfWork, World, core_at, unit_at}

-- what lives just before the entry of index i, and just after the one before it
abbrev pub before : DeckView → List Entry → ℕ → World
before d history i = world d (take i history)

-- the entry of index i is that one
abbrev pub IsAt : List Entry → ℕ → Entry → Type 0
IsAt history i e = slice_get history i ≡ Some e

-- the entry of index i is that unit's, and says that
abbrev pub IsWhat : List Entry → ℕ → ℕ → What → Type 0
IsWhat history i u what = IsAt history i (record { unit = u; what = what })

-- the unit, and its control blocks, before the entry of index i
abbrev pub unit_before : DeckView → List Entry → ℕ → ℕ → UnitOfWork
unit_before d history i u = unit_at u (World.units (before d history i))

abbrev pub core_before : DeckView → List Entry → ℕ → ℕ → Core
core_before d history i u = core_at u (before d history i)

-- it is an element of the list
abbrev pub IsIn : {A : Type 0} → A → List A → Type 0
IsIn x [] = ⊥
IsIn x (y ∷ ys) = (x ≡ y) ⊎ IsIn x ys

-- a command arrives
abbrev pub is_arrival : What → Bool
is_arrival (Arrive cmd _) = true
is_arrival _ = false

-- the holding lives
abbrev pub IsHeld : World → Holding → Type 0
IsHeld w holding = IsIn holding (of_class holding.class (holdings_of holding.owner w.holdings))
