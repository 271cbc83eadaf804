-- The law of holdings: what is got is freed or released at most once, the newest of equal ones first, and nothing is
-- held past the end (this profile).
use Rattle.std.specs.Prelude.{Bool, IsTrue, List, Option, [], false, filter, length, not, take, true, ℕ, ◌&&◌, ◌+◌, ◌<◌, ◌==◌, ◌||◌, ◌∷◌, ◌≡◌, ◌≤◌}
use Rattle.std.specs.List.{list_any}
use Rattle.rtm_codes.specs.declared.code.Code.{Code}
use Rattle.rtm_deck_items.specs.Reading.{op_at}
use Rattle.rtm_deck_items.specs.View.{DeckView}
use Rattle.rtm_deck_items.specs.declared.op.Op.{Op}
use Rattle.rtm_deck_items.specs.declared.op.Op.TheVariants.{Free, Get}
use Rattle.rtm_deck_operands.specs.declared.value.Res.{Res}
use Rattle.rtm_model.specs.declared.block.Place.{Place}
use Rattle.rtm_model.specs.declared.entry.Entry.{Entry}
use Rattle.rtm_model.specs.declared.entry.Fate.{Fate}
use Rattle.rtm_model.specs.declared.entry.What.{What}
use Rattle.rtm_model.specs.declared.entry.What.TheVariants.{Done, Exec, MemEnd, Release}
use Rattle.rtm_model.specs.declared.holding.Holding.{Holding}
use Rattle.rtm_model.specs.Ending.{holdings_of, no_holdings}
use Rattle.rtm_model.specs.Held.{living_holdings, times_held}
use Rattle.rtm_model.specs.Moments.{IsAt, IsHeld, IsWhat, before}
use Rattle.rtm_model.specs.World.{World}

-- the entry of that unit is a FREE or a RELEASE of an equal holding
abbrev pub EndsHolding : DeckView → Holding → ℕ → What → Type 0
EndsHolding d holding u (Exec at rc) =
    (op_at d at.prog at.op ≡ Free holding.class holding.id) × (u ≡ holding.owner) × (rc ≡ 0)
EndsHolding d holding u (Release class id owner) = (class ≡ holding.class) × (id ≡ holding.id) × (owner ≡ holding.owner)
EndsHolding d holding u _ = ⊥

-- the holding lives before the entry of index i, and not after it
pub record DiesAt (d : DeckView) (history : List Entry) (holding : Holding) (i : ℕ) : Type 0 where
  pub lived : IsHeld (before d history i) holding
  pub gone : IsHeld (before d history (i + 1)) holding → ⊥

-- a holding of that class, number and owner
pub record IsEqual (holding : Holding) (class : Res) (id owner : ℕ) : Type 0 where
  pub class_is : holding.class ≡ class
  pub id_is : holding.id ≡ id
  pub owner_is : holding.owner ≡ owner

-- the entry of index i ends a holding of that class, number and owner
pub record EndsEqual (d : DeckView) (history : List Entry) (i : ℕ) (class : Res) (id owner : ℕ) : Type 0 where
  pub holding : Holding
  pub equal : IsEqual holding class id owner
  pub dies : DiesAt d history holding i

-- Entry by entry

-- how many holdings of that owner live, of all classes
abbrev pub times_owner_holds : DeckView → List Entry → ℕ → ℕ
times_owner_holds d history owner =
    length (filter (λ (holding : Holding). holding.owner == owner) (living_holdings d history))

abbrev pub is_done_of : ℕ → ℕ → What → Bool
is_done_of u unit (Done code to_task to_step) = unit == u
is_done_of u unit _ = false

-- a GET comes before the unit's DONE, and a FREE finds an equal holding of the unit
abbrev pub card_keeps_holdings : DeckView → List Entry → ℕ → Op → Bool
card_keeps_holdings d front u (Get class id) = not (list_any (λ (e : Entry). is_done_of u e.unit e.what) front)
card_keeps_holdings d front u (Free class id) = not (times_held d front u class id == 0)
card_keeps_holdings d front u _ = true

-- That an entry after those in front of it keeps the law can be computed: what a RELEASE names is held; at its DONE a
-- unit holds nothing, and at MEMEND nobody does
abbrev pub keeps_holdings_at : DeckView → List Entry → ℕ → What → Bool
keeps_holdings_at d front u (Exec at rc) = not (rc == 0) || card_keeps_holdings d front u (op_at d at.prog at.op)
keeps_holdings_at d front u (Release class id owner) = not (times_held d front owner class id == 0)
keeps_holdings_at d front u (Done code to_task to_step) = times_owner_holds d front u == 0
keeps_holdings_at d front u MemEnd = length (living_holdings d front) == 0
keeps_holdings_at d front u _ = true

abbrev pub keeps_holdings_from : DeckView → List Entry → ℕ → List Entry → Bool
keeps_holdings_from d history i [] = true
keeps_holdings_from d history i (e ∷ es) =
    keeps_holdings_at d (take i history) e.unit e.what && keeps_holdings_from d history (i + 1) es

abbrev pub keeps_holdings : DeckView → List Entry → Bool
keeps_holdings d history = keeps_holdings_from d history 0 history

-- The law

pub record HoldLaw (d : DeckView) (history : List Entry) : Type 0 where
  -- a holding dies at most once
  pub once : (holding : Holding) (i j : ℕ) → DiesAt d history holding i → DiesAt d history holding j → i ≡ j
  -- by one FREE or one RELEASE
  pub by : (holding : Holding) (i : ℕ) (e : Entry) → IsAt history i e → DiesAt d history holding i
      → EndsHolding d holding e.unit e.what
  -- each RELEASE ends a holding of its class, number and owner
  pub ends : (i u : ℕ) (class : Res) (id owner : ℕ) → IsWhat history i u (Release class id owner)
      → EndsEqual d history i class id owner
  -- and so does each FREE that found one, of its unit
  pub frees : (i u : ℕ) (at : Place) (class : Res) (id : ℕ) → IsWhat history i u (Exec at 0)
      → op_at d at.prog at.op ≡ Free class id → EndsEqual d history i class id u
  -- no entry ends two
  pub alone : (one other : Holding) (i : ℕ) → DiesAt d history one i → DiesAt d history other i → one ≡ other
  -- and of equal ones the newest goes
  pub newest : (holding other : Holding) (i : ℕ) → DiesAt d history holding i → IsHeld (before d history i) other
      → IsEqual other holding.class holding.id holding.owner → other.born ≤ holding.born
  -- after its DONE a unit holds nothing, and never gets anything again
  pub done : (i j u : ℕ) (code : Code) (to_task to_step : Option Fate) → IsWhat history i u (Done code to_task to_step)
      → i < j → j ≤ length history → holdings_of u (World.holdings (before d history j)) ≡ no_holdings
  -- after MEMEND nobody holds anything
  pub over : (i u owner : ℕ) → IsWhat history i u MemEnd
      → holdings_of owner (World.holdings (before d history (i + 1))) ≡ no_holdings
  -- by entries alone the same: after DONE none of the unit's holdings lives, after MEMEND none at all
  pub done_in_entries : (i j u : ℕ) (code : Code) (to_task to_step : Option Fate) (class : Res) (id : ℕ)
      → IsWhat history i u (Done code to_task to_step) → i < j → times_held d (take j history) u class id ≡ 0
  pub over_in_entries : (i u : ℕ) → IsWhat history i u MemEnd → living_holdings d (take (i + 1) history) ≡ []
  -- entry by entry it is kept
  pub each : IsTrue (keeps_holdings d history)
