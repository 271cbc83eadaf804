-- What contracts see of the holdings, and what they keep: no two of them were born at one entry.
use Rattle.std.specs.Prelude.{◌≡◌, ℕ, ◌+◌, ◌≤◌, ◌==◌, if◌then◌else◌, List, [], ◌∷◌, length}
use Rattle.rtm_model.specs.declared.holding.Holding.{Holding}
use Rattle.rtm_model.specs.Ending.{Holdings}

-- the number of units, and what each of them holds, in their order, and the master last
pub record HoldsView : Type 0 where
  pub units : ℕ
  pub owners : List Holdings

-- how many holdings of the list were born at that entry
abbrev pub births_at : ℕ → List Holding → ℕ
births_at born [] = 0
births_at born (holding ∷ held) = (if holding.born == born then 1 else 0) + births_at born held

-- how many of the owner's holdings
abbrev pub births_of : ℕ → Holdings → ℕ
births_of born held = births_at born held.enq + births_at born held.stor + births_at born held.dsn + births_at born held.timr

-- how many of all holdings
abbrev pub births_among : ℕ → List Holdings → ℕ
births_among born [] = 0
births_among born (held ∷ owners) = births_of born held + births_among born owners

-- each unit and the master has its lists, and no two holdings were born at one entry
pub record AreKept (units : ℕ) (owners : List Holdings) : Type 0 where
  pub all : length owners ≡ units + 1
  pub distinct : (born : ℕ) → births_among born owners ≤ 1
