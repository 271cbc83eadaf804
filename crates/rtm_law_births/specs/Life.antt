-- When a thing lives, by the entries of a history: from the start, or from an entry that makes it, until one that is a
-- death of it (this profile).
use Rattle.std.specs.Prelude.{List, None, Option, Some, if◌then◌else◌, length, nat_le, slice_get, suc, zero, ℕ, ◌+◌, ◌<◌, ◌≡◌, ◌≤◌, ◌⊎◌}
use Rattle.rtm_deck_items.specs.View.{DeckView}
use Rattle.rtm_model.specs.declared.entry.Entry.{Entry}
use Rattle.rtm_model.specs.Advance.{world}
use Rattle.rtm_model.specs.Moments.{IsAt, before}
use Rattle.rtm_model.specs.World.{World}

-- The table of births and deaths of one kind of things: whether a world has the thing, whether it lives from the start,
-- and whether the entry of that index, made where that world lives, makes it, and is a death of it.
pub record Table (X : Type 0) : Type 1 where
  pub has : World → X → Type 0
  pub starts : DeckView → X → Type 0
  pub makes : DeckView → World → ℕ → Entry → X → Type 0
  pub kills : DeckView → World → ℕ → Entry → X → Type 0

-- none of the entries from the index i on, below the index k, is a death of the thing
abbrev pub Survives : {X : Type 0}
    → (DeckView → World → ℕ → Entry → X → Type 0) → DeckView → List Entry → ℕ → ℕ → X → Type 0
Survives kills d history i k x =
    (j : ℕ) (e : Entry) → i ≤ j → j < k → IsAt history j e → kills d (before d history j) j e x → ⊥

-- the entry of index i, below the index k, makes the thing, and no later one is a death of it
pub record LivesSince {X : Type 0} (table : Table X) (d : DeckView) (history : List Entry) (k : ℕ) (x : X) (i : ℕ)
    : Type 0 where
  pub below : i < k
  pub entry : Entry
  pub at : IsAt history i entry
  pub makes : table.makes d (before d history i) i entry x
  pub survives : Survives table.kills d history (i + 1) k x

-- the thing lives before the entry of index k
abbrev pub LivesBefore : {X : Type 0} → Table X → DeckView → List Entry → ℕ → X → Type 0
LivesBefore table d history k x =
    (table.starts d x × Survives table.kills d history 0 k x) ⊎ ((i : ℕ) × LivesSince table d history k x i)

-- after the history the world has the things that live, and no others
pub record HasTheLiving {X : Type 0} (table : Table X) (d : DeckView) (history : List Entry) : Type 0 where
  pub lives : (x : X) → table.has (world d history) x → LivesBefore table d history (length history) x
  pub there : (x : X) → LivesBefore table d history (length history) x → table.has (world d history) x

-- Things that have a state, which entries change

-- The table of one kind of them: as above, each with its state at its birth, and what an entry makes of the state.
pub record StateTable (X S : Type 0) : Type 1 where
  pub has : World → X → S → Type 0
  pub starts : DeckView → X → S → Type 0
  pub makes : DeckView → World → ℕ → Entry → X → S → Type 0
  pub kills : DeckView → World → ℕ → Entry → X → Type 0
  pub changes : DeckView → World → ℕ → Entry → X → S → S

-- what the entry of index k, if there is one, makes of the state
abbrev pub state_after : {X S : Type 0} → StateTable X S → DeckView → List Entry → X → ℕ → Option Entry → S → S
state_after table d history x k None s = s
state_after table d history x k (Some e) s = table.changes d (before d history k) k e x s

-- the state before the entry of index k, of a thing that has that state before the one of index i
abbrev pub state_before : {X S : Type 0} → StateTable X S → DeckView → List Entry → X → ℕ → S → ℕ → S
state_before table d history x i s zero = s
state_before table d history x i s (suc k) =
    if nat_le i k
    then state_after table d history x k (slice_get history k) (state_before table d history x i s k)
    else s

-- the thing lives from the start, and has come to the state before the entry of index k
pub record StatedFromStart {X S : Type 0} (table : StateTable X S) (d : DeckView) (history : List Entry)
    (k : ℕ) (x : X) (s : S) : Type 0 where
  pub first : S
  pub starts : table.starts d x first
  pub survives : Survives table.kills d history 0 k x
  pub state : s ≡ state_before table d history x 0 first k

-- the entry of index i, below the index k, makes it, and so on
pub record StatedSince {X S : Type 0} (table : StateTable X S) (d : DeckView) (history : List Entry)
    (k : ℕ) (x : X) (s : S) (i : ℕ) : Type 0 where
  pub below : i < k
  pub entry : Entry
  pub at : IsAt history i entry
  pub first : S
  pub makes : table.makes d (before d history i) i entry x first
  pub survives : Survives table.kills d history (i + 1) k x
  pub state : s ≡ state_before table d history x (i + 1) first k

-- the thing lives before the entry of index k, and has that state
abbrev pub LivesAs : {X S : Type 0} → StateTable X S → DeckView → List Entry → ℕ → X → S → Type 0
LivesAs table d history k x s = StatedFromStart table d history k x s ⊎ ((i : ℕ) × StatedSince table d history k x s i)

-- after the history the world has the things that live, each in its state, and no others
pub record HasTheStated {X S : Type 0} (table : StateTable X S) (d : DeckView) (history : List Entry) : Type 0 where
  pub lives : (x : X) (s : S) → table.has (world d history) x s → LivesAs table d history (length history) x s
  pub there : (x : X) (s : S) → LivesAs table d history (length history) x s → table.has (world d history) x s
