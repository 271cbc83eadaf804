-- What the entries before a moment say is what lives then; and each unit is born, begins to end and dies once
-- (this profile).
use Rattle.std.specs.Prelude.{Bool, List, Some, is_some, length, not, take, true, ℕ, ◌<◌, ◌≡◌, ◌≤◌}
use Rattle.rtm_codes.specs.declared.code.Code.{Code}
use Rattle.rtm_deck_items.specs.View.{DeckView}
use Rattle.rtm_model.specs.declared.entry.Entry.{Entry}
use Rattle.rtm_model.specs.declared.entry.What.TheVariants.{Begin}
use Rattle.rtm_model.specs.AbortLaw.{is_subtask}
use Rattle.rtm_model.specs.Entries.{has_begun, is_begin_of, is_doomed}
use Rattle.rtm_model.specs.Levels.{error_in}
use Rattle.rtm_model.specs.Moments.{IsAt, IsWhat, before, core_before, unit_before}
use Rattle.rtm_model.specs.Tasks.{Life, Tree, has_ended, is_dormant, is_number, is_posted, life_of, mother_of}
use Rattle.rtm_model.specs.World.{Core, UnitOfWork, World, lives_in}
use Rattle.rtm_law_flags.specs.Said.{arrivals, end_code, ends_life, gives_birth, has_ended_space, has_posted, is_born, is_gone}

-- the life of the unit before the entry of index i
abbrev pub life_before : DeckView → List Entry → ℕ → ℕ → Life
life_before d history i u = life_of u (Tree.lives (World.tree (before d history i)))

-- what the entries before that of index i say of the unit u is what lives
pub record AreTheFlags (d : DeckView) (history : List Entry) (i u : ℕ) : Type 0 where
  -- it was born: the job step task from the start, any other by ATTACHX or SCHEDULE
  pub born : not (is_dormant (life_before d history i u)) ≡ is_born d u (take i history)
  -- who has attached it, for good
  pub mother : (task : ℕ) → is_number task (mother_of (life_before d history i u))
      ≡ is_subtask d (take i history) task u
  -- it has begun to end, by its BEGIN
  pub begun : is_some (Core.begun (core_before d history i u)) ≡ has_begun u (take i history)
  -- an abort that forbids retry has landed in it
  pub doomed : Core.doomed (core_before d history i u) ≡ is_doomed d u (take i history)
  -- it has ended, by its DONE or its PURGE
  pub ended : has_ended (life_before d history i u) ≡ is_gone u (take i history)
  -- how many of its commands have arrived
  pub arrived : UnitOfWork.arrived (unit_before d history i u) ≡ arrivals u (take i history)

-- and so it is of what units share
pub record AreTheSharedFlags (d : DeckView) (history : List Entry) (i : ℕ) : Type 0 where
  -- an event is posted once a POST of it has been executed
  pub posted : (event : ℕ) → is_posted event (Tree.events (World.tree (before d history i)))
      ≡ has_posted d event (take i history)
  -- whether memory end has begun, with the code of the address space
  pub memory_end : World.memory_end (before d history i) ≡ end_code d (take i history)
  -- the address space has ended, by MEMEND
  pub over : World.over (before d history i) ≡ has_ended_space (take i history)

-- One birth, one BEGIN and one death of each unit, and none of the two without a life
pub record LivesOnce (d : DeckView) (history : List Entry) (u : ℕ) : Type 0 where
  -- no two entries bring it to life, and none does the job step task
  pub birth : (i j : ℕ) (e other : Entry) → IsAt history i e → IsAt history j other → gives_birth d u e.what ≡ true
      → gives_birth d u other.what ≡ true → i ≡ j
  -- its BEGIN stands once, where it lives
  pub begin : (i j : ℕ) (e other : Entry) → IsAt history i e → IsAt history j other → is_begin_of u e.unit e.what ≡ true
      → is_begin_of u other.unit other.what ≡ true → i ≡ j
  pub begins_alive : (i : ℕ) (e : Entry) → IsAt history i e → is_begin_of u e.unit e.what ≡ true
      → lives_in (before d history i) u ≡ true
  -- of its DONE and its PURGE one stands, once, where it lives
  pub death : (i j : ℕ) (e other : Entry) → IsAt history i e → IsAt history j other → ends_life u e.unit e.what ≡ true
      → ends_life u other.unit other.what ≡ true → i ≡ j
  pub dies_alive : (i : ℕ) (e : Entry) → IsAt history i e → ends_life u e.unit e.what ≡ true
      → lives_in (before d history i) u ≡ true
  -- no entry brings it to life that was born before
  pub unborn : (i : ℕ) (e : Entry) → IsAt history i e → gives_birth d u e.what ≡ true
      → is_dormant (life_before d history i u) ≡ true

-- from a unit's BEGIN on, its code and the record of the error that was open in the innermost bracket are those with
-- which it has begun to end
abbrev pub KeepsItsBeginning : DeckView → List Entry → ℕ → Type 0
KeepsItsBeginning d history u =
    (i k : ℕ) (code : Code) (dump : Bool) → IsWhat history k u (Begin code dump) → k < i → i ≤ length history
    → Core.begun (core_before d history i u)
    ≡ Some (record { code = code; cause = error_in (Core.levels (core_before d history k u)) })
