-- The law of aborts: each one that is queued lands at most once, where its unit may be interrupted, and no retry
-- follows one that forbids it (this profile).
use Rattle.std.specs.Prelude.{Bool, IsTrue, List, Option, [], false, if◌then◌else◌, is_none, length, nat_lt, not, slice_get, take, true, ℕ, ◌&&◌, ◌+◌, ◌<◌, ◌==◌, ◌||◌, ◌∷◌, ◌≡◌, ◌≤◌}
use Rattle.std.specs.List.{list_all, list_any}
use Rattle.std.specs.Option.{option_map_or}
use Rattle.rtm_deck_items.specs.Reading.{job_step, op_at}
use Rattle.rtm_deck_items.specs.View.{DeckView}
use Rattle.rtm_deck_items.specs.declared.op.Op.{Op}
use Rattle.rtm_deck_items.specs.declared.op.Op.TheVariants.{Abterm, Attachx, Detach}
use Rattle.rtm_model.specs.declared.abort.Abort.{Abort}
use Rattle.rtm_model.specs.declared.entry.Class.{Class}
use Rattle.rtm_model.specs.declared.entry.Entry.{Entry}
use Rattle.rtm_model.specs.declared.entry.Fate.{Fate}
use Rattle.rtm_model.specs.declared.entry.Fate.TheVariants.{Queued}
use Rattle.rtm_model.specs.declared.entry.What.{What}
use Rattle.rtm_model.specs.declared.entry.What.TheVariants.{Arrive, Begin, Done, Exec, Land, Leave}
use Rattle.rtm_model.specs.declared.mark.Mark.{Mark}
use Rattle.rtm_model.specs.Aborts.{HasDistinctClasses, is_of_class, is_same_class}
use Rattle.rtm_model.specs.Arrivals.{target_of}
use Rattle.rtm_model.specs.Cards.{has_frr}
use Rattle.rtm_model.specs.Entries.{EndsAbort, ForbidsRetry, forbids_retry, has_begun, is_begin_of, is_doomed, is_held_off, open_error, purges}
use Rattle.rtm_model.specs.Moments.{IsAt, IsWhat, before, core_before, is_arrival, unit_before}
use Rattle.rtm_model.specs.NextEntry.{is_retry}
use Rattle.rtm_model.specs.Tasks.{is_number}
use Rattle.rtm_model.specs.World.{UnitOfWork, World, lives_in, related_task, unit_at}
use Rattle.rtm_model.specs.declared.entry.Class.TheVariants as classes

-- What an entry queues

abbrev pub is_queued : Fate → Bool
is_queued Queued = true
is_queued _ = false

abbrev pub is_queued_if : Option Fate → Bool
is_queued_if fate = option_map_or is_queued fate false

-- DETACH and CALLRTM TYPE=ABTERM, with the return code 0 where the abort is queued
abbrev pub card_queues : ℕ → Op → Class → ℕ → Bool
card_queues rc (Detach unit stae) class target = (rc == 0) && (unit == target) && is_same_class class classes.Detach
card_queues rc (Abterm unit code reason dump retry) class target =
    (rc == 0) && (unit == target) && is_same_class class classes.Abterm
card_queues rc _ class target = false

-- the task has attached the other one, by these entries
abbrev pub says_attach : ℕ → ℕ → Op → Bool
says_attach rc unit (Attachx subtask estai term) = (rc == 0) && (subtask == unit)
says_attach rc unit _ = false

abbrev pub attaches : DeckView → ℕ → What → Bool
attaches d unit (Exec at rc) = says_attach rc unit (op_at d at.prog at.op)
attaches d unit _ = false

abbrev pub is_subtask : DeckView → List Entry → ℕ → ℕ → Bool
is_subtask d history mother unit =
    list_any (λ (e : Entry). (e.unit == mother) && attaches d unit e.what) history

-- the entry, after those in front of it, posts an abort of that class to the target, and it is queued: a card, a
-- command, the BEGIN of a task to each subtask that hasn't begun to end, and the DONE of a unit that an error ended
abbrev pub queues : DeckView → List Entry → ℕ → What → Class → ℕ → Bool
queues d front u (Exec at rc) class target = card_queues rc (op_at d at.prog at.op) class target
queues d front u (Arrive cmd fate) class target =
    is_queued fate && (target_of d cmd == target) && is_same_class class classes.Cancel
queues d front u (Begin code dump) class target =
    is_subtask d front u target && not (has_begun target front) && is_same_class class classes.Mother
queues d front u (Done code to_task to_step) class target =
    (is_queued_if to_task && is_number target (related_task d u) && is_same_class class classes.Srb)
    || (is_queued_if to_step && (job_step d == target) && is_same_class class classes.Step)
queues d front u _ class target = false

-- the entry of that index does
abbrev pub is_queued_at : DeckView → List Entry → ℕ → Class → ℕ → Bool
is_queued_at d history from class target =
    option_map_or
    (λ (e : Entry). queues d (take from history) e.unit e.what class target)
    (slice_get history from)
    false

-- What is pending

-- the abort of that class that was posted at that entry is pending for the unit
abbrev pub is_abort_of : Class → ℕ → Abort → Bool
is_abort_of class from abort = is_of_class class abort && (abort.from == from)

abbrev pub is_pending : World → ℕ → Class → ℕ → Bool
is_pending w u class from = list_any (is_abort_of class from) (UnitOfWork.pending (unit_at u w.units))

abbrev pub IsPending : DeckView → List Entry → ℕ → ℕ → Class → ℕ → Type 0
IsPending d history i u class from = IsTrue (is_pending (before d history i) u class from)

-- the other abort was not posted before it; at one entry that of an SRB's error comes before that of the job step's end
abbrev pub comes_first : Class → ℕ → Abort → Bool
comes_first class from other =
    nat_lt from other.from
    || ((from == other.from) && (is_of_class class other || is_same_class class classes.Srb))

abbrev pub is_first : Class → ℕ → List Abort → Bool
is_first class from pending = list_any (is_abort_of class from) pending && list_all (comes_first class from) pending

-- Where an abort may land

-- The unit may be interrupted before the entry of index i: it hasn't begun to end and isn't doomed, no FRR of it
-- lives, no bracket of it is an FRR's, a resource manager's or a CANCEL=NO routine's, and no error is open in its
-- innermost one
abbrev pub may_interrupt : DeckView → List Entry → ℕ → ℕ → Bool
may_interrupt d history i u =
    not (has_begun u (take i history)) && not (is_doomed d u (take i history))
    && not (has_frr (core_before d history i u).frrs) && not (is_held_off d u (take i history))
    && is_none (open_error u (take i history))

-- the unit lives and may be interrupted, and that abort is the first that is pending for it
pub record MayLand (d : DeckView) (history : List Entry) (i u : ℕ) (class : Class) (from : ℕ) : Type 0 where
  pub lives : lives_in (before d history i) u ≡ true
  pub interrupts : may_interrupt d history i u ≡ true
  pub first : is_first class from (UnitOfWork.pending (unit_before d history i u)) ≡ true

-- Entry by entry

-- some abort waits that may land before the entry of index i
abbrev pub is_put_off : DeckView → List Entry → ℕ → ℕ → Bool
is_put_off d history i u =
    lives_in (before d history i) u && may_interrupt d history i u
    && not (length (UnitOfWork.pending (unit_before d history i u)) == 0)

abbrev pub is_same_flag : Bool → Bool → Bool
is_same_flag flag other = if flag then other else not other

-- That the entry of index i keeps the law can be computed: a LAND is of the first abort that is pending, which was
-- queued where it says, in a unit that may be interrupted, and shows CLUP where it forbids retry; no routine of a
-- doomed unit retries; and an entry but a LAND or an ARRIVE puts no abort off.
abbrev pub keeps_aborts_at : DeckView → List Entry → ℕ → ℕ → What → Bool
keeps_aborts_at d history i u (Land class from mark) =
    nat_lt from i && is_queued_at d history from class u
    && lives_in (before d history i) u && may_interrupt d history i u
    && is_first class from (UnitOfWork.pending (unit_before d history i u))
    && is_same_flag mark.clup (forbids_retry d history class from)
keeps_aborts_at d history i u (Arrive cmd _) = true
keeps_aborts_at d history i u (Leave kind born verdict logrec dump) =
    not (is_put_off d history i u) && not (is_retry verdict && is_doomed d u (take i history))
keeps_aborts_at d history i u _ = not (is_put_off d history i u)

abbrev pub keeps_aborts_from : DeckView → List Entry → ℕ → List Entry → Bool
keeps_aborts_from d history i [] = true
keeps_aborts_from d history i (e ∷ es) =
    keeps_aborts_at d history i e.unit e.what && keeps_aborts_from d history (i + 1) es

abbrev pub keeps_aborts : DeckView → List Entry → Bool
keeps_aborts d history = keeps_aborts_from d history 0 history

-- The law

-- an entry of the unit other than an ARRIVE
pub record IsOwnEntry (history : List Entry) (i u : ℕ) (what : What) : Type 0 where
  pub at : IsWhat history i u what
  pub acts : is_arrival what ≡ false

-- the first of the unit's own entries from the index i on is the one of index j
pub record IsFirstOwn (history : List Entry) (i j u : ℕ) (what : What) : Type 0 where
  pub from : i ≤ j
  pub own : IsOwnEntry history j u what
  pub none : (k : ℕ) (other : What) → i ≤ k → k < j → IsOwnEntry history k u other → ⊥

-- a LEAVE with the verdict Retry
abbrev pub IsRetry : What → Type 0
IsRetry (Leave kind reg verdict logrec dump) = IsTrue (is_retry verdict)
IsRetry _ = ⊥

abbrev pub IsLanding : What → Type 0
IsLanding (Land class from mark) = Unit {0}
IsLanding _ = ⊥

-- the unit's BEGIN or its purge
abbrev pub ends_unit : ℕ → Entry → Bool
ends_unit u e = is_begin_of u e.unit e.what || purges u e.what

pub record AbortLaw (d : DeckView) (history : List Entry) : Type 0 where
  -- each LAND names an abort that the entry that it names has queued for its unit
  pub queued : (i u : ℕ) (class : Class) (from : ℕ) (mark : Mark) → IsWhat history i u (Land class from mark)
      → (from < i) × IsTrue (is_queued_at d history from class u) × IsPending d history (from + 1) u class from
  -- and what an entry queues is pending from then on
  pub posts : (from target : ℕ) (class : Class) → is_queued_at d history from class target ≡ true
      → IsPending d history (from + 1) target class from
  -- no other LAND names the same
  pub once : (i j u : ℕ) (class : Class) (from : ℕ) (mark other : Mark)
      → IsWhat history i u (Land class from mark) → IsWhat history j u (Land class from other) → i ≡ j
  -- at each LAND the unit could be interrupted, and the abort was the first that was pending for it
  pub lands : (i u : ℕ) (class : Class) (from : ℕ) (mark : Mark) → IsWhat history i u (Land class from mark)
      → MayLand d history i u class from
  -- an abort that may land is not put off: the unit's next entry but for arrivals is its LAND
  pub prompt : (i j u : ℕ) (class : Class) (from : ℕ) (what : What) → MayLand d history i u class from
      → IsFirstOwn history i j u what → (mark : Mark) × (what ≡ Land class from mark)
  -- an abort that is pending stays so, until it lands or its unit has its BEGIN or PURGE
  pub dies : (i u : ℕ) (class : Class) (from : ℕ) (e : Entry) → IsAt history i e
      → IsPending d history i u class from → is_pending (before d history (i + 1)) u class from ≡ false
      → EndsAbort u class from e.unit e.what
  -- after those nothing is pending for it, and nothing ever is again
  pub over : (i j u : ℕ) (e : Entry) → IsAt history i e → ends_unit u e ≡ true → i < j → j ≤ length history
      → UnitOfWork.pending (unit_before d history j u) ≡ []
  -- a LAND shows CLUP exactly where its abort forbids retry
  pub shows : (i u : ℕ) (class : Class) (from : ℕ) (mark : Mark) → IsWhat history i u (Land class from mark)
      → mark.clup ≡ forbids_retry d history class from
  -- after an abort that forbids retry has landed, no abort lands in the unit, and no routine of it retries
  pub last : (i j u : ℕ) (class : Class) (from : ℕ) (mark : Mark) (what : What)
      → IsWhat history i u (Land class from mark) → ForbidsRetry d history class from → i < j → IsWhat history j u what
      → (IsLanding what → ⊥) × (IsRetry what → ⊥)
  -- at no moment are two aborts of a class pending for a unit
  pub distinct : (i u : ℕ) → i ≤ length history → HasDistinctClasses (UnitOfWork.pending (unit_before d history i u))
  -- entry by entry it is kept
  pub each : IsTrue (keeps_aborts d history)
