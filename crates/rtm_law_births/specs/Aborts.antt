-- Births and deaths of pending aborts: the entry that posts one makes it, where it is queued (this profile).
use Rattle.std.specs.Prelude.{List, None, Option, Some, [], slice_get, true, ℕ, ◌<◌, ◌∷◌, ◌≡◌, ◌⊎◌}
use Rattle.std.specs.List.{AllByRecursion}
use Rattle.rtm_deck_items.specs.Reading.{job_step, op_at}
use Rattle.rtm_deck_items.specs.View.{DeckView}
use Rattle.rtm_deck_items.specs.declared.deck.Command.{Command}
use Rattle.rtm_deck_items.specs.declared.op.Op.{Op}
use Rattle.rtm_deck_items.specs.declared.op.Op.TheVariants.{Abterm, Detach}
use Rattle.rtm_model.specs.declared.abort.Abort.{Abort}
use Rattle.rtm_model.specs.declared.entry.Entry.{Entry}
use Rattle.rtm_model.specs.declared.entry.Fate.{Fate}
use Rattle.rtm_model.specs.declared.entry.Fate.TheVariants.{Queued}
use Rattle.rtm_model.specs.declared.entry.What.{What}
use Rattle.rtm_model.specs.declared.entry.What.TheVariants.{Arrive, Begin, Done, Exec}
use Rattle.rtm_model.specs.declared.error_record.ErrorRecord.{ErrorRecord}
use Rattle.rtm_model.specs.Entries.{EndsAbort}
use Rattle.rtm_model.specs.Posts.{abterm_abort, cancel_abort, detach_abort, mother_abort, srb_abort, step_abort}
use Rattle.rtm_model.specs.Advance.{cause_of, world}
use Rattle.rtm_model.specs.Moments.{IsIn}
use Rattle.rtm_model.specs.Surroundings.{fate_in}
use Rattle.rtm_model.specs.Tasks.{Tree, is_subtask_of, life_of}
use Rattle.rtm_model.specs.World.{Core, UnitOfWork, World, core_at, related_task, unit_at}
use Rattle.rtm_model.specs.declared.entry.Class.TheVariants as classes
use Rattle.rtm_law_births.specs.Life.{HasTheLiving, Table}

-- an abort, and the unit for which it is pending
pub record PendingAbort : Type 0 where
  pub target : ℕ
  pub abort : Abort

-- that abort is posted to that unit, and is queued
pub record IsQueued (x : PendingAbort) (target : ℕ) (abort : Abort) (fate : Fate) : Type 0 where
  pub target_is : x.target ≡ target
  pub abort_is : x.abort ≡ abort
  pub queued : fate ≡ Queued

-- DETACH and CALLRTM ABTERM, with 0 where the abort is queued
abbrev pub CardPosts : ℕ → ℕ → Op → PendingAbort → Type 0
CardPosts n rc (Detach unit stae) x = (rc ≡ 0) × (x.target ≡ unit) × (x.abort ≡ detach_abort n stae)
CardPosts n rc (Abterm unit code reason dump retry) x =
    (rc ≡ 0) × (x.target ≡ unit) × (x.abort ≡ abterm_abort n code reason dump retry)
CardPosts n rc _ x = ⊥

-- the operator's CANCEL
abbrev pub CommandPosts : ℕ → Fate → Option Command → PendingAbort → Type 0
CommandPosts n became None x = ⊥
CommandPosts n became (Some command) x = IsQueued x command.target (cancel_abort n command.dump) became

-- a task that begins to end, to each other unit that lives as its subtask
pub record MotherPosts (w : World) (n u : ℕ) (x : PendingAbort) : Type 0 where
  pub other : x.target ≡ u → ⊥
  pub subtask : is_subtask_of u (life_of x.target (Tree.lives w.tree)) ≡ true
  pub posts : IsQueued x x.target (mother_abort n) (fate_in w x.target classes.Mother)

-- a unit that an error ended, to the related task of an SRB
abbrev pub RelatedPosts : ℕ → Option ℕ → Option ErrorRecord → Option Fate → PendingAbort → Type 0
RelatedPosts n (Some task) (Some r) (Some fate) x = IsQueued x task (srb_abort n r) fate
RelatedPosts n _ _ _ x = ⊥

-- and to the job step task
abbrev pub StepPosts : DeckView → ℕ → Option ErrorRecord → Option Fate → PendingAbort → Type 0
StepPosts d n (Some r) (Some fate) x = IsQueued x (job_step d) (step_abort n r) fate
StepPosts d n _ _ x = ⊥

abbrev pub EntryMakes : DeckView → World → ℕ → ℕ → What → PendingAbort → Type 0
EntryMakes d w n u (Exec at rc) x = CardPosts n rc (op_at d at.prog at.op) x
EntryMakes d w n u (Arrive cmd fate) x = CommandPosts n fate (slice_get d.commands cmd) x
EntryMakes d w n u (Begin code dump) x = MotherPosts w n u x
EntryMakes d w n u (Done code to_task to_step) x =
    RelatedPosts n (related_task d u) (cause_of (Core.begun (core_at u w))) to_task x
    ⊎ StepPosts d n (cause_of (Core.begun (core_at u w))) to_step x
EntryMakes d w n u _ x = ⊥

-- its LAND is its death, and the BEGIN and PURGE of its target are
abbrev pub EntryKills : ℕ → What → PendingAbort → Type 0
EntryKills u what x = EndsAbort x.target (Abort.class x.abort) (Abort.from x.abort) u what

abbrev pub aborts : Table PendingAbort
aborts = record {
  has = λ w x. IsIn x.abort (UnitOfWork.pending (unit_at x.target w.units));
  starts = λ d x. ⊥;
  makes = λ d w n e x. EntryMakes d w n e.unit e.what x;
  kills = λ d w n e x. EntryKills e.unit e.what x;
}

-- one was posted by an earlier entry, or both by one DONE, the SRB's error before the end of the job step
abbrev pub ComesBefore : Abort → Abort → Type 0
ComesBefore a b = (a.from < b.from) ⊎ ((a.from ≡ b.from) × (a.class ≡ classes.Srb) × (b.class ≡ classes.Step))

abbrev pub ComeInTurn : List Abort → Type 0
ComeInTurn [] = Unit {0}
ComeInTurn (abort ∷ later) = AllByRecursion (ComesBefore abort) later × ComeInTurn later

-- each unit's list of pending aborts has those that live, in the order in which they were posted
pub record AreTheAborts (d : DeckView) (history : List Entry) : Type 0 where
  pub living : HasTheLiving aborts d history
  pub order : (u : ℕ) → ComeInTurn (UnitOfWork.pending (unit_at u (World.units (world d history))))
