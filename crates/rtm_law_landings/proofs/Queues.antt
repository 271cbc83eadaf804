-- What an entry queues is pending after it.
use Rattle.std.proofs.Common.{◌≡◌, ℕ, ◌+◌, Bool, true, false, not, ◌&&◌, ◌||◌, List, length, take, Option, Some, None, refl, sym, ap, subst, inl, inr, ◌⊎◌, ◌∙◌}
use Rattle.std.proofs.lemmas.Bool.{and_parts, eq-eqb, eqb-true, false_from_ne_true}
use Rattle.std.specs.Option.{option_map_or}
use Rattle.std.specs.Prelude.{IsSomeAnd, IsTrue, if◌then◌else◌, is_none, is_some, slice_get, ◌==◌}
use Rattle.rtm_codes.specs.declared.code.Code.{Code}
use Rattle.rtm_deck_items.specs.Reading.{job_step, op_at}
use Rattle.rtm_deck_items.specs.View.{DeckView}
use Rattle.rtm_deck_items.specs.WellFormed.{is_well_formed}
use Rattle.rtm_deck_items.specs.declared.deck.Command.{Command}
use Rattle.rtm_deck_items.specs.declared.op.Op.{Op}
use Rattle.rtm_deck_items.specs.declared.op.Op.TheVariants as ops
use Rattle.rtm_model.specs.declared.abort.Abort.{Abort}
use Rattle.rtm_model.specs.declared.entry.Class.{Class}
use Rattle.rtm_model.specs.declared.entry.Class.TheVariants as classes
use Rattle.rtm_model.specs.declared.entry.Entry.{Entry}
use Rattle.rtm_model.specs.declared.entry.Fate.{Fate}
use Rattle.rtm_model.specs.declared.entry.Fate.TheVariants.{Late, Merged, Queued}
use Rattle.rtm_model.specs.declared.entry.What.{What}
use Rattle.rtm_model.specs.declared.entry.What.TheVariants as whats
use Rattle.rtm_model.specs.declared.error_record.ErrorRecord.{ErrorRecord}
use Rattle.rtm_model.specs.AbortLaw.{IsPending, card_queues, is_queued, is_queued_at, is_queued_if, is_subtask, queues}
use Rattle.rtm_model.specs.Aborts.{has_class, is_same_class}
use Rattle.rtm_model.specs.Advance.{cause_of, world}
use Rattle.rtm_model.specs.Arrivals.{arrival_fate, arrival_of, goes_on, target_of}
use Rattle.rtm_model.specs.Entries.{has_begun, is_begin_of}
use Rattle.rtm_model.specs.Legal.{Legal}
use Rattle.rtm_model.specs.Moments.{IsAt, IsIn, before}
use Rattle.rtm_model.specs.Posts.{abterm_abort, cancel_abort, detach_abort, mother_abort, srb_abort, step_abort}
use Rattle.rtm_model.specs.Surroundings.{fate_in, is_late, related_fate, step_fate}
use Rattle.rtm_model.specs.Tasks.{Life, Lives, Tree, is_living, is_number, is_subtask_of, life_of, mother_of}
use Rattle.rtm_model.specs.World.{Beginning, Core, World, core_at, lives_in, related_task}
use Rattle.rtm_law_births.specs.Aborts.{CardPosts, CommandPosts, EntryMakes, MotherPosts, PendingAbort, RelatedPosts, StepPosts}
use Rattle.rtm_law_births.proofs.AbortEntries.{follows}
use Rattle.rtm_law_births.proofs.Histories.{before-next}
use Rattle.rtm_law_births.proofs.Living.{IsMade}
use Rattle.rtm_law_births.proofs.Outcomes.{FatesAre, outcome_of}
use Rattle.rtm_law_sound.proofs.Histories.{prefix_legal}
use Rattle.rtm_law_landings.proofs.Appended.{any_from, any_longer, front_length, front_made, front_made_last}
use Rattle.rtm_law_landings.proofs.Booleans.{all_three, either_of, not-not}
use Rattle.rtm_law_landings.proofs.Changes.{begun_agree}
use Rattle.rtm_law_landings.proofs.Lives.{mothers_agree, not_master}
use Rattle.rtm_law_landings.proofs.Named.{class_in, named_in, same_is}
use Rattle.rtm_law_landings.proofs.Nexts.{IsMasters, IsUnits, next_is, pending_in}
use Rattle.rtm_law_landings.proofs.Posted.{posted}
use Rattle.rtm_law_landings.proofs.Subtasks.{no_own_subtask, subtask_is_alive}

-- an abort of that class is made for the target, and has the name of the entry of index n
pub record Made (P : PendingAbort → Type 0) (n : ℕ) (class : Class) (target : ℕ) : Type 0 where
  pub abort : Abort
  pub class_is : abort.class ≡ class
  pub from_is : abort.from ≡ n
  pub makes : P (record { target = target; abort = abort })

queued_is : (fate : Fate) → is_queued fate ≡ true → fate ≡ Queued
queued_is Queued h = refl
queued_is Merged h = absurd cc
queued_is Late h = absurd cc

-- Cards and commands

card_made : (n rc : ℕ) (op : Op) (class : Class) (target : ℕ) → card_queues rc op class target ≡ true → Made (CardPosts n rc op) n class target
card_made n rc (ops.Detach unit stae) class target h =
    let parts = all_three (rc == 0) (unit == target) (is_same_class class classes.Detach) h in
    record {
      abort = detach_abort n stae;
      class_is = sym (same_is class classes.Detach parts.2);
      from_is = refl;
      makes = (eqb-true rc 0 parts.0, sym (eqb-true unit target parts.1), refl);
    }
card_made n rc (ops.Abterm unit code reason dump retry) class target h =
    let parts = all_three (rc == 0) (unit == target) (is_same_class class classes.Abterm) h in
    record {
      abort = abterm_abort n code reason dump retry;
      class_is = sym (same_is class classes.Abterm parts.2);
      from_is = refl;
      makes = (eqb-true rc 0 parts.0, sym (eqb-true unit target parts.1), refl);
    }
card_made n rc _ class target h = absurd cc

command_made : (d : DeckView) (w : World) (n cmd : ℕ) (became : Fate) (class : Class) (target t : ℕ) (quiet : Bool) (e : Entry) (o : Option Command) → slice_get d.commands cmd ≡ o
    → arrival_of t cmd (arrival_fate d w n quiet cmd o) ≡ Some e
    → (is_queued became && (target_of d cmd == target) && is_same_class class classes.Cancel) ≡ true → Made (CommandPosts n became o) n class target
command_made d w n cmd became class target t quiet e None is may h = absurd cc
command_made d w n cmd became class target t quiet e (Some command) is may h =
    let parts = all_three (is_queued became) (target_of d cmd == target) (is_same_class class classes.Cancel) h in
    let at : target_of d cmd ≡ command.target = ap (λ (o : Option Command). option_map_or (λ (c : Command). c.target) o 0) is in
    record {
      abort = cancel_abort n command.dump;
      class_is = sym (same_is class classes.Cancel parts.2);
      from_is = refl;
      makes = record {
        target_is = sym (eqb-true (target_of d cmd) target parts.1) ∙ at;
        abort_is = refl;
        queued = queued_is became parts.0;
      };
    }

-- The end of a unit

related_made : (w : World) (n : ℕ) (rel : Option ℕ) (cause : Option ErrorRecord) (to_task : Option Fate) (class : Class) (target : ℕ)
    → to_task ≡ (if is_some cause then related_fate w rel else None)
    → (is_queued_if to_task && is_number target rel && is_same_class class classes.Srb) ≡ true → Made (RelatedPosts n rel cause to_task) n class target
related_made w n rel cause None class target e h = absurd cc
related_made w n None cause (Some became) class target e h =
    let parts = all_three (is_queued became) false (is_same_class class classes.Srb) h in
    let clash : false ≡ true = parts.1 in
    absurd cc
related_made w n (Some task) None (Some became) class target e h = absurd cc
related_made w n (Some task) (Some r) (Some became) class target e h =
    let parts = all_three (is_queued became) (task == target) (is_same_class class classes.Srb) h in
    record {
      abort = srb_abort n r;
      class_is = sym (same_is class classes.Srb parts.2);
      from_is = refl;
      makes = record { target_is = sym (eqb-true task target parts.1); abort_is = refl; queued = queued_is became parts.0 };
    }

step_made : (d : DeckView) (w : World) (n u : ℕ) (cause : Option ErrorRecord) (to_step : Option Fate) (class : Class) (target : ℕ)
    → to_step ≡ (if option_map_or (λ (r : ErrorRecord). r.flags.step) cause false then step_fate d w u else None)
    → (is_queued_if to_step && (job_step d == target) && is_same_class class classes.Step) ≡ true → Made (StepPosts d n cause to_step) n class target
step_made d w n u cause None class target e h = absurd cc
step_made d w n u None (Some became) class target e h = absurd cc
step_made d w n u (Some r) (Some became) class target e h =
    let parts = all_three (is_queued became) (job_step d == target) (is_same_class class classes.Step) h in
    record {
      abort = step_abort n r;
      class_is = sym (same_is class classes.Step parts.2);
      from_is = refl;
      makes = record { target_is = sym (eqb-true (job_step d) target parts.1); abort_is = refl; queued = queued_is became parts.0 };
    }

-- one of two posts
made_left : {P Q : PendingAbort → Type 0} (n : ℕ) (class : Class) (target : ℕ) → Made P n class target → Made (λ x. P x ⊎ Q x) n class target
made_left n class target m = record { abort = m.abort; class_is = m.class_is; from_is = m.from_is; makes = inl m.makes }

made_right : {P Q : PendingAbort → Type 0} (n : ℕ) (class : Class) (target : ℕ) → Made Q n class target → Made (λ x. P x ⊎ Q x) n class target
made_right n class target m = record { abort = m.abort; class_is = m.class_is; from_is = m.from_is; makes = inr m.makes }

module _ (d : DeckView) (w : World) (n u : ℕ) (code : Code) (to_task to_step : Option Fate) (class : Class) (target : ℕ) where
  done_either : (begun : Beginning) → FatesAre d w u to_task to_step (Some begun)
      → ((is_queued_if to_task && is_number target (related_task d u) && is_same_class class classes.Srb) ≡ true)
      ⊎ ((is_queued_if to_step && (job_step d == target) && is_same_class class classes.Step) ≡ true)
      → Made (λ x. RelatedPosts n (related_task d u) begun.cause to_task x ⊎ StepPosts d n begun.cause to_step x) n class target
  done_either begun fates (inl srb) = made_left n class target (related_made w n (related_task d u) begun.cause to_task class target fates.0 srb)
  done_either begun fates (inr step) = made_right n class target (step_made d w n u begun.cause to_step class target fates.1 step)

  done_made : (o : Option Beginning) → IsSomeAnd o (λ begun. begun.code ≡ code) → FatesAre d w u to_task to_step o
      → ((is_queued_if to_task && is_number target (related_task d u) && is_same_class class classes.Srb)
      || (is_queued_if to_step && (job_step d == target) && is_same_class class classes.Step)) ≡ true
      → Made (λ x. RelatedPosts n (related_task d u) (cause_of o) to_task x ⊎ StepPosts d n (cause_of o) to_step x) n class target
  done_made None has fates h = absurd has
  done_made (Some begun) has fates h = done_either begun fates (either_of _ _ h)

-- A task begins to end

-- who posts an abort of this class begins to end
abbrev IsMothers : DeckView → List Entry → ℕ → What → ℕ → Type 0
IsMothers d front u what target = (is_begin_of u u what ≡ true) × (is_subtask d front u target ≡ true)

mothers_card : (rc : ℕ) (op : Op) (target : ℕ) → card_queues rc op classes.Mother target ≡ true → ⊥
mothers_card rc (ops.Detach unit stae) target h = let parts = all_three (rc == 0) (unit == target) false h in let clash : false ≡ true = parts.2 in cc
mothers_card rc (ops.Abterm unit code reason dump retry) target h = let parts = all_three (rc == 0) (unit == target) false h in let clash : false ≡ true = parts.2 in cc
mothers_card rc _ target h = cc

mothers_done : (a b c e : Bool) → ((a && b && false) ≡ true) ⊎ ((c && e && false) ≡ true) → ⊥
mothers_done a b c e (inl h) = let clash : false ≡ true = (all_three a b false h).2 in cc
mothers_done a b c e (inr h) = let clash : false ≡ true = (all_three c e false h).2 in cc

mothers_alone : (d : DeckView) (front : List Entry) (u : ℕ) (what : What) (target : ℕ) → queues d front u what classes.Mother target ≡ true → IsMothers d front u what target
mothers_alone d front u (whats.Exec at rc) target h = absurd (mothers_card rc (op_at d at.prog at.op) target h)
mothers_alone d front u (whats.Arrive cmd became) target h =
    let clash : false ≡ true = (all_three (is_queued became) (target_of d cmd == target) false h).2 in
    absurd cc
mothers_alone d front u (whats.Begin code dump) target h = (eq-eqb u u refl, (all_three (is_subtask d front u target) (not (has_begun target front)) true h).0)
mothers_alone d front u (whats.Done code to_task to_step) target h =
    absurd (mothers_done (is_queued_if to_task) (is_number target (related_task d u)) (is_queued_if to_step) (job_step d == target) (either_of _ _ h))
mothers_alone d front u _ target h = absurd cc

none_some : (o : Option Beginning) → is_none o ≡ true → is_some o ≡ false
none_some None h = refl
none_some (Some begun) h = absurd cc

module _ (d : DeckView) (h : List Entry) (deck : IsTrue (is_well_formed d)) (legal : Legal d h) (u : ℕ) (code : Code) (dump : Bool) (target : ℕ)
    (m : IsMade d (world d h) (length h) (record { unit = u; what = whats.Begin code dump }))
    (task : is_subtask d h u target ≡ true) (fresh : has_begun target h ≡ false) where
  -- the task is one of the deck's, so memory end hasn't begun, and it begins to end for the first time
  quiet_by : IsUnits d (world d h) u (whats.Begin code dump) ⊎ IsMasters d (world d h) u (whats.Begin code dump) → lives_in (world d h) u ≡ true → is_some (World.memory_end (world d h)) ≡ false
  quiet_by (inl units) lives = ap is_some (IsUnits.quiet units)
  quiet_by (inr masters) lives = absurd (not_master d (world d h) (length h) u m.sound lives (IsMasters.is_master masters))

  standing : (lives_in (world d h) u ≡ true) × (is_none (Core.begun (core_at u (world d h))) ≡ true)
  standing = and_parts (lives_in (world d h) u) (is_none (Core.begun (core_at u (world d h)))) m.can.what.0

  first_time : has_begun u h ≡ false
  first_time = sym (begun_agree d h deck legal u) ∙ none_some (Core.begun (core_at u (world d h))) standing.1

  life : life_of target (Tree.lives (World.tree (world d h))) ≡ Lives (Some u)
  life = subtask_is_alive d h deck legal target fresh (quiet_by (next_is d (world d h) u (whats.Begin code dump) m.may) standing.0) u task

  -- so no abort of the class is pending for the subtask
  other_mother : (a : Abort) → IsIn a (pending_in (world d h) target) → classes.Mother ≡ a.class → ⊥
  other_mother a there class_is =
      let by = posted d h deck legal target a there in
      let e : Entry = by.entry in
      let front : List Entry = take a.from h in
      let one = mothers_alone d front e.unit e.what target (subst (λ (c : Class). queues d front e.unit e.what c target ≡ true) (sym class_is) by.queued) in
      let theirs : is_subtask d h e.unit target ≡ true = any_longer _ h a.from one.1 in
      let number : is_number e.unit (Some u) ≡ true = subst (λ (l : Life). is_number e.unit (mother_of l) ≡ true) life (mothers_agree d h deck legal e.unit target ∙ theirs) in
      let same : u ≡ e.unit = eqb-true u e.unit number in
      let begins : is_begin_of u e.unit e.what ≡ true = subst (λ (i : ℕ). is_begin_of i e.unit e.what ≡ true) (sym same) one.0 in
      let again : has_begun u h ≡ true = any_from (λ (x : Entry). is_begin_of u x.unit x.what) h a.from e by.at begins in
      let clash : false ≡ true = sym first_time ∙ again in
      cc

  none_pending : has_class classes.Mother (pending_in (world d h) target) ≡ false
  none_pending = false_from_ne_true _ (λ some. let one = class_in classes.Mother (pending_in (world d h) target) some in other_mother one.0 one.1 one.2)

  in_time : is_late (world d h) target ≡ false
  in_time =
      ap (λ (l : Life). not (is_living l) || is_some (Core.begun (core_at target (world d h)))) life
      ∙ begun_agree d h deck legal target ∙ fresh

  queued_now : fate_in (world d h) target classes.Mother ≡ Queued
  queued_now = rw (in_time, none_pending) refl

  pub mother_posts : MotherPosts (world d h) (length h) u (record { target = target; abort = mother_abort (length h) })
  mother_posts = record {
    other = λ same. no_own_subtask d h deck legal u (subst (λ (i : ℕ). is_subtask d h u i ≡ true) same task);
    subtask = ap (is_subtask_of u) life ∙ eq-eqb u u refl;
    posts = record { target_is = refl; abort_is = refl; queued = queued_now };
  }

-- Each entry

begin_made : (d : DeckView) (h : List Entry) → IsTrue (is_well_formed d) → Legal d h → (u : ℕ) (code : Code) (dump : Bool) (class : Class) (target : ℕ)
    → IsMade d (world d h) (length h) (record { unit = u; what = whats.Begin code dump })
    → (is_subtask d h u target && not (has_begun target h) && is_same_class class classes.Mother) ≡ true → Made (MotherPosts (world d h) (length h) u) (length h) class target
begin_made d h deck legal u code dump class target m queue =
    let parts = all_three (is_subtask d h u target) (not (has_begun target h)) (is_same_class class classes.Mother) queue in
    let fresh : has_begun target h ≡ false = sym (not-not (has_begun target h)) ∙ ap not parts.1 in
    record {
      abort = mother_abort (length h);
      class_is = sym (same_is class classes.Mother parts.2);
      from_is = refl;
      makes = mother_posts d h deck legal u code dump target m parts.0 fresh;
    }

made_by : (d : DeckView) (h : List Entry) → IsTrue (is_well_formed d) → Legal d h → (u : ℕ) (what : What) (class : Class) (target : ℕ)
    → IsMade d (world d h) (length h) (record { unit = u; what = what }) → queues d h u what class target ≡ true
    → Made (EntryMakes d (world d h) (length h) u what) (length h) class target
made_by d h deck legal u (whats.Exec at rc) class target m queue = card_made (length h) rc (op_at d at.prog at.op) class target queue
made_by d h deck legal u (whats.Arrive cmd became) class target m queue =
    command_made d (world d h) (length h) cmd became class target (target_of d cmd) (not (goes_on d (world d h))) _ (slice_get d.commands cmd) refl m.may queue
made_by d h deck legal u (whats.Begin code dump) class target m queue = begin_made d h deck legal u code dump class target m queue
made_by d h deck legal u (whats.Done code to_task to_step) class target m queue =
    done_made d (world d h) (length h) u code to_task to_step class target (Core.begun (core_at u (world d h))) m.can.what.1 (outcome_of d (world d h) u (whats.Done code to_task to_step) m.may) queue
made_by d h deck legal u _ class target m queue = absurd cc

module _ (d : DeckView) (h : List Entry) (deck : IsTrue (is_well_formed d)) (legal : Legal d h) (from target : ℕ) (class : Class) where
  made_pending : (e : Entry) → IsAt h from e → Made (EntryMakes d (before d h from) from e.unit e.what) from class target → IsPending d h (from + 1) target class from
  made_pending e at made =
      let moves = follows.changes d (before d h from) from e (front_made d h deck legal from e at) (record { target = target; abort = made.abort }) in
      let after : IsIn made.abort (pending_in (before d h (from + 1)) target) =
      subst (λ (w : World). IsIn made.abort (pending_in w target)) (sym (before-next d h from e at)) (moves.born made.makes) in
      named_in class from made.abort (pending_in (before d h (from + 1)) target) made.class_is made.from_is after

  pending_if : (o : Option Entry) → slice_get h from ≡ o → option_map_or (λ (e : Entry). queues d (take from h) e.unit e.what class target) o false ≡ true → IsPending d h (from + 1) target class from
  pending_if None at queue = absurd cc
  pending_if (Some e) at queue =
      let front : List Entry = take from h in
      let made = made_by d front deck (prefix_legal d h from legal) e.unit e.what class target (front_made_last d h deck legal from e at) queue in
      made_pending e at (subst (λ (n : ℕ). Made (EntryMakes d (before d h from) n e.unit e.what) n class target) (front_length h from e at) made)

  -- what an entry queues is pending after it
  pub queued_pending : is_queued_at d h from class target ≡ true → IsPending d h (from + 1) target class from
  queued_pending queue = pending_if (slice_get h from) refl queue
