-- Each pending abort was queued by the entry that it names.
use Rattle.std.proofs.Common.{◌≡◌, ℕ, ◌<◌, Bool, true, false, not, ◌&&◌, List, length, take, Option, Some, None, refl, sym, ap, subst, arith, inl, inr, ◌∙◌}
use Rattle.std.proofs.lemmas.Bool.{eq-eqb, or_left, or_parts, or_right}
use Rattle.std.specs.Option.{option_and_then}
use Rattle.std.specs.Prelude.{IsTrue, if◌then◌else◌, slice_get, ◌==◌}
use Rattle.rtm_codes.specs.declared.code.Code.{Code}
use Rattle.rtm_deck_items.specs.Reading.{job_step, op_at}
use Rattle.rtm_deck_items.specs.View.{DeckView}
use Rattle.rtm_deck_items.specs.WellFormed.{is_well_formed}
use Rattle.rtm_deck_items.specs.declared.deck.Command.{Command}
use Rattle.rtm_deck_items.specs.declared.op.Op.{Op}
use Rattle.rtm_deck_items.specs.declared.op.Op.TheVariants as ops
use Rattle.rtm_model.specs.declared.abort.Abort.{Abort}
use Rattle.rtm_model.specs.declared.entry.Class.{Class}
use Rattle.rtm_model.specs.declared.entry.Class.TheVariants as classes
use Rattle.rtm_model.specs.declared.entry.Entry.{Entry}
use Rattle.rtm_model.specs.declared.entry.Fate.{Fate}
use Rattle.rtm_model.specs.declared.entry.Fate.TheVariants.{Late, Merged, Queued}
use Rattle.rtm_model.specs.declared.entry.What.{What}
use Rattle.rtm_model.specs.declared.entry.What.TheVariants as whats
use Rattle.rtm_model.specs.declared.error_record.ErrorRecord.{ErrorRecord}
use Rattle.rtm_model.specs.AbortLaw.{card_queues, is_queued_at, is_queued_if, is_subtask, queues}
use Rattle.rtm_model.specs.Aborts.{is_same_class}
use Rattle.rtm_model.specs.Advance.{world}
use Rattle.rtm_model.specs.Entries.{class_forbids_retry, executed_op, forbids_retry, has_begun, op_executed_at}
use Rattle.rtm_model.specs.Legal.{Legal}
use Rattle.rtm_model.specs.Moments.{IsAt, IsIn}
use Rattle.rtm_model.specs.Surroundings.{is_late}
use Rattle.rtm_model.specs.Tasks.{Dormant, HasEnded, Life, Lives, Tree, is_number, is_subtask_of, life_of, mother_of}
use Rattle.rtm_model.specs.World.{World, related_task}
use Rattle.rtm_law_births.specs.Aborts.{CardPosts, CommandPosts, EntryMakes, IsQueued, MotherPosts, PendingAbort, RelatedPosts, StepPosts, aborts}
use Rattle.rtm_law_births.specs.Life.{LivesBefore, LivesSince}
use Rattle.rtm_law_births.proofs.Sound.{sound_history}
use Rattle.rtm_law_births.proofs.Turns.{aborts_live}
use Rattle.rtm_law_sound.proofs.Histories.{prefix_legal}
use Rattle.rtm_law_landings.proofs.Booleans.{not-not}
use Rattle.rtm_law_landings.proofs.Changes.{begun_agree}
use Rattle.rtm_law_landings.proofs.Lives.{mothers_agree}
use Rattle.rtm_law_landings.proofs.Nexts.{pending_in}

-- the entry of index i, behind those, makes the abort
pub record IsPostedBy (d : DeckView) (front : List Entry) (i u : ℕ) (what : What) (target : ℕ) (a : Abort) : Type 0 where
  pub from : a.from ≡ i
  pub queues : queues d front u what a.class target ≡ true
  pub retry : a.retry ≡ not (class_forbids_retry a.class (executed_op d what))

pub not_late : (late : Bool) (there : Bool) → (if late then Late else if there then Merged else Queued) ≡ Queued → late ≡ false
not_late true there e = absurd cc
not_late false there e = refl

has_mother : (u : ℕ) (life : Life) → is_subtask_of u life ≡ true → is_number u (mother_of life) ≡ true
has_mother u Dormant h = absurd cc
has_mother u (Lives mother) h = h
has_mother u (HasEnded mother) h = absurd cc

module _ (d : DeckView) (front : List Entry) (deck : IsTrue (is_well_formed d)) (legal : Legal d front) (i u : ℕ) (x : PendingAbort) where
  card_posted : (what : What) (rc : ℕ) (op : Op) → executed_op d what ≡ Some op → ((class : Class) → queues d front u what class x.target ≡ card_queues rc op class x.target) → CardPosts i rc op x → IsPostedBy d front i u what x.target x.abort
  card_posted what rc (ops.Detach unit stae) is queue h =
      subst (IsPostedBy d front i u what x.target) (sym h.2) (record {
        from = refl;
        queues = queue classes.Detach ∙ rw (eq-eqb rc 0 h.0, eq-eqb unit x.target (sym h.1)) refl;
        retry = refl;
      })
  card_posted what rc (ops.Abterm unit code reason dump retry) is queue h =
      subst (IsPostedBy d front i u what x.target) (sym h.2) (record {
        from = refl;
        queues = queue classes.Abterm ∙ rw (eq-eqb rc 0 h.0, eq-eqb unit x.target (sym h.1)) refl;
        retry = rw is (sym (not-not retry));
      })
  card_posted what rc _ is queue h = absurd h

  command_posted : (cmd : ℕ) (became : Fate) (o : Option Command) → slice_get d.commands cmd ≡ o → CommandPosts i became o x → IsPostedBy d front i u (whats.Arrive cmd became) x.target x.abort
  command_posted cmd became None e h = absurd h
  command_posted cmd became (Some command) e h =
      subst (IsPostedBy d front i u (whats.Arrive cmd became) x.target) (sym h.abort_is) (record {
        from = refl;
        queues = rw (h.queued, e, eq-eqb command.target x.target (sym h.target_is)) refl;
        retry = refl;
      })

  mother_posted : (code : Code) (dump : Bool) → MotherPosts (world d front) i u x → IsPostedBy d front i u (whats.Begin code dump) x.target x.abort
  mother_posted code dump h =
      let w : World = world d front in
      let late : is_late w x.target ≡ false = not_late (is_late w x.target) _ (IsQueued.queued h.posts) in
      let begun : has_begun x.target front ≡ false = sym (begun_agree d front deck legal x.target) ∙ (or_parts _ _ late).1 in
      let task : is_subtask d front u x.target ≡ true = sym (mothers_agree d front deck legal u x.target) ∙ has_mother u (life_of x.target (Tree.lives w.tree)) h.subtask in
      subst (IsPostedBy d front i u (whats.Begin code dump) x.target) (sym (IsQueued.abort_is h.posts)) (record {
        from = refl;
        queues = rw (task, begun) refl;
        retry = refl;
      })

  related_posted : (code : Code) (to_task to_step : Option Fate) (rel : Option ℕ) (cause : Option ErrorRecord) → related_task d u ≡ rel → RelatedPosts i rel cause to_task x → IsPostedBy d front i u (whats.Done code to_task to_step) x.target x.abort
  related_posted code (Some fate) to_step (Some task) (Some r) e h =
      subst (IsPostedBy d front i u (whats.Done code (Some fate) to_step) x.target) (sym h.abort_is) (record {
        from = refl;
        queues =
            let first : (is_queued_if (Some fate) && is_number x.target (related_task d u) && is_same_class classes.Srb classes.Srb) ≡ true = rw (h.queued, e, eq-eqb task x.target (sym h.target_is)) refl in
            or_left _ _ first;
        retry = refl;
      })
  related_posted code None to_step (Some task) (Some r) e h = absurd h
  related_posted code to_task to_step None cause e h = absurd h
  related_posted code to_task to_step (Some task) None e h = absurd h

  step_posted : (code : Code) (to_task to_step : Option Fate) (cause : Option ErrorRecord) → StepPosts d i cause to_step x → IsPostedBy d front i u (whats.Done code to_task to_step) x.target x.abort
  step_posted code to_task (Some fate) (Some r) h =
      subst (IsPostedBy d front i u (whats.Done code to_task (Some fate)) x.target) (sym h.abort_is) (record {
        from = refl;
        queues =
            let second : (is_queued_if (Some fate) && (job_step d == x.target) && is_same_class classes.Step classes.Step) ≡ true = rw (h.queued, eq-eqb (job_step d) x.target (sym h.target_is)) refl in
            or_right _ _ second;
        retry = refl;
      })
  step_posted code to_task None (Some r) h = absurd h
  step_posted code to_task to_step None h = absurd h

  pub posted_by : (what : What) → EntryMakes d (world d front) i u what x → IsPostedBy d front i u what x.target x.abort
  posted_by (whats.Exec at rc) h = card_posted (whats.Exec at rc) rc (op_at d at.prog at.op) refl (λ class. refl) h
  posted_by (whats.Arrive cmd became) h = command_posted cmd became (slice_get d.commands cmd) refl h
  posted_by (whats.Begin code dump) h = mother_posted code dump h
  posted_by (whats.Done code to_task to_step) (inl h) = related_posted code to_task to_step (related_task d u) _ refl h
  posted_by (whats.Done code to_task to_step) (inr h) = step_posted code to_task to_step _ h
  posted_by _ h = absurd h

-- the operation that an entry executed
pub ran_at : (d : DeckView) (h : List Entry) (i : ℕ) (e : Entry) → IsAt h i e → op_executed_at d h i ≡ executed_op d e.what
ran_at d h i e at = ap (λ (o : Option Entry). option_and_then (λ (e : Entry). executed_op d e.what) o) at

-- what the pending abort says of the entries
pub record IsPosted (d : DeckView) (h : List Entry) (v : ℕ) (a : Abort) : Type 0 where
  pub below : a.from < length h
  pub entry : Entry
  pub at : IsAt h a.from entry
  pub queued : queues d (take a.from h) entry.unit entry.what a.class v ≡ true
  pub retry : a.retry ≡ not (forbids_retry d h a.class a.from)
  pub since : LivesSince aborts d h (length h) (record { target = v; abort = a }) a.from

module _ (d : DeckView) (h : List Entry) (deck : IsTrue (is_well_formed d)) (legal : Legal d h) (v : ℕ) (a : Abort) where
  since_posted : (i : ℕ) → LivesSince aborts d h (length h) (record { target = v; abort = a }) i → IsPosted d h v a
  since_posted i since =
      let by = posted_by d (take i h) deck (prefix_legal d h i legal) i (Entry.unit since.entry) (record { target = v; abort = a }) (Entry.what since.entry) since.makes in
      let at : IsAt h a.from since.entry = subst (λ (k : ℕ). IsAt h k since.entry) (sym by.from) since.at in
      record {
        below = omega (arith, since.below, by.from);
        entry = since.entry;
        at = at;
        queued = subst (λ (k : ℕ). queues d (take k h) (Entry.unit since.entry) (Entry.what since.entry) a.class v ≡ true) (sym by.from) by.queues;
        retry = by.retry ∙ ap (λ (o : Option Op). not (class_forbids_retry a.class o)) (sym (ran_at d h a.from since.entry at));
        since = subst (LivesSince aborts d h (length h) (record { target = v; abort = a })) (sym by.from) since;
      }

  lives_posted : LivesBefore aborts d h (length h) (record { target = v; abort = a }) → IsPosted d h v a
  lives_posted (inl none) = absurd none.0
  lives_posted (inr since) = since_posted since.0 since.1

  pub posted : IsIn a (pending_in (world d h) v) → IsPosted d h v a
  posted there = lives_posted ((aborts_live d h (sound_history d h deck legal) legal).living.lives (record { target = v; abort = a }) there)

-- which is what the law says of it
pub queued_at : (d : DeckView) (h : List Entry) (v : ℕ) (a : Abort) → IsPosted d h v a → is_queued_at d h a.from a.class v ≡ true
queued_at d h v a by = rw (IsPosted.at by) (IsPosted.queued by)
