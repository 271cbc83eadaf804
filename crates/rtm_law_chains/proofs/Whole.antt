-- Each error of a legal history has a course.
use Rattle.std.proofs.Common.{◌≡◌, ℕ, zero, suc, ◌+◌, ◌≤◌, Bool, true, false, List, [], ◌∷◌, ◌++◌, length, take, drop, Option, Some, None, refl, sym, ap, subst, arith, inl, inr, ◌∙◌}
use Rattle.std.proofs.lemmas.Bool.{eq-eqb, eqb-false, eqb-true}
use Rattle.std.specs.Option.{option_and_then, option_map_or}
use Rattle.std.specs.Prelude.{IsSome, IsSomeAnd, IsTrue, if◌then◌else◌, ◌==◌}
use Rattle.rtm_deck_items.specs.Reading.{op_at}
use Rattle.rtm_deck_items.specs.View.{DeckView}
use Rattle.rtm_deck_items.specs.WellFormed.{is_well_formed}
use Rattle.rtm_deck_items.specs.declared.op.Op.{Op}
use Rattle.rtm_deck_items.specs.declared.op.Op.TheVariants as ops
use Rattle.rtm_model.specs.declared.abort.Abort.{Abort}
use Rattle.rtm_model.specs.declared.entry.Entry.{Entry}
use Rattle.rtm_model.specs.declared.entry.What.{What}
use Rattle.rtm_model.specs.declared.entry.What.TheVariants as whats
use Rattle.rtm_model.specs.declared.error_record.ErrorRecord.{ErrorRecord}
use Rattle.rtm_model.specs.Advance.{world}
use Rattle.rtm_model.specs.Course.{Course, HasCourses, course_after, course_by, course_in, opens_error}
use Rattle.rtm_model.specs.Course.{Closed, Goes, Runs, Stopped}
use Rattle.rtm_model.specs.Eligible.{eligible_list, list_here, list_of}
use Rattle.rtm_model.specs.Entries.{purges}
use Rattle.rtm_model.specs.Legal.{Legal}
use Rattle.rtm_model.specs.Levels.{Bracket, after_error, error_in}
use Rattle.rtm_model.specs.Moments.{IsAt, before}
use Rattle.rtm_model.specs.NextEntry.{landed_record}
use Rattle.rtm_model.specs.OwnChange.{error_record, with_landed}
use Rattle.rtm_model.specs.World.{Core, UnitOfWork, World, core_at, unborn_unit}
use Rattle.rtm_model.specs.inner.Applies.{CanExecute}
use Rattle.rtm_model.specs.inner.Soundness.{IsCoreSound, IsSound}
use Rattle.rtm_law_births.proofs.Cards.{NamesUnit, unit_named}
use Rattle.rtm_law_births.proofs.Cores.{After, BirthOr, core_there, was_unborn}
use Rattle.rtm_law_births.proofs.Histories.{before-next}
use Rattle.rtm_law_births.proofs.Living.{IsMade}
use Rattle.rtm_law_sound.proofs.Histories.{prefix_legal, world-append}
use Rattle.rtm_law_landings.proofs.Appended.{front_made_last, take_next}
use Rattle.rtm_law_landings.proofs.Doomed.{IsLanded, landed}
use Rattle.rtm_law_chains.proofs.Courses.{HasState, IsGoing, IsRunning, IsStopped}
use Rattle.rtm_law_chains.proofs.Frames.{then_is}
use Rattle.rtm_law_chains.proofs.Going.{Step, going, stopped}
use Rattle.rtm_law_chains.proofs.Inside.{deep}
use Rattle.rtm_law_chains.proofs.Leaving.{near}

-- The unit's own entry
own_step : (d : DeckView) (h : List Entry) (u : ℕ) (deck : IsTrue (is_well_formed d)) (legal : Legal d h) (what : What) (course : Course) → HasState (core_at u (world d h)) course → Step d h u deck legal what course
own_step d h u deck legal what (Goes left) state longer m = going d h u deck legal left state what longer m
own_step d h u deck legal what (Runs routine left zero) state longer m = near d h u deck legal routine left state what longer m
own_step d h u deck legal what (Runs routine left (suc k)) state longer m = deep d h u deck legal routine left k state what longer m
own_step d h u deck legal what Stopped state longer m = stopped d h u deck legal state what longer m
own_step d h u deck legal what Closed state longer m = tt

-- No error is open in a unit that wasn't born yet
unborn_course : (course : Course) → HasState (UnitOfWork.core unborn_unit) course → course ≡ Closed
unborn_course (Goes left) state = let clash : None ≡ Some (IsGoing.error state) = IsGoing.open_is state in absurd cc
unborn_course (Runs routine left zero) state = absurd (IsRunning.over state)
unborn_course (Runs routine left (suc k)) state = absurd (IsRunning.over state)
unborn_course Stopped state = let clash : None ≡ Some (IsGoing.error (IsStopped.going state)) = IsGoing.open_is (IsStopped.going state) in absurd cc
unborn_course Closed state = refl

-- The entry of another unit leaves the state, unless it is the unit's purge
module _ (d : DeckView) (w : World) (n u v : ℕ) (course : Course) where
  unborn_state : (unit : ℕ) → IsSound d n w → NamesUnit d (ops.Schedule unit) → (rc : ℕ) → rc ≡ 0 → CanExecute w u rc (ops.Schedule unit) → v ≡ unit → HasState (core_at v w) course → (after : Core) → HasState after course
  unborn_state unit s named rc zero_is can same state after =
      let none : core_at v w ≡ UnitOfWork.core unborn_unit = ap (λ (i : ℕ). core_at i w) same ∙ was_unborn d w n unit s named (can zero_is) in
      let closed : course ≡ Closed = unborn_course course (subst (λ (c : Core). HasState c course) none state) in
      subst (HasState after) (sym closed) tt

  card_state : (rc : ℕ) (op : Op) → IsSound d n w → NamesUnit d op → CanExecute w u rc op → (after : Core) → BirthOr d w n u v rc op after (core_at v w) → HasState (core_at v w) course → HasState after course
  card_state rc (ops.Attachx unit estai term) s named can after (inl born) state = unborn_state unit s named rc born.rc_is can born.unit_is state after
  card_state rc (ops.Attachx unit estai term) s named can after (inr kept) state = subst (λ (c : Core). HasState c course) (sym kept.core) state
  card_state rc (ops.Schedule unit) s named can after (inl born) state = unborn_state unit s named rc born.rc_is can born.unit_is state after
  card_state rc (ops.Schedule unit) s named can after (inr kept) state = subst (λ (c : Core). HasState c course) (sym kept.core) state
  card_state rc _ s named can after same state = subst (λ (c : Core). HasState c course) (sym same) state

  other_state : (what : What) → IsMade d w n (record { unit = u; what = what }) → purges v what ≡ false → (after : Core) → After d w n u v what after (core_at v w) → HasState (core_at v w) course → HasState after course
  other_state (whats.Exec at rc) m stays after h state = card_state rc (op_at d at.prog at.op) m.sound (unit_named d m.deck at.prog at.op) m.can.what.1 after h state
  other_state (whats.Purge unit) m stays after (inl is) state = let clash : (unit == v) ≡ true = eq-eqb unit v (sym is.0) in absurd cc
  other_state (whats.Purge unit) m stays after (inr apart) state = subst (λ (c : Core). HasState c course) (sym apart.1) state
  other_state what m stays after same state = subst (λ (c : Core). HasState c course) (sym same) state

-- One entry
module _ (d : DeckView) (h : List Entry) (e : Entry) (u : ℕ) (deck : IsTrue (is_well_formed d)) (legal : Legal d h) (longer : Legal d (h ++ e ∷ [])) (m : IsMade d (world d h) (length h) e) (course : Course)
    (state : HasState (core_at u (world d h)) course) where
  own_or : (b : Bool) → (e.unit == u) ≡ b → purges u e.what ≡ false
      → IsSomeAnd (if b then course_by (core_at u (world d h)) e.what course else Some course) (HasState (core_at u (world d (h ++ e ∷ []))))
  own_or true same stays =
      subst (λ (v : ℕ). IsSomeAnd (course_by (core_at v (world d h)) e.what course) (HasState (core_at v (world d (h ++ e ∷ []))))) (eqb-true e.unit u same)
      (own_step d h e.unit deck legal e.what course (subst (λ (v : ℕ). HasState (core_at v (world d h)) course) (sym (eqb-true e.unit u same)) state) longer m)
  own_or false other stays =
      subst (λ (w : World). HasState (core_at u w) course) (sym (world-append d h e))
      (other_state d (world d h) (length h) e.unit u course e.what m stays _ (core_there d (world d h) (length h) e.unit u e.what m (λ same. eqb-false e.unit u other (sym same))) state)

  purged_or : (b : Bool) → purges u e.what ≡ b
      → IsSomeAnd (if b then Some Closed else if e.unit == u then course_by (core_at u (world d h)) e.what course else Some course) (HasState (core_at u (world d (h ++ e ∷ []))))
  purged_or true goes = tt
  purged_or false stays = own_or (e.unit == u) refl stays

  one_step : IsSomeAnd (course_after u (world d h) e course) (HasState (core_at u (world d (h ++ e ∷ []))))
  one_step = purged_or (purges u e.what) refl

-- The rest of a history

pub drop_at : (h : List Entry) (k : ℕ) (e : Entry) (es : List Entry) → drop k h ≡ e ∷ es → IsAt h k e × (drop (k + 1) h ≡ es)
drop_at [] zero e es same = absurd cc
drop_at [] (suc k) e es same = absurd cc
drop_at (x ∷ h) zero e es same = let one : x ≡ e = cc in let rest : h ≡ es = cc in (ap Some one, rest)
drop_at (x ∷ h) (suc k) e es same =
    let more = drop_at h k e es same in
    let m : suc k + 1 ≡ suc (k + 1) = omega arith in
    (more.0, ap (λ (i : ℕ). drop i (x ∷ h)) m ∙ more.1)

module _ (d : DeckView) (history : List Entry) (deck : IsTrue (is_well_formed d)) (legal : Legal d history) (u : ℕ) where
  pub step_at : (k : ℕ) (e : Entry) → IsAt history k e → (course : Course) → HasState (core_at u (before d history k)) course
      → IsSomeAnd (course_after u (before d history k) e course) (HasState (core_at u (before d history (k + 1))))
  step_at k e at course state =
      let next = take_next history k e at in
      subst (λ (es : List Entry). IsSomeAnd (course_after u (before d history k) e course) (HasState (core_at u (world d es)))) (sym next)
      (one_step d (take k history) e u deck (prefix_legal d history k legal) (subst (Legal d) next (prefix_legal d history (k + 1) legal)) (front_made_last d history deck legal k e at) course state)

  after_option : (k : ℕ) (es : List Entry) (o : Option Course) → IsSomeAnd o (HasState (core_at u (before d history (k + 1))))
      → ((course : Course) → HasState (core_at u (before d history (k + 1))) course → IsSome (course_in d u (before d history (k + 1)) (k + 1) es course))
      → IsSome (option_and_then (λ after. course_in d u (before d history (k + 1)) (k + 1) es after) o)
  after_option k es None h rest = absurd h
  after_option k es (Some course) h rest = rest course h

  goes_on : (es : List Entry) (k : ℕ) → drop k history ≡ es → (course : Course) → HasState (core_at u (before d history k)) course → IsSome (course_in d u (before d history k) k es course)
  goes_on [] k same course state = refl
  goes_on (e ∷ es) k same course state =
      let at = drop_at history k e es same in
      subst (λ (w : World). IsSome (option_and_then (λ after. course_in d u w (k + 1) es after) (course_after u (before d history k) e course))) (before-next d history k e at.0)
      (after_option k es (course_after u (before d history k) e course) (step_at k e at.0 course state) (goes_on es (k + 1) at.1))

-- An error is born: its bracket is the innermost, and its list is whole

born_state : (c : Core) (r : ErrorRecord) → error_in c.levels ≡ Some r → IsGoing c (list_here c)
born_state c r e = record { error = r; open_is = e; list_is = sym (ap (λ (o : Option ErrorRecord). option_map_or (eligible_list c) o []) e) }

opened_in : (r : ErrorRecord) (ls : List Bracket) → 1 ≤ length ls → error_in (after_error r ls) ≡ Some r
opened_in r [] some = absurd (omega (arith, some))
opened_in r (l ∷ ls) some = refl

module _ (d : DeckView) (h : List Entry) (u : ℕ) (deck : IsTrue (is_well_formed d)) (legal : Legal d h) where
  born_open : (what : What) → Legal d (h ++ record { unit = u; what = what } ∷ []) → IsMade d (world d h) (length h) (record { unit = u; what = what }) → opens_error what ≡ true
      → (r : ErrorRecord) × (error_in (Core.levels (core_at u (world d (h ++ record { unit = u; what = what } ∷ [])))) ≡ Some r)
  born_open (whats.Error at mark) longer m opens =
      let c : Core = core_at u (world d h) in
      let r : ErrorRecord = error_record c.doomed mark (op_at d at.prog at.op) in (
        r,
        ap (λ (c : Core). error_in c.levels) (then_is d h u (whats.Error at mark) deck legal longer m) ∙ opened_in r c.levels (IsCoreSound.levels_some (IsSound.cores m.sound u)),
      )
  born_open (whats.Land class from mark) longer m opens =
      let c : Core = core_at u (world d h) in
      let is = landed d (world d h) (length h) u class from mark m in (
        landed_record (IsLanded.first is),
        ap (λ (c : Core). error_in c.levels) (then_is d h u (whats.Land class from mark) deck legal longer m)
            ∙ ap (λ (o : Option Abort). error_in (Core.levels (with_landed o c))) (IsLanded.named is)
            ∙ opened_in (landed_record (IsLanded.first is)) c.levels (IsCoreSound.levels_some (IsSound.cores m.sound u)),
      )
  born_open _ longer m opens = absurd cc

module _ (d : DeckView) (history : List Entry) (deck : IsTrue (is_well_formed d)) (legal : Legal d history) where
  pub born_at : (i : ℕ) (e : Entry) → IsAt history i e → opens_error e.what ≡ true → HasState (core_at e.unit (before d history (i + 1))) (Goes (list_of d history i e.unit))
  born_at i e at opens =
      let next = take_next history i e at in
      let is = born_open d (take i history) e.unit deck (prefix_legal d history i legal) e.what (subst (Legal d) next (prefix_legal d history (i + 1) legal)) (front_made_last d history deck legal i e at) opens in
      born_state (core_at e.unit (before d history (i + 1))) is.0 (ap (λ (es : List Entry). error_in (Core.levels (core_at e.unit (world d es)))) next ∙ is.1)

  pub has_courses : HasCourses d history
  has_courses = record {
    has = λ i e at opens. goes_on d history deck legal e.unit (drop (i + 1) history) (i + 1) refl (Goes (list_of d history i e.unit)) (born_at i e at opens);
  }
