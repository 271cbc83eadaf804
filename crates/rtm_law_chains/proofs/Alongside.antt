-- The chain goes on with the course, entry by entry.
use Rattle.std.proofs.Common.{◌≡◌, ℕ, zero, suc, ◌+◌, ◌-◌, ◌<◌, Bool, true, false, List, [], ◌∷◌, ◌++◌, length, take, Option, Some, None, refl, sym, ap, subst, arith, ◌∙◌}
use Rattle.std.proofs.lemmas.Bool.{eq-eqb, ne_eqb}
use Rattle.std.proofs.lemmas.List.{take_all}
use Rattle.std.specs.Option.{option_map_or}
use Rattle.std.specs.Prelude.{filter, if◌then◌else◌}
use Rattle.rtm_deck_items.specs.View.{DeckView}
use Rattle.rtm_model.specs.declared.entry.Entry.{Entry}
use Rattle.rtm_model.specs.declared.entry.Verdict.{Verdict}
use Rattle.rtm_model.specs.declared.entry.Verdict.TheVariants.{Bad, Fail, Over, Perc, Retry, Stop}
use Rattle.rtm_model.specs.declared.entry.What.{What}
use Rattle.rtm_model.specs.declared.entry.What.TheVariants as whats
use Rattle.rtm_model.specs.declared.error_record.ErrorRecord.{ErrorRecord}
use Rattle.rtm_model.specs.declared.mark.Mark.{Mark}
use Rattle.rtm_model.specs.declared.reg.Kind.{Kind}
use Rattle.rtm_model.specs.declared.reg.Reg.{Reg}
use Rattle.rtm_model.specs.Advance.{world}
use Rattle.rtm_model.specs.ChainLaw.{Leaving, chain, ends_in_stop, forces_end, leavings}
use Rattle.rtm_model.specs.Course.{Course, after_failing, after_routine, after_stop, at_error, close_if, course_by, enter_first, in_routine, inside_routine, rest_by, runs_on}
use Rattle.rtm_model.specs.Course.{Closed, Goes, Runs, Stopped}
use Rattle.rtm_model.specs.Eligible.{is_named}
use Rattle.rtm_model.specs.Entries.{Opening, brackets_of, enclosing_brackets, error_at, own_brackets, purges}
use Rattle.rtm_model.specs.Levels.{error_in}
use Rattle.rtm_model.specs.Tasks.{is_number}
use Rattle.rtm_model.specs.World.{Core, core_at}
use Rattle.rtm_law_chains.proofs.Joint.{HasChain, IsEnded, IsPending, IsSettled, brackets_more, chain_still, ended_same, enters, leave_ends, leaves, leavings_still, neither, not_entered, not_left, pending_same, settled_ends, settled_same, stop_more, stopped_same}
use Rattle.rtm_law_chains.proofs.Marks.{IsAtDepth, IsNowhere, chain_more, closed_here, deeper_around, deeper_here, deeper_with, entered_now, here_around, here_at, leavings_more, left_deeper, left_here, left_now, nowhere_around, nowhere_here, nowhere_own, other_number, outermost_nowhere}
use Rattle.rtm_law_chains.proofs.Walks.{name_is}

some_same : (a b : Course) → Some a ≡ Some b → a ≡ b
some_same a b e = cc

close_is : (b : Bool) (course : Course) → close_if b ≡ Some course → course ≡ Closed
close_is true course e = cc
close_is false course e = absurd cc

first_if : (reg : Reg) (left : List Reg) (b : Bool) (course : Course) → (if b then Some (Runs reg left 0) else None) ≡ Some course → (b ≡ true) × (course ≡ Runs reg left 0)
first_if reg left true course e = (refl, cc)
first_if reg left false course e = absurd cc

pub record IsFirst (kind : Kind) (born : ℕ) (left : List Reg) (course : Course) : Type 0 where
  pub reg : Reg
  pub rest : List Reg
  pub left_is : left ≡ reg ∷ rest
  pub named : is_named kind born reg ≡ true
  pub course_is : course ≡ Runs reg rest 0

first_is : (kind : Kind) (born : ℕ) (left : List Reg) (course : Course) → enter_first kind born left ≡ Some course → IsFirst kind born left course
first_is kind born [] course e = absurd cc
first_is kind born (reg ∷ rest) course e =
    let is = first_if reg rest (is_named kind born reg) course e in
    record { reg = reg; rest = rest; left_is = refl; named = is.0; course_is = is.1 }

left_if : (o : Option Course) (b : Bool) (course : Course) → (if b then o else None) ≡ Some course → (b ≡ true) × (o ≡ Some course)
left_if o true course e = (refl, e)
left_if o false course e = absurd cc

failing_is : (o : Option ErrorRecord) (left : List Reg) (course : Course) → after_failing o left ≡ Some course → (r : ErrorRecord) × (o ≡ Some r) × (course ≡ Goes (rest_by r left))
failing_is None left course e = absurd cc
failing_is (Some r) left course e = (r, refl, cc)

module _ (d : DeckView) (error u : ℕ) (list : List Reg) (h : List Entry) (less : error < length h) where
  abbrev Next : What → List Entry
  Next what = h ++ record { unit = u; what = what } ∷ []

  abbrev Then : What → Course → Type 0
  Then what course = HasChain d error u list (h ++ record { unit = u; what = what } ∷ []) course

  brackets_own : (what : What) → purges u what ≡ false → brackets_of u (h ++ record { unit = u; what = what } ∷ []) ≡ own_brackets (length h) what (brackets_of u h)
  brackets_own what stays = brackets_more u h (record { unit = u; what = what }) ∙ rw (stays, eq-eqb u u refl) refl

  depth_then : (k : ℕ) (what : What) → purges u what ≡ false → IsAtDepth k error (own_brackets (length h) what (brackets_of u h)) → IsAtDepth k error (brackets_of u (h ++ record { unit = u; what = what } ∷ []))
  depth_then k what stays at = subst (IsAtDepth k error) (sym (brackets_own what stays)) at

  nowhere_then : (what : What) → purges u what ≡ false → IsNowhere error (own_brackets (length h) what (brackets_of u h)) → IsNowhere error (brackets_of u (h ++ record { unit = u; what = what } ∷ []))
  nowhere_then what stays at = subst (IsNowhere error) (sym (brackets_own what stays)) at

  no_enter : (what : What) → entered_now error u (length h) (brackets_of u h) (record { unit = u; what = what }) ≡ [] → chain error u (h ++ record { unit = u; what = what } ∷ []) ≡ chain error u h
  no_enter what none = chain_still error u h (record { unit = u; what = what }) none

  no_leave : (what : What) → left_now error u (length h) (brackets_of u h) (record { unit = u; what = what }) ≡ [] → leavings error u (h ++ record { unit = u; what = what } ∷ []) ≡ leavings error u h
  no_leave what none = leavings_still error u h (record { unit = u; what = what }) none

  -- the error's bracket is the innermost
  going_on : (c : Core) (left : List Reg) (what : What) (course : Course) → purges u what ≡ false → at_error c what left ≡ Some course → HasChain d error u list h (Goes left) → Then what course
  going_on c left (whats.Enter kind born mark bare) course stays e (s, at) =
      let is = first_is kind born left course e in
      let o : Opening = record { at = length h; kind = kind; born = born } in
      let now : entered_now error u (length h) (brackets_of u h) (record { unit = u; what = whats.Enter kind born mark bare }) ≡ o ∷ [] = rw (eq-eqb u u refl, here_at error (brackets_of u h) at) refl in
      let chains = chain_more error u h (record { unit = u; what = whats.Enter kind born mark bare }) ∙ ap (λ (os : List Opening). chain error u h ++ os) now in
      let lefts = no_leave (whats.Enter kind born mark bare) (neither _ [] refl) in
      let settled : IsSettled d error u list h (is.reg ∷ is.rest) = subst (IsSettled d error u list h) is.left_is s in
      subst (Then (whats.Enter kind born mark bare)) (sym is.course_is) (
        enters d error u list h (record { unit = u; what = whats.Enter kind born mark bare }) o refl chains lefts is.reg is.rest is.named settled,
        depth_then (suc zero) (whats.Enter kind born mark bare) stays (refl, at),
      )
  going_on c left (whats.Leave kind born verdict logrec dump) course stays e (s, at) =
      let none : is_number error (error_at (enclosing_brackets (brackets_of u h))) ≡ false = nowhere_here error (enclosing_brackets (brackets_of u h)) (here_around error (brackets_of u h) at) in
      let lefts = no_leave (whats.Leave kind born verdict logrec dump) (not_left error u (length h) (brackets_of u h) (record { unit = u; what = whats.Leave kind born verdict logrec dump }) none) in
      subst (Then (whats.Leave kind born verdict logrec dump)) (sym (close_is _ course e)) (
        settled_ends d error u list h (record { unit = u; what = whats.Leave kind born verdict logrec dump }) (no_enter (whats.Leave kind born verdict logrec dump) (neither _ [] refl)) lefts left s,
        nowhere_then (whats.Leave kind born verdict logrec dump) stays (left_here error verdict (enclosing_brackets (brackets_of u h)) (here_around error (brackets_of u h) at)),
      )
  going_on c left (whats.Begin code dump) course stays e (s, at) =
      subst (Then (whats.Begin code dump)) (sym (close_is _ course e)) (
        settled_ends d error u list h (record { unit = u; what = whats.Begin code dump }) (no_enter (whats.Begin code dump) (neither _ [] refl)) (no_leave (whats.Begin code dump) (neither _ [] refl)) left s,
        nowhere_then (whats.Begin code dump) stays (outermost_nowhere error),
      )
  going_on c left (whats.Arrive cmd became) course stays e (s, at) =
      let same : course ≡ Goes left = cc in
      subst (Then (whats.Arrive cmd became)) (sym same) (
        settled_same d error u list h (record { unit = u; what = whats.Arrive cmd became }) (no_enter (whats.Arrive cmd became) (neither _ [] refl)) (no_leave (whats.Arrive cmd became) (neither _ [] refl)) left s,
        depth_then zero (whats.Arrive cmd became) stays at,
      )
  going_on c left _ course stays e k = absurd cc

  -- after a Stop
  stopped_on : (c : Core) (what : What) (course : Course) → purges u what ≡ false → after_stop c what ≡ Some course → HasChain d error u list h Stopped → Then what course
  stopped_on c (whats.Begin code dump) course stays e (s, at) =
      subst (Then (whats.Begin code dump)) (sym (close_is _ course e)) (
        settled_ends d error u list h (record { unit = u; what = whats.Begin code dump }) (no_enter (whats.Begin code dump) (neither _ [] refl)) (no_leave (whats.Begin code dump) (neither _ [] refl)) s.left s.settled,
        nowhere_then (whats.Begin code dump) stays (outermost_nowhere error),
      )
  stopped_on c (whats.Arrive cmd became) course stays e (s, at) =
      let same : course ≡ Stopped = cc in
      subst (Then (whats.Arrive cmd became)) (sym same) (
        stopped_same d error u list h (record { unit = u; what = whats.Arrive cmd became }) (no_enter (whats.Arrive cmd became) (neither _ [] refl)) (no_leave (whats.Arrive cmd became) (neither _ [] refl)) s,
        depth_then zero (whats.Arrive cmd became) stays at,
      )
  stopped_on c _ course stays e k = absurd cc

  -- it has ended
  ended_on : (what : What) → purges u what ≡ false → HasChain d error u list h Closed → Then what Closed
  ended_on what stays (s, at) = (
    ended_same d error u list h (record { unit = u; what = what })
        (no_enter what (not_entered error u (length h) (brackets_of u h) (record { unit = u; what = what }) (nowhere_here error (brackets_of u h) at)))
        (no_leave what (not_left error u (length h) (brackets_of u h) (record { unit = u; what = what }) (nowhere_here error (enclosing_brackets (brackets_of u h)) (nowhere_around error (brackets_of u h) at)))) s,
    nowhere_then what stays (nowhere_own error (length h) (other_number error (length h) less) what (brackets_of u h) at),
  )

  -- its routine runs
  module _ (routine : Reg) (left : List Reg) (inside : ℕ) (p : IsPending d error u list h routine left) (at : IsAtDepth (suc inside) error (brackets_of u h)) where
    still_runs : (what : What) (inside2 : ℕ) → purges u what ≡ false → entered_now error u (length h) (brackets_of u h) (record { unit = u; what = what }) ≡ [] → left_now error u (length h) (brackets_of u h) (record { unit = u; what = what }) ≡ []
        → IsAtDepth (suc inside2) error (own_brackets (length h) what (brackets_of u h)) → Then what (Runs routine left inside2)
    still_runs what inside2 stays no_in no_out depth = (pending_same d error u list h (record { unit = u; what = what }) (no_enter what no_in) (no_leave what no_out) routine left p, depth_then (suc inside2) what stays depth)

    enter_now : (kind : Kind) (born : ℕ) (mark : Mark) (bare : Bool) → purges u (whats.Enter kind born mark bare) ≡ false → Then (whats.Enter kind born mark bare) (Runs routine left (suc inside))
    enter_now kind born mark bare stays =
        still_runs (whats.Enter kind born mark bare) (suc inside) stays
        (not_entered error u (length h) (brackets_of u h) (record { unit = u; what = whats.Enter kind born mark bare }) (deeper_here inside error (brackets_of u h) at)) (neither _ [] refl) (refl, at)

    same_depth : (what : What) → purges u what ≡ false → entered_now error u (length h) (brackets_of u h) (record { unit = u; what = what }) ≡ [] → left_now error u (length h) (brackets_of u h) (record { unit = u; what = what }) ≡ []
        → IsAtDepth (suc inside) error (own_brackets (length h) what (brackets_of u h)) → (course : Course) → Some (Runs routine left inside) ≡ Some course → Then what course
    same_depth what stays no_in no_out depth course e =
        let same : course ≡ Runs routine left inside = cc in
        subst (Then what) (sym same) (still_runs what inside stays no_in no_out depth)

  module _ (routine : Reg) (left : List Reg) (k : ℕ) (p : IsPending d error u list h routine left) (at : IsAtDepth (suc (suc k)) error (brackets_of u h)) where
    deep_on : (what : What) (course : Course) → purges u what ≡ false → inside_routine what routine left (suc k) ≡ Some course → Then what course
    deep_on (whats.Exec at_place rc) course stays e = same_depth routine left (suc k) p at (whats.Exec at_place rc) stays (neither _ [] refl) (neither _ [] refl) at course e
    deep_on (whats.Error at_place mark) course stays e =
        same_depth routine left (suc k) p at (whats.Error at_place mark) stays (neither _ [] refl) (neither _ [] refl) (deeper_with (suc k) error (Some (length h)) (other_number error (length h) less) (brackets_of u h) at) course e
    deep_on (whats.Land class from mark) course stays e =
        same_depth routine left (suc k) p at (whats.Land class from mark) stays (neither _ [] refl) (neither _ [] refl) (deeper_with (suc k) error (Some (length h)) (other_number error (length h) less) (brackets_of u h) at) course e
    deep_on (whats.Arrive cmd became) course stays e = same_depth routine left (suc k) p at (whats.Arrive cmd became) stays (neither _ [] refl) (neither _ [] refl) at course e
    deep_on (whats.Enter kind born mark bare) course stays e =
        let one : suc (suc k) ≡ suc k + 1 = omega arith in
        let same : course ≡ Runs routine left (suc (suc k)) = sym (some_same _ _ e) ∙ ap (Runs routine left) (sym one) in
        subst (Then (whats.Enter kind born mark bare)) (sym same) (enter_now routine left (suc k) p at kind born mark bare stays)
    deep_on (whats.Leave kind born verdict logrec dump) course stays e =
        let one : suc k - 1 ≡ k = omega arith in
        let same : course ≡ Runs routine left k = sym (some_same _ _ e) ∙ ap (Runs routine left) one in
        let around = deeper_around (suc k) error (brackets_of u h) at in
        subst (Then (whats.Leave kind born verdict logrec dump)) (sym same)
        (still_runs routine left (suc k) p at (whats.Leave kind born verdict logrec dump) k stays (neither _ [] refl)
        (not_left error u (length h) (brackets_of u h) (record { unit = u; what = whats.Leave kind born verdict logrec dump }) (deeper_here k error (enclosing_brackets (brackets_of u h)) around))
        (left_deeper k error verdict (enclosing_brackets (brackets_of u h)) around))
    deep_on _ course stays e = absurd cc

  -- it is left
  module _ (c : Core) (core_is : c ≡ core_at u (world d h)) (routine : Reg) (left : List Reg) (p : IsPending d error u list h routine left) (at : IsAtDepth (suc zero) error (brackets_of u h)) where
    module _ (kind : Kind) (born : ℕ) (v : Verdict) (logrec dump : Bool) (stays : purges u (whats.Leave kind born v logrec dump) ≡ false) (named : is_named kind born routine ≡ true) where
      around : IsAtDepth zero error (enclosing_brackets (brackets_of u h))
      around = deeper_around zero error (brackets_of u h) at

      chains : chain error u (h ++ record { unit = u; what = whats.Leave kind born v logrec dump } ∷ []) ≡ chain error u h
      chains = no_enter (whats.Leave kind born v logrec dump) (neither _ [] refl)

      lefts : leavings error u (h ++ record { unit = u; what = whats.Leave kind born v logrec dump } ∷ []) ≡ leavings error u h ++ record { at = length h; kind = kind; born = born; verdict = v } ∷ []
      lefts =
          leavings_more error u h (record { unit = u; what = whats.Leave kind born v logrec dump })
          ∙ ap (λ (ls : List Leaving). leavings error u h ++ ls) (rw (eq-eqb u u refl, here_at error (enclosing_brackets (brackets_of u h)) around) refl)

      settled_by : (b : Bool) → forces_end d h u (record { at = length h; kind = kind; born = born; verdict = v }) ≡ b
          → IsSettled d error u list (h ++ record { unit = u; what = whats.Leave kind born v logrec dump } ∷ []) (if b then filter (λ (reg : Reg). reg.term) left else left)
      settled_by b f =
          let name = name_is kind born routine named in
          leaves d error u list h (record { unit = u; what = whats.Leave kind born v logrec dump }) (record { at = length h; kind = kind; born = born; verdict = v }) refl chains lefts routine left name.0 name.1 p b f

      ended_by : (b : Bool) → forces_end d h u (record { at = length h; kind = kind; born = born; verdict = v }) ≡ b
          → IsEnded d error u list (h ++ record { unit = u; what = whats.Leave kind born v logrec dump } ∷ [])
      ended_by b f =
          let name = name_is kind born routine named in
          leave_ends d error u list h (record { unit = u; what = whats.Leave kind born v logrec dump }) (record { at = length h; kind = kind; born = born; verdict = v }) refl chains lefts routine left name.0 name.1 p b f

    core_here : core_at u (world d (take (length h) h)) ≡ core_at u (world d h)
    core_here = ap (λ (es : List Entry). core_at u (world d es)) (take_all (length h) h (omega arith))

    left_on : (kind : Kind) (born : ℕ) (v : Verdict) (logrec dump : Bool) (course : Course) → purges u (whats.Leave kind born v logrec dump) ≡ false → is_named kind born routine ≡ true → after_routine c v left ≡ Some course → Then (whats.Leave kind born v logrec dump) course
    left_on kind born (Retry place) logrec dump course stays named e =
        subst (Then (whats.Leave kind born (Retry place) logrec dump)) (sym (close_is _ course e)) (
          ended_by kind born (Retry place) logrec dump stays named false refl,
          nowhere_then (whats.Leave kind born (Retry place) logrec dump) stays (closed_here error (enclosing_brackets (brackets_of u h)) (deeper_around zero error (brackets_of u h) at)),
        )
    left_on kind born Perc logrec dump course stays named e =
        let same : course ≡ Goes left = cc in
        subst (Then (whats.Leave kind born Perc logrec dump)) (sym same) (
          settled_by kind born Perc logrec dump stays named false refl,
          depth_then zero (whats.Leave kind born Perc logrec dump) stays (deeper_around zero error (brackets_of u h) at),
        )
    left_on kind born Bad logrec dump course stays named e =
        let same : course ≡ Goes left = cc in
        subst (Then (whats.Leave kind born Bad logrec dump)) (sym same) (
          settled_by kind born Bad logrec dump stays named false refl,
          depth_then zero (whats.Leave kind born Bad logrec dump) stays (deeper_around zero error (brackets_of u h) at),
        )
    left_on kind born Stop logrec dump course stays named e =
        let same : course ≡ Stopped = cc in
        subst (Then (whats.Leave kind born Stop logrec dump)) (sym same) (
          record {
            left = left;
            settled = settled_by kind born Stop logrec dump stays named false refl;
            stop = ap ends_in_stop (lefts kind born Stop logrec dump stays named) ∙ stop_more (leavings error u h) (record { at = length h; kind = kind; born = born; verdict = Stop });
          },
          depth_then zero (whats.Leave kind born Stop logrec dump) stays (deeper_around zero error (brackets_of u h) at),
        )
    left_on kind born Fail logrec dump course stays named e =
        let is = failing_is (error_in c.levels) left course e in
        let term : forces_end d h u (record { at = length h; kind = kind; born = born; verdict = Fail }) ≡ is.0.flags.term_only =
        ap (λ (k : Core). option_map_or (λ (r : ErrorRecord). r.flags.term_only) (error_in k.levels) false) (core_here ∙ sym core_is)
        ∙ ap (λ (o : Option ErrorRecord). option_map_or (λ (r : ErrorRecord). r.flags.term_only) o false) is.1 in
        subst (Then (whats.Leave kind born Fail logrec dump)) (sym is.2) (
          settled_by kind born Fail logrec dump stays named is.0.flags.term_only term,
          depth_then zero (whats.Leave kind born Fail logrec dump) stays (deeper_around zero error (brackets_of u h) at),
        )
    left_on kind born Over logrec dump course stays named e = absurd cc

    near_on : (what : What) (course : Course) → purges u what ≡ false → in_routine c what routine left ≡ Some course → Then what course
    near_on (whats.Leave kind born v logrec dump) course stays e =
        let is = left_if (after_routine c v left) (is_named kind born routine) course e in
        left_on kind born v logrec dump course stays is.0 is.1
    near_on (whats.Enter kind born mark bare) course stays e =
        let same : course ≡ Runs routine left 1 = cc in
        subst (Then (whats.Enter kind born mark bare)) (sym same) (enter_now routine left zero p at kind born mark bare stays)
    near_on (whats.Exec at_place rc) course stays e = same_depth routine left zero p at (whats.Exec at_place rc) stays (neither _ [] refl) (neither _ [] refl) at course e
    near_on (whats.Error at_place mark) course stays e =
        same_depth routine left zero p at (whats.Error at_place mark) stays (neither _ [] refl) (neither _ [] refl) (deeper_with zero error (Some (length h)) (other_number error (length h) less) (brackets_of u h) at) course e
    near_on (whats.Land class from mark) course stays e =
        same_depth routine left zero p at (whats.Land class from mark) stays (neither _ [] refl) (neither _ [] refl) (deeper_with zero error (Some (length h)) (other_number error (length h) less) (brackets_of u h) at) course e
    near_on (whats.Arrive cmd became) course stays e = same_depth routine left zero p at (whats.Arrive cmd became) stays (neither _ [] refl) (neither _ [] refl) at course e
    near_on _ course stays e = absurd cc

  runs_deep : (c : Core) (what : What) (routine : Reg) (left : List Reg) (k : ℕ) → runs_on c what routine left (suc k) ≡ inside_routine what routine left (suc k)
  runs_deep c what routine left k = rw (ne_eqb (suc k) 0 (λ e. cc)) refl

  pub own_on : (what : What) (course course2 : Course) → purges u what ≡ false → course_by (core_at u (world d h)) what course ≡ Some course2 → HasChain d error u list h course → Then what course2
  own_on what (Goes left) course2 stays e k = going_on (core_at u (world d h)) left what course2 stays e k
  own_on what (Runs routine left zero) course2 stays e (p, at) = near_on (core_at u (world d h)) refl routine left p at what course2 stays e
  own_on what (Runs routine left (suc k)) course2 stays e (p, at) = deep_on routine left k p at what course2 stays (sym (runs_deep (core_at u (world d h)) what routine left k) ∙ e)
  own_on what Stopped course2 stays e k = stopped_on (core_at u (world d h)) what course2 stays e k
  own_on what Closed course2 stays e k =
      let same : course2 ≡ Closed = cc in
      subst (Then what) (sym same) (ended_on what stays k)
