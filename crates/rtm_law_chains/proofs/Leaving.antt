-- The LEAVE of an error's routine: what its verdict makes of the error.
use Rattle.std.proofs.Common.{◌≡◌, ℕ, zero, suc, ◌+◌, Bool, true, false, not, ◌&&◌, List, [], ◌∷◌, ◌++◌, length, Option, Some, None, refl, sym, ap, subst, arith, inl, inr, ◌⊎◌, ◌∙◌}
use Rattle.std.specs.Option.{option_map}
use Rattle.std.specs.Prelude.{IfSome, IsSomeAnd, IsTrue, filter, if◌then◌else◌, ◌==◌}
use Rattle.rtm_deck_items.specs.View.{DeckView}
use Rattle.rtm_deck_items.specs.WellFormed.{is_well_formed}
use Rattle.rtm_model.specs.declared.block.Place.{Place}
use Rattle.rtm_model.specs.declared.entry.Entry.{Entry}
use Rattle.rtm_model.specs.declared.entry.Verdict.{Verdict}
use Rattle.rtm_model.specs.declared.entry.Verdict.TheVariants.{Bad, Fail, Over, Perc, Retry, Stop}
use Rattle.rtm_model.specs.declared.entry.What.{What}
use Rattle.rtm_model.specs.declared.entry.What.TheVariants as whats
use Rattle.rtm_model.specs.declared.error_record.ErrorRecord.{ErrorRecord}
use Rattle.rtm_model.specs.declared.error_record.RecordFlags.{RecordFlags}
use Rattle.rtm_model.specs.declared.reg.Kind.{Kind}
use Rattle.rtm_model.specs.declared.reg.Kind.TheVariants.{Estae, Estai, Frr, Mgr}
use Rattle.rtm_model.specs.declared.reg.Reg.{Reg}
use Rattle.rtm_model.specs.Advance.{world}
use Rattle.rtm_model.specs.Course.{after_routine, is_valid_retry, rest_by}
use Rattle.rtm_model.specs.Course.{Runs}
use Rattle.rtm_model.specs.Legal.{Legal}
use Rattle.rtm_model.specs.Levels.{Bracket, after_inner_failure, after_leave, after_verdict, current, depth_in, enclosing_bracket, error_in, error_of, is_manager, is_recovery, record_in, recovers, verdict_in, verdict_of_routine}
use Rattle.rtm_model.specs.Moments.{IsIn}
use Rattle.rtm_model.specs.NextEntry.{is_retry, retry_prog}
use Rattle.rtm_model.specs.OwnChange.{is_gone_after, with_bracket_closed, without_routine}
use Rattle.rtm_model.specs.Record.{after_percolation, inner_failed, is_estai, retry_place, verdict, verdict_by}
use Rattle.rtm_model.specs.World.{Core, core_at}
use Rattle.rtm_model.specs.inner.Soundness.{IsCoreSound, IsSound}
use Rattle.rtm_law_births.proofs.Errors.{levels_after}
use Rattle.rtm_law_births.proofs.Living.{IsMade}
use Rattle.rtm_law_births.proofs.Outcomes.{IsJudged, outcome_of, verdict_of}
use Rattle.rtm_law_births.proofs.Routines.{no_over}
use Rattle.rtm_law_chains.proofs.Acts.{IsNext, IsQuiet, next_acts}
use Rattle.rtm_law_chains.proofs.Courses.{HasState, IsGoing, IsRunning, RunsOver}
use Rattle.rtm_law_chains.proofs.Firsts.{list_at}
use Rattle.rtm_law_chains.proofs.Flags.{AreCalm, AreTermOnly, HasFlags, IsTermOnly, all_have_flags}
use Rattle.rtm_law_chains.proofs.Frames.{own_routine, stop_kind, then_is}
use Rattle.rtm_law_chains.proofs.Going.{Step, arrived_core, named_true, none_other}
use Rattle.rtm_law_chains.proofs.Inside.{enter_on, error_on, exec_on, land_on, no_begin, no_ending}
use Rattle.rtm_law_chains.proofs.Members.{IsEstaeOf, IsEstaiOf, IsFrrOf, listed}
use Rattle.rtm_law_chains.proofs.Rests.{IsGone, left_list, stopped_list}
use Rattle.rtm_law_chains.proofs.Terms.{frr_no_term, term_list}

-- Where the routine runs in the innermost bracket

pub record IsOver (ls : List Bracket) (routine : Reg) (term : Bool) : Type 0 where
  pub inner : Bracket
  pub outer : Bracket
  pub rest : List Bracket
  pub levels_are : ls ≡ inner ∷ outer ∷ rest
  pub routine_is : inner.routine ≡ Some routine
  pub error : ErrorRecord
  pub open_is : outer.error ≡ Some error
  pub term_is : error.flags.term_only ≡ term

record_of : (term : Bool) (o : Option ErrorRecord) → IsSomeAnd o (λ r. r.flags.term_only ≡ term) → (r : ErrorRecord) × (o ≡ Some r) × (r.flags.term_only ≡ term)
record_of term None h = absurd h
record_of term (Some r) h = (r, refl, h)

is_over : (ls : List Bracket) (routine : Reg) (term : Bool) → RunsOver zero routine term ls → IsOver ls routine term
is_over [] routine term h = absurd h
is_over (l ∷ []) routine term h = absurd h
is_over (l ∷ o ∷ ls) routine term h =
    let is = record_of term o.error h.1 in
    record { inner = l; outer = o; rest = ls; levels_are = refl; routine_is = h.0; error = is.0; open_is = is.1; term_is = is.2 }

-- Verdicts

by_tests : (a b : Bool) → is_retry (if a then Stop else if b then Perc else Bad) ≡ false
by_tests true b = refl
by_tests false true = refl
by_tests false false = refl

valid_if : (d : DeckView) (kind : Kind) (prog : ℕ) (r : ErrorRecord) (place : Place) (b : Bool) → ((r.rc == 4) && not r.flags.clup) ≡ b → verdict_by kind r.rc (retry_place d prog r) ≡ Retry place → b ≡ true
valid_if d kind prog r place true e h = refl
valid_if d kind prog r place false e h =
    let none : retry_place d prog r ≡ None = rw e refl in
    let same : verdict_by kind r.rc None ≡ Retry place = ap (verdict_by kind r.rc) (sym none) ∙ h in
    let clash : false ≡ true = sym (by_tests ((r.rc == 16) && is_estai kind) (r.rc == 0)) ∙ ap is_retry same in
    absurd cc

never_fails_by : (a b : Bool) → (if a then Stop else if b then Perc else Bad) ≡ Fail → ⊥
never_fails_by true b e = cc
never_fails_by false true e = cc
never_fails_by false false e = cc

never_fails_at : (kind : Kind) (rc : ℕ) (o : Option Place) → verdict_by kind rc o ≡ Fail → ⊥
never_fails_at kind rc (Some place) e = cc
never_fails_at kind rc None e = never_fails_by ((rc == 16) && is_estai kind) (rc == 0) e

never_fails : (d : DeckView) (prog : ℕ) (o : Option Reg) (r : Option ErrorRecord) → verdict_of_routine d prog o r ≡ Fail → ⊥
never_fails d prog None r e = cc
never_fails d prog (Some reg) None e = cc
never_fails d prog (Some reg) (Some r) e = never_fails_at reg.kind r.rc (retry_place d prog r) e

judged_some : (d : DeckView) (c : Core) (kind : Kind) (v : Verdict) (o : Option Reg) → IsSomeAnd o (λ reg. (kind ≡ reg.kind) × (v ≡ verdict_in d (retry_prog c reg) c.levels)) → (prog : ℕ) × (v ≡ verdict_in d prog c.levels)
judged_some d c kind v None h = absurd h
judged_some d c kind v (Some reg) h = (retry_prog c reg, h.1)

judged : (d : DeckView) (c : Core) (kind : Kind) (v : Verdict) → IsJudged d c kind v → (prog : ℕ) × (v ≡ verdict_in d prog c.levels)
judged d c kind v is = judged_some d c kind v (current c.levels) is.by

-- a routine fails by an error that is open in its bracket
failed_open : (d : DeckView) (c : Core) (kind : Kind) (born : ℕ) (logrec dump : Bool) → IsNext d c (whats.Leave kind born Fail logrec dump) → (o : Option ErrorRecord) → error_in c.levels ≡ o → (r : ErrorRecord) × (error_in c.levels ≡ Some r)
failed_open d c kind born logrec dump next (Some r) e = (r, e)
failed_open d c kind born logrec dump next None e =
    let is = judged d c kind Fail (IsQuiet.judged (next.quiet e)) in
    absurd (never_fails d is.0 (current c.levels) (record_in c.levels) (sym is.1))

-- and else it was judged
other_judged : (d : DeckView) (c : Core) (kind : Kind) (v : Verdict) → (v ≡ Fail → ⊥) → (v ≡ Fail) ⊎ IsJudged d c kind v → IsJudged d c kind v
other_judged d c kind v other (inl failed) = absurd (other failed)
other_judged d c kind v other (inr is) = is

-- The record after a failure: what it admits

term_kept : (inner outer : ErrorRecord) → inner.flags.term_only ≡ false → (outer.flags.term_only ≡ true → outer.flags.clup ≡ true) → (a b : Bool) → inner.flags.clup ≡ a → outer.flags.clup ≡ b → (t : Bool) → outer.flags.term_only ≡ t
    → RecordFlags.term_only (ErrorRecord.flags (inner_failed inner outer)) ≡ t
term_kept inner outer free clup true false e f true g = let clash : false ≡ true = sym f ∙ clup g in absurd cc
term_kept inner outer free clup true false e f false g = rw (e, f) free
term_kept inner outer free clup true true e f t g = rw (e, f) g
term_kept inner outer free clup false b e f t g = rw e g

term_taken : (inner outer : ErrorRecord) → inner.flags.term_only ≡ true → inner.flags.clup ≡ true → outer.flags.clup ≡ false → RecordFlags.term_only (ErrorRecord.flags (inner_failed inner outer)) ≡ true
term_taken inner outer term e f = rw (e, f) term

not_true : (b : Bool) → (b ≡ true → ⊥) → b ≡ false
not_true true h = absurd (h refl)
not_true false h = refl

some_is : (P : ErrorRecord → Type 0) (o : Option ErrorRecord) (r : ErrorRecord) → o ≡ Some r → IfSome o P → P r
some_is P None r e h = absurd cc
some_is P (Some s) r e h = let same : s ≡ r = cc in subst P same h

module _ (d : DeckView) (h : List Entry) (u : ℕ) (deck : IsTrue (is_well_formed d)) (legal : Legal d h) (routine : Reg) (left : List Reg) (run : IsRunning (core_at u (world d h)) routine left zero) where
  over : IsOver (Core.levels (core_at u (world d h))) routine run.term
  over = is_over (Core.levels (core_at u (world d h))) routine run.term run.over

  next_depth : run.depth + 1 ≡ depth_in (Core.levels (core_at u (world d h)))
  next_depth = omega (arith, run.depth_is)

  current_is : current (Core.levels (core_at u (world d h))) ≡ Some routine
  current_is = ap current over.levels_are ∙ over.routine_is

  not_manager_by : IsFrrOf run.depth (core_at u (world d h)) routine ⊎ IsEstaeOf run.depth (core_at u (world d h)) routine ⊎ IsEstaiOf run.depth (core_at u (world d h)) routine → is_manager routine.kind ≡ false
  not_manager_by (inl is) = ap is_manager is.kind_is
  not_manager_by (inr (inl is)) = ap is_manager is.kind_is
  not_manager_by (inr (inr is)) = ap is_manager is.kind_is

  module _ (kind : Kind) (born : ℕ) (v : Verdict) (logrec dump : Bool) (longer : Legal d (h ++ record { unit = u; what = whats.Leave kind born v logrec dump } ∷ []))
      (m : IsMade d (world d h) (length h) (record { unit = u; what = whats.Leave kind born v logrec dump })) where
    abbrev Now : Core
    Now = core_at u (world d h)

    abbrev Then : Core
    Then = core_at u (world d (h ++ record { unit = u; what = whats.Leave kind born v logrec dump } ∷ []))

    not_manager : is_manager routine.kind ≡ false
    not_manager = not_manager_by (listed d (length h) (core_at u (world d h)) (IsSound.cores m.sound u) run.depth routine run.term (subst (λ (xs : List Reg). IsIn routine xs) (sym run.list_is) (inl refl)))

    record_is : record_in (Core.levels (core_at u (world d h))) ≡ Some over.error
    record_is =
        let r : recovers (Core.levels (core_at u (world d h))) ≡ true = ap is_recovery current_is ∙ ap not not_manager in
        ap (λ (b : Bool). if b then error_of (enclosing_bracket (Core.levels (core_at u (world d h)))) else None) r
        ∙ ap (λ (ls : List Bracket). error_of (enclosing_bracket ls)) over.levels_are ∙ over.open_is

    own : (kind ≡ routine.kind) × (born ≡ routine.born)
    own =
        let is = own_routine d (world d h) (length h) u kind born v logrec dump m in
        let both : Some is.0 ≡ Some routine = sym is.1 ∙ current_is in
        let one : is.0 ≡ routine = cc in
        (sym is.2 ∙ ap Reg.kind one, sym is.3 ∙ ap Reg.born one)

    how : (v ≡ Fail) ⊎ IsJudged d (core_at u (world d h)) kind v
    how = outcome_of d (world d h) u (whats.Leave kind born v logrec dump) m.may

    levels_then : Core.levels Then ≡ after_verdict v (Bracket.error over.inner) over.outer ∷ over.rest
    levels_then =
        ap Core.levels (then_is d h u (whats.Leave kind born v logrec dump) deck legal longer m)
        ∙ levels_after v (current (Core.levels (core_at u (world d h)))) (without_routine v (is_gone_after v (record_in (Core.levels (core_at u (world d h))))) kind born (with_bracket_closed v (core_at u (world d h))))
        ∙ ap (after_leave v) over.levels_are

    depth_then : depth_in (Core.levels Then) ≡ run.depth
    depth_then =
        let a : length (Core.levels Then) ≡ length over.rest + 1 = ap length levels_then ∙ one_more (length over.rest) in
        let b : length (Core.levels (core_at u (world d h))) ≡ length over.rest + 2 = ap length over.levels_are ∙ two_more (length over.rest) in
        omega (arith, a, b, next_depth)
      where
        one_more : (k : ℕ) → suc k ≡ k + 1
        one_more k = omega arith

        two_more : (k : ℕ) → suc (suc k) ≡ k + 2
        two_more k = omega arith

    error_then : error_in (Core.levels Then) ≡ Bracket.error (after_verdict v (Bracket.error over.inner) over.outer)
    error_then = ap error_in levels_then

    -- the error's state, where its bracket's record is that one and its list what was left
    going_then : (r : ErrorRecord) (list : List Reg) → error_in (Core.levels Then) ≡ Some r → list_at run.depth r.flags.term_only Then ≡ list → IsGoing Then list
    going_then r list open_is is = record { error = r; open_is = open_is; list_is = ap (λ (k : ℕ). list_at k r.flags.term_only Then) depth_then ∙ is }

    left_then : IsGone v → (v ≡ Stop → ⊥) → list_at run.depth run.term Then ≡ left
    left_then gone other = left_list d h u kind born v logrec dump deck legal longer m gone run.depth next_depth run.term routine left (sym own.0) (sym own.1) run.list_is other

  -- the unit's control blocks after it
  abbrev Gone : Kind → ℕ → Verdict → Bool → Bool → Core
  Gone kind born v logrec dump = core_at u (world d (h ++ record { unit = u; what = whats.Leave kind born v logrec dump } ∷ []))

  abbrev Made : Verdict → Type 0
  Made v = (kind : Kind) (born : ℕ) (logrec dump : Bool) (longer : Legal d (h ++ record { unit = u; what = whats.Leave kind born v logrec dump } ∷ []))
      → IsMade d (world d h) (length h) (record { unit = u; what = whats.Leave kind born v logrec dump })
      → IsSomeAnd (after_routine (core_at u (world d h)) v left) (HasState (core_at u (world d (h ++ record { unit = u; what = whats.Leave kind born v logrec dump } ∷ []))))

  retried : (place : Place) → Made (Retry place)
  retried place kind born logrec dump longer m =
      let c : Core = core_at u (world d h) in
      let is = judged d c kind (Retry place) (other_judged d c kind (Retry place) (λ e. cc) (how kind born (Retry place) logrec dump longer m)) in
      let record_at = record_is kind born (Retry place) logrec dump longer m in
      let said : verdict d routine.kind is.0 over.error ≡ Retry place =
      ap (λ (o : Option Reg). verdict_of_routine d is.0 o (Some over.error)) (sym current_is) ∙ ap (verdict_of_routine d is.0 (current c.levels)) (sym record_at) ∙ sym is.1 in
      let valid : is_valid_retry (Some over.error) ≡ true = valid_if d routine.kind is.0 over.error place _ refl said in
      rw (record_at, valid) tt

  percolated_open : (o : Bracket) → o.error ≡ Some over.error → option_map after_percolation o.error ≡ Some (after_percolation over.error)
  percolated_open o e = ap (option_map after_percolation) e

  percolated : Made Perc
  percolated kind born logrec dump longer m =
      going_then kind born Perc logrec dump longer m (after_percolation over.error) left
      (error_then kind born Perc logrec dump longer m ∙ percolated_open over.outer over.open_is)
      (ap (λ (t : Bool). list_at run.depth t (Gone kind born Perc logrec dump)) over.term_is ∙ left_then kind born Perc logrec dump longer m tt (λ e. cc))

  bad : Made Bad
  bad kind born logrec dump longer m =
      going_then kind born Bad logrec dump longer m (after_percolation over.error) left
      (error_then kind born Bad logrec dump longer m ∙ percolated_open over.outer over.open_is)
      (ap (λ (t : Bool). list_at run.depth t (Gone kind born Bad logrec dump)) over.term_is ∙ left_then kind born Bad logrec dump longer m tt (λ e. cc))

  listed_stop : (kind : Kind) → kind ≡ routine.kind → kind ≡ Estai → IsCoreSound d (length h) (core_at u (world d h))
      → IsFrrOf run.depth (core_at u (world d h)) routine ⊎ IsEstaeOf run.depth (core_at u (world d h)) routine ⊎ IsEstaiOf run.depth (core_at u (world d h)) routine → run.depth ≡ 0
  listed_stop kind k is sound (inl of) = let clash : Estai ≡ Frr = sym is ∙ k ∙ of.kind_is in absurd cc
  listed_stop kind k is sound (inr (inl of)) = let clash : Estai ≡ Estae = sym is ∙ k ∙ of.kind_is in absurd cc
  listed_stop kind k is sound (inr (inr of)) = of.outermost

  stops : Made Stop
  stops kind born logrec dump longer m =
      let own_is = own kind born Stop logrec dump longer m in
      let none = stopped_list d h u kind born Stop logrec dump deck legal longer m tt run.depth next_depth run.term routine left (sym own_is.0) (sym own_is.1) run.list_is refl in
      let estai = stop_kind d (world d h) (length h) u born logrec dump kind m in
      let sound : IsCoreSound d (length h) (core_at u (world d h)) = IsSound.cores m.sound u in
      let out : run.depth ≡ 0 = listed_stop kind own_is.0 estai sound (listed d (length h) (core_at u (world d h)) sound run.depth routine run.term (subst (λ (xs : List Reg). IsIn routine xs) (sym run.list_is) (inl refl))) in
      record {
        going =
            going_then kind born Stop logrec dump longer m (after_percolation over.error) []
            (error_then kind born Stop logrec dump longer m ∙ percolated_open over.outer over.open_is)
            (ap (λ (t : Bool). list_at run.depth t (Gone kind born Stop logrec dump)) over.term_is ∙ none);
        outermost = depth_then kind born Stop logrec dump longer m ∙ out;
      }

  -- the routine has failed
  module _ (inner : ErrorRecord) (inner_is : error_in (Core.levels (core_at u (world d h))) ≡ Some inner) where
    flags_over : AreTermOnly (over.inner ∷ over.outer ∷ over.rest)
    flags_over = subst AreTermOnly over.levels_are (HasFlags.term (all_have_flags d h deck legal u))

    inner_error : Bracket.error over.inner ≡ Some inner
    inner_error = ap error_in (sym over.levels_are) ∙ inner_is

    inner_term : inner.flags.term_only ≡ true → IsTermOnly inner (over.outer ∷ over.rest)
    inner_term = some_is (λ r. r.flags.term_only ≡ true → IsTermOnly r (over.outer ∷ over.rest)) (Bracket.error over.inner) inner inner_error flags_over.0

    outer_term : over.error.flags.term_only ≡ true → over.error.flags.clup ≡ true
    outer_term t = IsTermOnly.clup (some_is (λ r. r.flags.term_only ≡ true → IsTermOnly r over.rest) (Bracket.error over.outer) over.error over.open_is flags_over.1.0 t)

    outer_calm : AreCalm (over.outer ∷ over.rest) → over.error.flags.clup ≡ false
    outer_calm calm = some_is (λ r. r.flags.clup ≡ false) (Bracket.error over.outer) over.error over.open_is calm.0

    module _ (kind : Kind) (born : ℕ) (logrec dump : Bool) (longer : Legal d (h ++ record { unit = u; what = whats.Leave kind born Fail logrec dump } ∷ []))
        (m : IsMade d (world d h) (length h) (record { unit = u; what = whats.Leave kind born Fail logrec dump })) where
      failed_open_is : error_in (Core.levels (core_at u (world d (h ++ record { unit = u; what = whats.Leave kind born Fail logrec dump } ∷ [])))) ≡ Some (inner_failed inner over.error)
      failed_open_is =
          error_then kind born Fail logrec dump longer m
          ∙ ap (λ (o : Option ErrorRecord). option_map (after_inner_failure o) (Bracket.error over.outer)) inner_error
          ∙ ap (option_map (after_inner_failure (Some inner))) over.open_is

      failed_list : (b : Bool) → inner.flags.term_only ≡ b
          → list_at run.depth (RecordFlags.term_only (ErrorRecord.flags (inner_failed inner over.error))) (core_at u (world d (h ++ record { unit = u; what = whats.Leave kind born Fail logrec dump } ∷ [])))
          ≡ (if b then filter (λ (reg : Reg). reg.term) left else left)
      failed_list false e =
          ap (λ (t : Bool). list_at run.depth t (Gone kind born Fail logrec dump)) (term_kept inner over.error e outer_term inner.flags.clup over.error.flags.clup refl refl run.term over.term_is)
          ∙ left_then kind born Fail logrec dump longer m tt (λ e. cc)
      failed_list true e =
          let is = inner_term e in
          let calm : over.error.flags.clup ≡ false = outer_calm (IsTermOnly.calm is) in
          let free : run.term ≡ false = sym over.term_is ∙ not_true over.error.flags.term_only (λ t. let clash : false ≡ true = sym calm ∙ outer_term t in cc) in
          let after : Core = core_at u (world d (h ++ record { unit = u; what = whats.Leave kind born Fail logrec dump } ∷ [])) in
          ap (λ (t : Bool). list_at run.depth t after) (term_taken inner over.error e (IsTermOnly.clup is) calm)
          ∙ term_list run.depth after (λ reg there. frr_no_term d (h ++ record { unit = u; what = whats.Leave kind born Fail logrec dump } ∷ []) deck longer u reg there)
          ∙ ap (filter (λ (reg : Reg). reg.term)) (ap (λ (t : Bool). list_at run.depth t after) (sym free) ∙ left_then kind born Fail logrec dump longer m tt (λ e. cc))

      failed_going : IsGoing (core_at u (world d (h ++ record { unit = u; what = whats.Leave kind born Fail logrec dump } ∷ []))) (rest_by inner left)
      failed_going = going_then kind born Fail logrec dump longer m (inner_failed inner over.error) (rest_by inner left) failed_open_is (failed_list inner.flags.term_only refl)

  failed : Made Fail
  failed kind born logrec dump longer m =
      let c : Core = core_at u (world d h) in
      let is = failed_open d c kind born logrec dump (next_acts d (world d h) u (whats.Leave kind born Fail logrec dump) m.may) (error_in c.levels) refl in
      rw is.1 (failed_going is.0 is.1 kind born logrec dump longer m)

  not_mgr : (kind : Kind) → kind ≡ routine.kind → is_manager routine.kind ≡ false → kind ≡ Mgr → ⊥
  not_mgr kind k other is = let clash : true ≡ false = ap is_manager (sym is ∙ k) ∙ other in cc

  no_verdict : Made Over
  no_verdict kind born logrec dump longer m =
      let c : Core = core_at u (world d h) in
      let fits = verdict_of d c kind Over (IsCoreSound.nested (IsSound.cores m.sound u)) (how kind born Over logrec dump longer m) in
      absurd (no_over kind Over fits (not_mgr kind (own kind born Over logrec dump longer m).0 (not_manager kind born Over logrec dump longer m)) refl)

  left_by : (v : Verdict) → Made v
  left_by (Retry place) = retried place
  left_by Perc = percolated
  left_by Stop = stops
  left_by Bad = bad
  left_by Fail = failed
  left_by Over = no_verdict

  leaves : (kind : Kind) (born : ℕ) (v : Verdict) (logrec dump : Bool) → Step d h u deck legal (whats.Leave kind born v logrec dump) (Runs routine left zero)
  leaves kind born v logrec dump longer m =
      let own_is = own kind born v logrec dump longer m in
      rw (named_true kind born routine own_is.0 own_is.1) (left_by v kind born logrec dump longer m)

  pub near : (what : What) → Step d h u deck legal what (Runs routine left zero)
  near (whats.Exec at rc) longer m = exec_on d h u deck legal routine left zero run at rc longer m
  near (whats.Error at mark) longer m = error_on d h u deck legal routine left zero run at mark longer m
  near (whats.Land class from mark) longer m = land_on d h u deck legal routine left zero run class from mark longer m
  near (whats.Enter kind born mark bare) longer m = enter_on d h u deck legal routine left zero run kind born mark bare longer m
  near (whats.Leave kind born v logrec dump) longer m = leaves kind born v logrec dump longer m
  near (whats.Arrive cmd became) longer m = subst (λ (c : Core). IsRunning c routine left zero) (sym (arrived_core d h u deck legal cmd became longer m)) run
  near (whats.Begin code dump) longer m = absurd (no_begin d h u deck legal routine left zero run code dump m)
  near what longer m =
      let next = next_acts d (world d h) u what m.may in
      absurd (no_ending d h u deck legal routine left zero run what m next refl (λ r e. none_other d (core_at u (world d h)) what r e next refl))
