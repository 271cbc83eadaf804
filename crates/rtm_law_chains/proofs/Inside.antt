-- An entry inside the bracket of an error's routine keeps the state of the error.
use Rattle.std.proofs.Common.{◌≡◌, ℕ, suc, ◌+◌, ◌-◌, ◌<◌, ◌≤◌, Bool, true, List, [], ◌∷◌, ◌++◌, length, Option, Some, None, refl, sym, ap, subst, arith, ◌∙◌}
use Rattle.std.proofs.lemmas.Bool.{ne_eqb}
use Rattle.std.specs.Prelude.{IsSomeAnd, IsTrue}
use Rattle.rtm_deck_items.specs.Reading.{op_at}
use Rattle.rtm_deck_items.specs.View.{DeckView}
use Rattle.rtm_deck_items.specs.WellFormed.{is_well_formed}
use Rattle.rtm_deck_items.specs.declared.op.Op.{Op}
use Rattle.rtm_deck_items.specs.declared.op.Op.TheVariants as ops
use Rattle.rtm_model.specs.declared.abort.Abort.{Abort}
use Rattle.rtm_model.specs.declared.block.Place.{Place}
use Rattle.rtm_model.specs.declared.entry.Entry.{Entry}
use Rattle.rtm_model.specs.declared.entry.Verdict.{Verdict}
use Rattle.rtm_model.specs.declared.entry.What.{What}
use Rattle.rtm_model.specs.declared.entry.What.TheVariants as whats
use Rattle.rtm_model.specs.declared.error_record.ErrorRecord.{ErrorRecord}
use Rattle.rtm_model.specs.declared.mark.Mark.{Mark}
use Rattle.rtm_model.specs.declared.reg.Kind.{Kind}
use Rattle.rtm_model.specs.declared.reg.Reg.{Reg}
use Rattle.rtm_model.specs.Aborts.{abort_named}
use Rattle.rtm_model.specs.Advance.{world}
use Rattle.rtm_model.specs.Course.{Course, inside_routine, runs_on}
use Rattle.rtm_model.specs.Course.{Runs}
use Rattle.rtm_model.specs.Legal.{Legal}
use Rattle.rtm_model.specs.Levels.{Bracket, after_leave, after_verdict, current, depth_in, error_in, record_in, with_open}
use Rattle.rtm_model.specs.NextEntry.{landed_record}
use Rattle.rtm_model.specs.OwnChange.{error_record, is_gone_after, own_card, place_after, routine_named, with_bracket_closed, with_landed, with_routine_entered, without_routine}
use Rattle.rtm_model.specs.Record.{ret15_in, setrp_in}
use Rattle.rtm_model.specs.World.{Core, World, core_at}
use Rattle.rtm_model.proofs.Levels.{length_innermost, length_record}
use Rattle.rtm_law_births.proofs.Errors.{levels_after}
use Rattle.rtm_law_births.proofs.Living.{IsMade}
use Rattle.rtm_law_landings.proofs.Nexts.{pending_in}
use Rattle.rtm_law_chains.proofs.Acts.{IsNext, IsQuiet, is_ending, next_acts}
use Rattle.rtm_law_chains.proofs.Courses.{HasState, IsRunning, RunsOver, card_over, inner_over, landed_over, left_over}
use Rattle.rtm_law_chains.proofs.Frames.{IsInner, list_kept, then_is}
use Rattle.rtm_law_chains.proofs.Going.{Step, arrived_core, none_other}
use Rattle.rtm_law_chains.proofs.Running.{enter_facts}

-- How many brackets there are

card_length : (n : ℕ) (place : Place) (op : Op) (c : Core) → length (Core.levels (own_card n place op c)) ≡ length c.levels
card_length n place (ops.SetRp setrp) c = length_record (setrp_in setrp) c.levels
card_length n place (ops.Ret15 rc label) c = length_record (ret15_in rc label) c.levels
card_length n place _ c = refl

landed_length : (o : Option Abort) (c : Core) → length (Core.levels (with_landed o c)) ≡ length c.levels
landed_length None c = refl
landed_length (Some abort) c = length_innermost (with_open (Some (landed_record abort))) c.levels

left_length : (verdict : Verdict) (ls : List Bracket) → 1 ≤ length ls → length (after_leave verdict ls) + 1 ≡ length ls
left_length verdict [] some = absurd (omega (arith, some))
left_length verdict (l ∷ ls) some = let same = length_innermost (after_verdict verdict l.error) ls in omega (arith, same)

-- the entry goes on in the bracket of a routine
record GoesOn (before after : Core) (routine : Reg) (inside inside2 : ℕ) : Type 0 where
  pub over : (term : Bool) → RunsOver inside routine term before.levels → RunsOver inside2 routine term after.levels
  pub count : depth_in after.levels + inside ≡ depth_in before.levels + inside2

-- an end of a unit goes on in its outermost bracket
ending_if : (d : DeckView) (c : Core) (what : What) → IsNext d c what → is_ending what ≡ true → ((r : ErrorRecord) → error_in c.levels ≡ Some r → ⊥) → (o : Option ErrorRecord) → error_in c.levels ≡ o → depth_in c.levels ≡ 0
ending_if d c what next ends other None e = IsQuiet.ends (next.quiet e) ends
ending_if d c what next ends other (Some r) e = absurd (other r e)

module _ (d : DeckView) (h : List Entry) (u : ℕ) (deck : IsTrue (is_well_formed d)) (legal : Legal d h) where
  abbrev Longer : What → List Entry
  Longer what = h ++ record { unit = u; what = what } ∷ []

  module _ (routine : Reg) (left : List Reg) (inside : ℕ) (run : IsRunning (core_at u (world d h)) routine left inside) where
    -- the state after an entry that goes on
    goes_on : (what : What) (inside2 : ℕ) → (longer : Legal d (Longer what)) → (m : IsMade d (world d h) (length h) (record { unit = u; what = what })) → IsInner run.depth (core_at u (world d h)) what
        → GoesOn (core_at u (world d h)) (core_at u (world d (h ++ record { unit = u; what = what } ∷ []))) routine inside inside2
        → IsRunning (core_at u (world d (h ++ record { unit = u; what = what } ∷ []))) routine left inside2
    goes_on what inside2 longer m inner on = record {
      term = run.term;
      over = on.over run.term run.over;
      depth = run.depth;
      depth_is = omega (arith, run.depth_is, on.count);
      list_is = list_kept d h u what deck legal longer m run.depth inner run.term ∙ run.list_is;
    }

    inner_depth : run.depth < depth_in (Core.levels (core_at u (world d h)))
    inner_depth = omega (arith, run.depth_is)

    pub exec_on : (at : Place) (rc : ℕ) → (longer : Legal d (Longer (whats.Exec at rc))) → IsMade d (world d h) (length h) (record { unit = u; what = whats.Exec at rc })
        → IsRunning (core_at u (world d (h ++ record { unit = u; what = whats.Exec at rc } ∷ []))) routine left inside
    exec_on at rc longer m =
        let c : Core = core_at u (world d h) in
        let op : Op = op_at d at.prog at.op in
        let levels = ap Core.levels (then_is d h u (whats.Exec at rc) deck legal longer m) in
        goes_on (whats.Exec at rc) inside longer m inner_depth (record {
          over = λ term over. subst (RunsOver inside routine term) (sym levels) (card_over (length h) (place_after d at rc op) op c inside routine term over);
          count = let same = card_length (length h) (place_after d at rc op) op c in omega (arith, ap length levels, same);
        })

    pub error_on : (at : Place) (mark : Mark) → (longer : Legal d (Longer (whats.Error at mark))) → IsMade d (world d h) (length h) (record { unit = u; what = whats.Error at mark })
        → IsRunning (core_at u (world d (h ++ record { unit = u; what = whats.Error at mark } ∷ []))) routine left inside
    error_on at mark longer m =
        let c : Core = core_at u (world d h) in
        let r : ErrorRecord = error_record c.doomed mark (op_at d at.prog at.op) in
        let levels = ap Core.levels (then_is d h u (whats.Error at mark) deck legal longer m) in
        goes_on (whats.Error at mark) inside longer m inner_depth (record {
          over = λ term over. subst (RunsOver inside routine term) (sym levels) (inner_over (with_open (Some r)) (λ l. refl) inside routine term c.levels over);
          count = let same = length_innermost (with_open (Some r)) c.levels in omega (arith, ap length levels, same);
        })

    pub land_on : (class : _) (from : ℕ) (mark : Mark) → (longer : Legal d (Longer (whats.Land class from mark))) → IsMade d (world d h) (length h) (record { unit = u; what = whats.Land class from mark })
        → IsRunning (core_at u (world d (h ++ record { unit = u; what = whats.Land class from mark } ∷ []))) routine left inside
    land_on class from mark longer m =
        let c : Core = core_at u (world d h) in
        let o : Option Abort = abort_named class from (pending_in (world d h) u) in
        let levels = ap Core.levels (then_is d h u (whats.Land class from mark) deck legal longer m) in
        goes_on (whats.Land class from mark) inside longer m inner_depth (record {
          over = λ term over. subst (RunsOver inside routine term) (sym levels) (landed_over o c inside routine term over);
          count = let same = landed_length o c in omega (arith, ap length levels, same);
        })

    entered_if : (bare : Bool) (o : Option Reg) (P : Reg → Type 0) → IsSomeAnd o P → GoesOn (core_at u (world d h)) (with_routine_entered (length h) bare o (core_at u (world d h))) routine inside (suc inside)
    entered_if bare None P has = absurd has
    entered_if bare (Some reg) P has = record { over = λ term over. over; count = omega (arith, run.depth_is) }

    pub enter_on : (kind : Kind) (born : ℕ) (mark : Mark) (bare : Bool) → (longer : Legal d (Longer (whats.Enter kind born mark bare))) → IsMade d (world d h) (length h) (record { unit = u; what = whats.Enter kind born mark bare })
        → IsRunning (core_at u (world d (h ++ record { unit = u; what = whats.Enter kind born mark bare } ∷ []))) routine left (suc inside)
    enter_on kind born mark bare longer m =
        let c : Core = core_at u (world d h) in
        let o : Option Reg = routine_named kind born (World.managers (world d h)) c in
        let facts = enter_facts o kind born c (length d.programs) m.can.what.0 in
        let on = entered_if bare o _ facts.0 in
        goes_on (whats.Enter kind born mark bare) (suc inside) longer m inner_depth
        (subst (λ (k : Core). GoesOn c k routine inside (suc inside)) (sym (then_is d h u (whats.Enter kind born mark bare) deck legal longer m)) on)

    -- nothing else is made inside a bracket
    pub no_ending : (what : What) → IsMade d (world d h) (length h) (record { unit = u; what = what }) → IsNext d (core_at u (world d h)) what → is_ending what ≡ true → ((r : ErrorRecord) → error_in (Core.levels (core_at u (world d h))) ≡ Some r → ⊥) → ⊥
    no_ending what m next ends other = let out = ending_if d (core_at u (world d h)) what next ends other (error_in (Core.levels (core_at u (world d h)))) refl in omega (arith, out, run.depth_is)

    pub no_begin : (code : _) (dump : Bool) → IsMade d (world d h) (length h) (record { unit = u; what = whats.Begin code dump }) → ⊥
    no_begin code dump m = let out : depth_in (Core.levels (core_at u (world d h))) ≡ 0 = m.can.what.1 in omega (arith, out, run.depth_is)

  -- a routine further inside is left
  leave_on : (routine : Reg) (left : List Reg) (k : ℕ) → IsRunning (core_at u (world d h)) routine left (suc k) → (kind : Kind) (born : ℕ) (verdict : Verdict) (logrec dump : Bool)
      → (longer : Legal d (Longer (whats.Leave kind born verdict logrec dump))) → IsMade d (world d h) (length h) (record { unit = u; what = whats.Leave kind born verdict logrec dump })
      → IsRunning (core_at u (world d (h ++ record { unit = u; what = whats.Leave kind born verdict logrec dump } ∷ []))) routine left k
  leave_on routine left k run kind born verdict logrec dump longer m =
      let c : Core = core_at u (world d h) in
      let levels = ap Core.levels (then_is d h u (whats.Leave kind born verdict logrec dump) deck legal longer m)
      ∙ levels_after verdict (current c.levels) (without_routine verdict (is_gone_after verdict (record_in c.levels)) kind born (with_bracket_closed verdict c)) in
      goes_on routine left (suc k) run (whats.Leave kind born verdict logrec dump) k longer m (omega (arith, run.depth_is)) (record {
        over = λ term over. subst (RunsOver k routine term) (sym levels) (left_over verdict k routine term c.levels over);
        count =
            let inner : 2 ≤ length c.levels = m.can.what.inner in
            let same = left_length verdict c.levels (omega (arith, inner)) in
            omega (arith, ap length levels, same, inner);
      })

  -- The step, where brackets are open inside the routine's

  minus_one : (k : ℕ) → suc k - 1 ≡ k
  minus_one k = omega arith

  plus_one : (k : ℕ) → suc k ≡ k + 1
  plus_one k = omega arith

  runs_deep : (c : Core) (what : What) (routine : Reg) (left : List Reg) (k : ℕ) → runs_on c what routine left (suc k) ≡ inside_routine what routine left (suc k)
  runs_deep c what routine left k = rw (ne_eqb (suc k) 0 (λ e. cc)) refl

  module _ (routine : Reg) (left : List Reg) (k : ℕ) (run : IsRunning (core_at u (world d h)) routine left (suc k)) where
    deep_by : (what : What) → (longer : Legal d (Longer what)) → IsMade d (world d h) (length h) (record { unit = u; what = what })
        → IsSomeAnd (inside_routine what routine left (suc k)) (HasState (core_at u (world d (h ++ record { unit = u; what = what } ∷ []))))
    deep_by (whats.Exec at rc) longer m = exec_on routine left (suc k) run at rc longer m
    deep_by (whats.Error at mark) longer m = error_on routine left (suc k) run at mark longer m
    deep_by (whats.Land class from mark) longer m = land_on routine left (suc k) run class from mark longer m
    deep_by (whats.Enter kind born mark bare) longer m = subst (IsRunning _ routine left) (plus_one (suc k)) (enter_on routine left (suc k) run kind born mark bare longer m)
    deep_by (whats.Leave kind born verdict logrec dump) longer m = subst (IsRunning _ routine left) (sym (minus_one k)) (leave_on routine left k run kind born verdict logrec dump longer m)
    deep_by (whats.Arrive cmd became) longer m = subst (λ (c : Core). IsRunning c routine left (suc k)) (sym (arrived_core d h u deck legal cmd became longer m)) run
    deep_by (whats.Begin code dump) longer m = absurd (no_begin routine left (suc k) run code dump m)
    deep_by what longer m =
        let next = next_acts d (world d h) u what m.may in
        absurd (no_ending routine left (suc k) run what m next refl (λ r e. none_other d (core_at u (world d h)) what r e next refl))

    pub deep : (what : What) → Step d h u deck legal what (Runs routine left (suc k))
    deep what longer m = subst (λ (o : Option Course). IsSomeAnd o (HasState (core_at u (world d (h ++ record { unit = u; what = what } ∷ []))))) (sym (runs_deep (core_at u (world d h)) what routine left k)) (deep_by what longer m)
