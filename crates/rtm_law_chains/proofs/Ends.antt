-- How each error ends, and the law of chains whole.
use Rattle.std.proofs.Common.{◌≡◌, ℕ, zero, suc, ◌+◌, ◌<◌, ◌≤◌, Bool, true, false, not, ◌&&◌, ◌||◌, List, [], ◌∷◌, length, take, drop, Option, Some, None, refl, sym, ap, subst, arith, inl, inr, ◌⊎◌, ◌∙◌}
use Rattle.std.proofs.lemmas.Bool.{and_parts, cases_lt, eq-eqb, eqb-true, ne_eqb}
use Rattle.std.proofs.lemmas.List.{length-take-le, take-take, take_all}
use Rattle.std.specs.Option.{option_map_or}
use Rattle.std.specs.Prelude.{IsTrue, if◌then◌else◌, is_some, ◌==◌}
use Rattle.rtm_deck_items.specs.View.{DeckView}
use Rattle.rtm_deck_items.specs.WellFormed.{is_well_formed}
use Rattle.rtm_model.specs.declared.entry.Entry.{Entry}
use Rattle.rtm_model.specs.declared.entry.Verdict.{Verdict}
use Rattle.rtm_model.specs.declared.entry.Verdict.TheVariants.{Bad, Fail, Over, Perc, Retry, Stop}
use Rattle.rtm_model.specs.declared.entry.What.{What}
use Rattle.rtm_model.specs.declared.entry.What.TheVariants as whats
use Rattle.rtm_model.specs.declared.error_record.ErrorRecord.{ErrorRecord}
use Rattle.rtm_model.specs.declared.reg.Kind.{Kind}
use Rattle.rtm_model.specs.declared.reg.Kind.TheVariants.{Estae, Estai, Frr, Mgr}
use Rattle.rtm_model.specs.declared.reg.Reg.{Reg}
use Rattle.rtm_model.specs.Advance.{world}
use Rattle.rtm_model.specs.ChainLaw.{ChainLaw, EndsAt, IsChained, are_entered_once, are_left, chain, ends_by, ends_by_leave, ends_in_stop, ends_rightly_from, is_outside, is_own, is_used_up, keeps_chain, keeps_chains_from, leavings, rest_of_list}
use Rattle.rtm_model.specs.Course.{Course, after_failing, after_routine, after_stop, at_error, close_if, course_by, enter_first, in_routine, inside_routine, is_fail, opens_error, runs_on}
use Rattle.rtm_model.specs.Course.{Closed, Goes, Runs, Stopped}
use Rattle.rtm_model.specs.Eligible.{is_named, is_same_kind, list_here, list_of}
use Rattle.rtm_model.specs.Entries.{OpenBracket, Opening, bracket, brackets_of, enclosing_brackets, is_open, opening_in, purges}
use Rattle.rtm_model.specs.Legal.{Legal}
use Rattle.rtm_model.specs.Levels.{Bracket, current, depth_in, error_in}
use Rattle.rtm_model.specs.Moments.{IsAt, before}
use Rattle.rtm_model.specs.NextEntry.{is_outermost}
use Rattle.rtm_model.specs.World.{Core, core_at}
use Rattle.rtm_model.specs.inner.Soundness.{AreNested, IsCoreSound, IsSound, StandsIn}
use Rattle.rtm_law_sound.proofs.Histories.{prefix_legal, world_sound}
use Rattle.rtm_law_landings.proofs.Appended.{below, front_made}
use Rattle.rtm_law_landings.proofs.OpenBrackets.{AreSame, HasName, IsSame, brackets_agree}
use Rattle.rtm_law_births.proofs.Living.{IsMade}
use Rattle.rtm_law_chains.proofs.Distinct.{here_distinct, here_falling}
use Rattle.rtm_law_chains.proofs.Following.{Stands, birth_chain, follows_at, stands, stands_next, unborn}
use Rattle.rtm_law_chains.proofs.Frames.{own_routine}
use Rattle.rtm_law_chains.proofs.Joint.{HasChain, IsAfterStop, IsEnded, IsPending, IsSettled, pending_left}
use Rattle.rtm_law_chains.proofs.Joint as joint
use Rattle.rtm_law_chains.proofs.Marks.{IsAtDepth, deeper_around, depth_open, here_at, nowhere_open}
use Rattle.rtm_law_chains.proofs.Walks.{Walk, name_is, walk_free, walk_rest}
use Rattle.rtm_law_chains.proofs.Whole.{drop_at, has_courses}

-- What a state says of the chain

module _ (d : DeckView) (error u : ℕ) (list : List Reg) (h : List Entry) where
  pub record IsKept : Type 0 where
    pub left : List Reg
    pub walk : Walk d error u list h left
    pub once : are_entered_once (chain error u h) ≡ true
    pub left_all : are_left (chain error u h) (leavings error u h) ≡ true

  kept : (course : Course) → HasChain d error u list h course → IsKept
  kept (Goes left) s = record { left = left; walk = IsSettled.walk s.0; once = joint.IsSound.once (IsSettled.sound s.0); left_all = IsSettled.left_all s.0 }
  kept (Runs routine left inside) s = record { left = left; walk = IsPending.walk s.0; once = joint.IsSound.once (IsPending.sound s.0); left_all = pending_left d error u list h routine left s.0 }
  kept Stopped s =
      let settled = IsAfterStop.settled s.0 in
      record { left = IsAfterStop.left s.0; walk = IsSettled.walk settled; once = joint.IsSound.once (IsSettled.sound settled); left_all = IsSettled.left_all settled }
  kept Closed s = record { left = IsEnded.left s.0; walk = IsEnded.walk s.0; once = joint.IsSound.once (IsEnded.sound s.0); left_all = IsEnded.left_all s.0 }

  -- it is open, but for an error that has ended
  open_or : (course : Course) → HasChain d error u list h course → (course ≡ Closed) ⊎ (is_open error u h ≡ true)
  open_or (Goes left) s = inr (depth_open zero error (brackets_of u h) s.1)
  open_or (Runs routine left inside) s = inr (depth_open (suc inside) error (brackets_of u h) s.1)
  open_or Stopped s = inr (depth_open zero error (brackets_of u h) s.1)
  open_or Closed s = inl refl

  closed_not : HasChain d error u list h Closed → is_open error u h ≡ false
  closed_not s = nowhere_open error (brackets_of u h) s.1

-- The innermost bracket

same_kind : (kind : Kind) → is_same_kind kind kind ≡ true
same_kind Frr = refl
same_kind Estae = refl
same_kind Estai = refl
same_kind Mgr = refl

own_if : (d : DeckView) (h : List Entry) (kind : Kind) (born : ℕ) (reg : Reg) → reg.kind ≡ kind → reg.born ≡ born → (o : Option Opening) (r : Option Reg) → HasName o r → r ≡ Some reg → is_own kind born o ≡ true
own_if d h kind born reg k b None None name e = absurd cc
own_if d h kind born reg k b None (Some own) name e = absurd name
own_if d h kind born reg k b (Some opening) None name e = absurd name
own_if d h kind born reg k b (Some opening) (Some own) name e =
    let same : own ≡ reg = cc in
    let kinds : kind ≡ opening.kind = sym k ∙ sym (ap Reg.kind same) ∙ name.0 in
    let births : opening.born ≡ born = sym name.1 ∙ ap Reg.born same ∙ b in
    rw (kinds, same_kind opening.kind, eq-eqb opening.born born births) refl

own_in : (d : DeckView) (h : List Entry) (kind : Kind) (born : ℕ) (reg : Reg) → reg.kind ≡ kind → reg.born ≡ born → (ls : List Bracket) (bs : List OpenBracket) → AreSame d h ls bs → current ls ≡ Some reg → is_own kind born (opening_in bs) ≡ true
own_in d h kind born reg k b [] bs same e = absurd cc
own_in d h kind born reg k b (l ∷ ls) [] same e = absurd same
own_in d h kind born reg k b (l ∷ ls) (x ∷ bs) same e = own_if d h kind born reg k b x.opening l.routine (IsSame.name same.0) e

outside_if : (o : Option Opening) (r : Option Reg) → HasName o r → r ≡ None → is_outside o ≡ true
outside_if None None name e = refl
outside_if None (Some reg) name e = absurd name
outside_if (Some opening) None name e = absurd name
outside_if (Some opening) (Some reg) name e = absurd cc

none_alone : (r : Option Reg) → StandsIn r None → r ≡ None
none_alone None h = refl
none_alone (Some reg) h = absurd h

outside_in : (d : DeckView) (h : List Entry) (ls : List Bracket) (bs : List OpenBracket) → AreSame d h ls bs → AreNested ls → depth_in ls ≡ 0 → is_outside (opening_in bs) ≡ true
outside_in d h [] [] same nested out = refl
outside_in d h [] (x ∷ bs) same nested out = absurd same
outside_in d h (l ∷ []) [] same nested out = absurd same
outside_in d h (l ∷ []) (x ∷ bs) same nested out = outside_if x.opening l.routine (IsSame.name same.0) (none_alone l.routine nested.0)
outside_in d h (l ∷ o ∷ ls) bs same nested out = absurd (omega (arith, out))

-- What closes a course

runs_deep : (c : Core) (what : What) (routine : Reg) (left : List Reg) (k : ℕ) → runs_on c what routine left (suc k) ≡ inside_routine what routine left (suc k)
runs_deep c what routine left k = rw (ne_eqb (suc k) 0 (λ e. cc)) refl

closed_if : (b : Bool) → close_if b ≡ Some Closed → b ≡ true
closed_if true e = refl
closed_if false e = absurd cc

not_runs : (routine : Reg) (left : List Reg) (b : Bool) → (if b then Some (Runs routine left 0) else None) ≡ Some Closed → ⊥
not_runs routine left true e = cc
not_runs routine left false e = cc

not_first : (kind : Kind) (born : ℕ) (left : List Reg) → enter_first kind born left ≡ Some Closed → ⊥
not_first kind born [] e = cc
not_first kind born (reg ∷ left) e = not_runs reg left (is_named kind born reg) e

not_failing : (o : Option ErrorRecord) (left : List Reg) → after_failing o left ≡ Some Closed → ⊥
not_failing None left e = cc
not_failing (Some r) left e = cc

if_named : (b : Bool) (o : Option Course) → (if b then o else None) ≡ Some Closed → o ≡ Some Closed
if_named true o e = e
if_named false o e = absurd cc

is_nil : (xs : List Reg) → (length xs == 0) ≡ true → xs ≡ []
is_nil [] e = refl
is_nil (x ∷ xs) e = absurd (omega (arith, eqb-true (length (x ∷ xs)) 0 e))

own_named : (kind : Kind) (born : ℕ) (o : Option Reg) → option_map_or (is_named kind born) o false ≡ true → (reg : Reg) × (o ≡ Some reg) × (kind ≡ reg.kind) × (born ≡ reg.born)
own_named kind born None e = absurd cc
own_named kind born (Some reg) e = let is = name_is kind born reg e in (reg, refl, is.0, is.1)

fail_is : (v : Verdict) (b : Bool) → (is_fail v && b) ≡ true → (v ≡ Fail) × (b ≡ true)
fail_is Fail b e = (refl, e)
fail_is _ b e = absurd cc

or_true : (b : Bool) → (b || true) ≡ true
or_true true = refl
or_true false = refl

purge_is : (d : DeckView) (front : List Entry) (error u : ℕ) (what : What) → purges u what ≡ true → ends_by d front error u what ≡ true
purge_is d front error u (whats.Purge unit) goes = goes
purge_is d front error u _ goes = absurd cc

module _ (d : DeckView) (h : List Entry) (error u : ℕ) (list : List Reg) (deck : IsTrue (is_well_formed d)) (legal : Legal d h) (list_is : list_of d h error u ≡ list) where
  same : AreSame d h (Core.levels (core_at u (world d h))) (brackets_of u h)
  same = brackets_agree d h deck legal u

  nested : AreNested (Core.levels (core_at u (world d h)))
  nested = IsCoreSound.nested (IsSound.cores (world_sound d h deck legal) u)

  outside : is_outermost (Core.levels (core_at u (world d h))) ≡ true → is_outside (bracket u h) ≡ true
  outside out = outside_in d h (Core.levels (core_at u (world d h))) (brackets_of u h) same nested (eqb-true (depth_in (Core.levels (core_at u (world d h)))) 0 out)

  own_bracket : (kind : Kind) (born : ℕ) (reg : Reg) → current (Core.levels (core_at u (world d h))) ≡ Some reg → kind ≡ reg.kind → born ≡ reg.born → is_own kind born (bracket u h) ≡ true
  own_bracket kind born reg e k b = own_in d h kind born reg (sym k) (sym b) (Core.levels (core_at u (world d h))) (brackets_of u h) same e

  used_up : (left : List Reg) → left ≡ [] → IsSettled d error u list h left → is_used_up d h error u ≡ true
  used_up left none s =
      let rest : rest_of_list d h error u ≡ Some left = walk_rest d error u list h left list_is s.walk in
      rw (rest, none, eq-eqb (length (chain error u h)) (length (leavings error u h)) s.even) refl

  going_closes : (left : List Reg) → IsSettled d error u list h left → (what : What) → at_error (core_at u (world d h)) what left ≡ Some Closed → ends_by d h error u what ≡ true
  going_closes left s (whats.Enter kind born mark bare) e = absurd (not_first kind born left e)
  going_closes left s (whats.Leave kind born v logrec dump) e =
      let c : Core = core_at u (world d h) in
      let parts = and_parts (is_fail v && (length left == 0)) (option_map_or (is_named kind born) (current c.levels) false) (closed_if _ e) in
      let fails = fail_is v (length left == 0) parts.0 in
      let own = own_named kind born (current c.levels) parts.1 in
      rw (fails.0, own_bracket kind born own.0 own.1 own.2 own.3, used_up left (is_nil left fails.1) s) refl
  going_closes left s (whats.Begin code dump) e =
      let parts = and_parts (is_outermost (Core.levels (core_at u (world d h)))) (length left == 0) (closed_if _ e) in
      rw (outside parts.0, used_up left (is_nil left parts.1) s) refl
  going_closes left s (whats.Arrive cmd became) e = absurd cc
  going_closes left s _ e = absurd cc

  stop_closes : ends_in_stop (leavings error u h) ≡ true → (what : What) → after_stop (core_at u (world d h)) what ≡ Some Closed → ends_by d h error u what ≡ true
  stop_closes stop (whats.Begin code dump) e = rw (outside (closed_if _ e), stop) (or_true (is_used_up d h error u))
  stop_closes stop (whats.Arrive cmd became) e = absurd cc
  stop_closes stop _ e = absurd cc

  deep_closes : (routine : Reg) (left : List Reg) (k : ℕ) (what : What) → inside_routine what routine left (suc k) ≡ Some Closed → ⊥
  deep_closes routine left k (whats.Leave kind born v logrec dump) e = cc
  deep_closes routine left k (whats.Enter kind born mark bare) e = cc
  deep_closes routine left k (whats.Exec at rc) e = cc
  deep_closes routine left k (whats.Error at mark) e = cc
  deep_closes routine left k (whats.Land class from mark) e = cc
  deep_closes routine left k (whats.Arrive cmd became) e = cc
  deep_closes routine left k _ e = cc

  left_closes : (routine : Reg) (left : List Reg) → IsAtDepth (suc zero) error (brackets_of u h) → (kind : Kind) (born : ℕ) (v : Verdict) → is_own kind born (bracket u h) ≡ true → after_routine (core_at u (world d h)) v left ≡ Some Closed
      → ends_by_leave d h error u kind born v ≡ true
  left_closes routine left at kind born (Retry place) own e =
      rw (here_at error (enclosing_brackets (brackets_of u h)) (deeper_around zero error (brackets_of u h) at), own, closed_if _ e) refl
  left_closes routine left at kind born Perc own e = absurd cc
  left_closes routine left at kind born Bad own e = absurd cc
  left_closes routine left at kind born Stop own e = absurd cc
  left_closes routine left at kind born Fail own e = absurd (not_failing (error_in (Core.levels (core_at u (world d h)))) left e)
  left_closes routine left at kind born Over own e = absurd cc

  near_closes : (n : ℕ) (routine : Reg) (left : List Reg) → IsAtDepth (suc zero) error (brackets_of u h) → (what : What) → IsMade d (world d h) n (record { unit = u; what = what }) → in_routine (core_at u (world d h)) what routine left ≡ Some Closed → ends_by d h error u what ≡ true
  near_closes n routine left at (whats.Leave kind born v logrec dump) m e =
      let own = own_routine d (world d h) n u kind born v logrec dump m in
      left_closes routine left at kind born v (own_bracket kind born own.0 own.1 (sym own.2) (sym own.3)) (if_named (is_named kind born routine) _ e)
  near_closes n routine left at (whats.Enter kind born mark bare) m e = absurd cc
  near_closes n routine left at (whats.Exec at_place rc) m e = absurd cc
  near_closes n routine left at (whats.Error at_place mark) m e = absurd cc
  near_closes n routine left at (whats.Land class from mark) m e = absurd cc
  near_closes n routine left at (whats.Arrive cmd became) m e = absurd cc
  near_closes n routine left at _ m e = absurd cc

  own_closes : (n : ℕ) (what : What) → IsMade d (world d h) n (record { unit = u; what = what }) → (course : Course) → (course ≡ Closed → ⊥) → HasChain d error u list h course → course_by (core_at u (world d h)) what course ≡ Some Closed → ends_by d h error u what ≡ true
  own_closes n what m (Goes left) other s e = going_closes left s.0 what e
  own_closes n what m (Runs routine left zero) other s e = near_closes n routine left s.1 what m e
  own_closes n what m (Runs routine left (suc k)) other s e = absurd (deep_closes routine left k what (sym (runs_deep (core_at u (world d h)) what routine left k) ∙ e))
  own_closes n what m Stopped other s e = stop_closes (IsAfterStop.stop s.0) what e
  own_closes n what m Closed other s e = absurd (other refl)

  closes_if : (n : ℕ) (e : Entry) → IsMade d (world d h) n e → (course : Course) → (course ≡ Closed → ⊥) → HasChain d error u list h course → (a b : Bool) → purges u e.what ≡ a → (e.unit == u) ≡ b
      → (if a then Some Closed else if b then course_by (core_at u (world d h)) e.what course else Some course) ≡ Some Closed → ends_by d h error u e.what ≡ true
  closes_if n e m course other s true b goes own is = purge_is d h error u e.what goes
  closes_if n e m course other s false true stays own is =
      own_closes n e.what (subst (λ (v : ℕ). IsMade d (world d h) n (record { unit = v; what = e.what })) (eqb-true e.unit u own) m) course other s is
  closes_if n e m course other s false false stays own is = absurd (other cc)

-- Each error

module _ (d : DeckView) (history : List Entry) (deck : IsTrue (is_well_formed d)) (legal : Legal d history) (i : ℕ) (e0 : Entry) (at0 : IsAt history i e0) (opens : opens_error e0.what ≡ true) where
  list_front : (k : ℕ) → i < k → list_of d (take k history) i e0.unit ≡ list_of d history i e0.unit
  list_front k less = ap (λ (es : List Entry). list_here (core_at e0.unit (world d es))) (take-take (i + 1) k history (omega (arith, less)))

  born_before : (k : ℕ) → k ≤ length history → is_open i e0.unit (take k history) ≡ true → i < k
  born_before k le lived = elim (cases_lt i k) [
    | inl less ↦ less
    | inr more ↦
        let none = unborn i e0.unit (take k history) (omega (arith, length-take-le k history le, more)) in
        let clash : false ≡ true = sym (nowhere_open i (brackets_of e0.unit (take k history)) none.nowhere) ∙ lived in
        absurd cc
  ]

  ends_at : (k : ℕ) (e : Entry) → IsAt history k e → EndsAt history i e0.unit k → ends_by d (take k history) i e0.unit e.what ≡ true
  ends_at k e at ends =
      let within : k < length history = below history k e at in
      let less = born_before k (omega (arith, within)) ends.lived in
      let s = stands d history deck legal i e0 at0 opens k less (omega (arith, within)) in
      let f = follows_at d history deck legal i e0 at0 opens k e at s in
      let next = stands_next d history deck legal i e0 at0 opens k e at less s f in
      let list = list_of d history i e0.unit in
      let closed : f.course ≡ Closed = elim (open_or d i e0.unit list (take (k + 1) history) f.course next) [
        | inl is ↦ is
        | inr open_is ↦ let clash : false ≡ true = sym ends.gone ∙ open_is in absurd cc
      ] in
      let other : s.course ≡ Closed → ⊥ = λ is.
      let gone = closed_not d i e0.unit list (take k history) (subst (HasChain d i e0.unit list (take k history)) is s.chain_is) in
      let clash : false ≡ true = sym gone ∙ ends.lived in
      cc in
      closes_if d (take k history) i e0.unit list deck (prefix_legal d history k legal) (list_front k less) k e (front_made d history deck legal k e at) s.course other s.chain_is
      (purges e0.unit e.what) (e.unit == e0.unit) refl refl (f.course_is ∙ ap Some closed)

  rightly_if : (k : ℕ) (e : Entry) (es : List Entry) → IsAt history k e → is_open i e0.unit (take k history) ≡ true → (b : Bool) → is_open i e0.unit (take (k + 1) history) ≡ b
      → (is_open i e0.unit (take (k + 1) history) ≡ true → ends_rightly_from d history i e0.unit (k + 1) es ≡ true)
      → (if b then ends_rightly_from d history i e0.unit (k + 1) es else ends_by d (take k history) i e0.unit e.what) ≡ true
  rightly_if k e es at lived true is more = more is
  rightly_if k e es at lived false is more = ends_at k e at (record { lived = lived; gone = is })

  rightly : (es : List Entry) (k : ℕ) → drop k history ≡ es → is_open i e0.unit (take k history) ≡ true → ends_rightly_from d history i e0.unit k es ≡ true
  rightly [] k rest lived = refl
  rightly (e ∷ es) k rest lived =
      let at = drop_at history k e es rest in
      rightly_if k e es at.0 lived (is_open i e0.unit (take (k + 1) history)) refl (λ more. rightly es (k + 1) at.1 more)

  at_end : Stands d history deck legal i e0 at0 opens (length history)
  at_end = stands d history deck legal i e0 at0 opens (length history) (below history i e0 at0) (omega arith)

  kept_all : IsKept d i e0.unit (list_of d history i e0.unit) history
  kept_all =
      kept d i e0.unit (list_of d history i e0.unit) history at_end.course
      (subst (λ (es : List Entry). HasChain d i e0.unit (list_of d history i e0.unit) es at_end.course) (take_all (length history) history (omega arith)) at_end.chain_is)

  born_open : is_open i e0.unit (take (i + 1) history) ≡ true
  born_open = depth_open zero i (brackets_of e0.unit (take (i + 1) history)) (birth_chain d history deck legal i e0 at0 opens).1

  pub chained : IsChained d history i e0.unit
  chained = record {
    falling = here_falling d (take (i + 1) history) e0.unit deck (prefix_legal d history (i + 1) legal);
    distinct = here_distinct d (length (take (i + 1) history)) (core_at e0.unit (before d history (i + 1))) (IsSound.cores (world_sound d (take (i + 1) history) deck (prefix_legal d history (i + 1) legal)) e0.unit);
    free = walk_free d i e0.unit (list_of d history i e0.unit) history kept_all.left refl kept_all.walk;
    forced = ap is_some (walk_rest d i e0.unit (list_of d history i e0.unit) history kept_all.left refl kept_all.walk);
    once = kept_all.once;
    left = kept_all.left_all;
    ends = λ k e at ends. ends_at k e at ends;
    course = (has_courses d history deck legal).has i e0 at0 opens;
  }

  pub keeps_one : keeps_chain d history i e0.unit ≡ true
  keeps_one =
      rw (chained.forced, chained.once, chained.left, rightly (drop (i + 1) history) (i + 1) refl born_open, chained.course) refl

module _ (d : DeckView) (history : List Entry) (deck : IsTrue (is_well_formed d)) (legal : Legal d history) where
  keeps_if : (i : ℕ) (e : Entry) → IsAt history i e → (b : Bool) → opens_error e.what ≡ b → (not b || keeps_chain d history i e.unit) ≡ true
  keeps_if i e at true opens = keeps_one d history deck legal i e at opens
  keeps_if i e at false opens = refl

  keeps_from : (es : List Entry) (i : ℕ) → drop i history ≡ es → keeps_chains_from d history i es ≡ true
  keeps_from [] i same = refl
  keeps_from (e ∷ es) i same =
      let at = drop_at history i e es same in
      rw (keeps_if i e at.0 (opens_error e.what) refl, keeps_from es (i + 1) at.1) refl

  pub chain_law : ChainLaw d history
  chain_law = record {
    chained = λ i e at opens. chained d history deck legal i e at opens;
    each = keeps_from history 0 refl;
  }
