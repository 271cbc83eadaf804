-- The chain of each error of a legal history, from its birth on.
use Rattle.std.proofs.Common.{◌≡◌, ℕ, zero, suc, ◌+◌, ◌-◌, ◌<◌, ◌≤◌, Bool, true, false, List, [], ◌∷◌, ◌++◌, length, take, Option, Some, None, refl, sym, ap, subst, arith, inl, ◌∙◌}
use Rattle.std.proofs.lemmas.Bool.{eq-eqb, eqb-true, ne_eqb}
use Rattle.std.specs.Prelude.{IsSomeAnd, IsTrue, if◌then◌else◌, ◌==◌}
use Rattle.rtm_deck_items.specs.View.{DeckView}
use Rattle.rtm_deck_items.specs.WellFormed.{is_well_formed}
use Rattle.rtm_model.specs.declared.entry.Entry.{Entry}
use Rattle.rtm_model.specs.declared.entry.What.{What}
use Rattle.rtm_model.specs.declared.entry.What.TheVariants as whats
use Rattle.rtm_model.specs.declared.reg.Reg.{Reg}
use Rattle.rtm_model.specs.Advance.{world}
use Rattle.rtm_model.specs.ChainLaw.{Leaving, chain, chain_from, leaving_at, leavings, leavings_from, opening_at}
use Rattle.rtm_model.specs.Course.{Course, course_after, course_by, opens_error}
use Rattle.rtm_model.specs.Course.{Closed, Goes, Runs, Stopped}
use Rattle.rtm_model.specs.Eligible.{AreDistinct, list_of}
use Rattle.rtm_model.specs.Entries.{OpenBracket, Opening, brackets_after, brackets_from, brackets_of, enclosing_brackets, outermost_bracket, own_brackets, purges}
use Rattle.rtm_model.specs.Legal.{Legal}
use Rattle.rtm_model.specs.Levels.{Bracket}
use Rattle.rtm_model.specs.Moments.{IsAt, before}
use Rattle.rtm_model.specs.Tasks.{is_number}
use Rattle.rtm_model.specs.World.{core_at}
use Rattle.rtm_model.specs.inner.Soundness.{IsCoreSound, IsSound}
use Rattle.rtm_law_births.proofs.Histories.{entry_at}
use Rattle.rtm_law_sound.proofs.Histories.{prefix_legal, world_sound}
use Rattle.rtm_law_landings.proofs.Appended.{front_length, take_next}
use Rattle.rtm_law_landings.proofs.OpenBrackets.{AreSame, brackets_agree}
use Rattle.rtm_law_chains.proofs.Alongside.{own_on}
use Rattle.rtm_law_chains.proofs.Courses.{HasState}
use Rattle.rtm_law_chains.proofs.Distinct.{here_distinct}
use Rattle.rtm_law_chains.proofs.Joint.{HasChain, IsAfterStop, IsEnded, brackets_more, chain_still, ended_same, leavings_still, neither, not_entered, not_left, pending_ends, pending_same, settled_ends, settled_same, stopped_same}
use Rattle.rtm_law_chains.proofs.Marks.{IsAtDepth, IsNowhere, nowhere_around, nowhere_here, nowhere_own, opened_here, outermost_nowhere}
use Rattle.rtm_law_chains.proofs.Whole.{born_at, step_at}

-- Before its birth the error is nowhere

nowhere_after : (error u n : ℕ) → is_number error (Some n) ≡ false → (e : Entry) (bs : List OpenBracket) → IsNowhere error bs → (a b : Bool) → IsNowhere error (if a then outermost_bracket else if b then own_brackets n e.what bs else bs)
nowhere_after error u n other e bs h true b = outermost_nowhere error
nowhere_after error u n other e bs h false true = nowhere_own error n other e.what bs h
nowhere_after error u n other e bs h false false = h

pub record IsUnborn (error u n : ℕ) (es : List Entry) (bs : List OpenBracket) : Type 0 where
  pub chain_is : chain_from error u n bs es ≡ []
  pub left_is : leavings_from error u n bs es ≡ []
  pub nowhere : IsNowhere error (brackets_from u n es bs)

unborn_from : (error u n : ℕ) (es : List Entry) (bs : List OpenBracket) → n + length es ≤ error → IsNowhere error bs → IsUnborn error u n es bs
unborn_from error u n [] bs le h = record { chain_is = refl; left_is = refl; nowhere = h }
unborn_from error u n (e ∷ es) bs le h =
    let other : is_number error (Some n) ≡ false = ne_eqb n error (λ same. omega (arith, le, same)) in
    let next = nowhere_after error u n other e bs h (purges u e.what) (e.unit == u) in
    let rest = unborn_from error u (n + 1) es (brackets_after u n e bs) (omega (arith, le)) next in
    record {
      chain_is = ap (λ (os : List Opening). os ++ chain_from error u (n + 1) (brackets_after u n e bs) es) (not_entered error u n bs e (nowhere_here error bs h)) ∙ rest.chain_is;
      left_is = ap (λ (ls : List Leaving). ls ++ leavings_from error u (n + 1) (brackets_after u n e bs) es) (not_left error u n bs e (nowhere_here error (enclosing_brackets bs) (nowhere_around error bs h))) ∙ rest.left_is;
      nowhere = rest.nowhere;
    }

pub unborn : (error u : ℕ) (h : List Entry) → length h ≤ error → IsUnborn error u 0 h outermost_bracket
unborn error u h le = unborn_from error u 0 h outermost_bracket (omega (arith, le)) (outermost_nowhere error)

-- a unit has brackets
some_same : (d : DeckView) (h : List Entry) (ls : List Bracket) (bs : List OpenBracket) → AreSame d h ls bs → 1 ≤ length ls → 1 ≤ length bs
some_same d h [] bs same some = absurd (omega (arith, some))
some_same d h (l ∷ ls) [] same some = absurd same
some_same d h (l ∷ ls) (b ∷ bs) same some = omega arith

some_brackets : (d : DeckView) (h : List Entry) (u : ℕ) → IsTrue (is_well_formed d) → Legal d h → 1 ≤ length (brackets_of u h)
some_brackets d h u deck legal = some_same d h _ _ (brackets_agree d h deck legal u) (IsCoreSound.levels_some (IsSound.cores (world_sound d h deck legal) u))

opens_here : (n : ℕ) (what : What) (bs : List OpenBracket) → opens_error what ≡ true → 1 ≤ length bs → IsNowhere n bs → IsAtDepth zero n (own_brackets n what bs)
opens_here n (whats.Error at mark) bs opens some h = opened_here n bs some h
opens_here n (whats.Land class from mark) bs opens some h = opened_here n bs some h
opens_here n _ bs opens some h = absurd cc

opens_none : (n : ℕ) (what : What) → opens_error what ≡ true → (opening_at n what ≡ []) × (leaving_at n what ≡ [])
opens_none n (whats.Error at mark) opens = (refl, refl)
opens_none n (whats.Land class from mark) opens = (refl, refl)
opens_none n _ opens = absurd cc

opens_stays : (u : ℕ) (what : What) → opens_error what ≡ true → purges u what ≡ false
opens_stays u (whats.Error at mark) opens = refl
opens_stays u (whats.Land class from mark) opens = refl
opens_stays u _ opens = absurd cc

-- at its birth
module _ (d : DeckView) (h : List Entry) (e : Entry) (deck : IsTrue (is_well_formed d)) (legal : Legal d h) (opens : opens_error e.what ≡ true) (list : List Reg) (distinct : AreDistinct list) where
  abbrev Longer : List Entry
  Longer = h ++ e ∷ []

  before_birth : IsUnborn (length h) e.unit 0 h outermost_bracket
  before_birth = unborn (length h) e.unit h (omega arith)

  chain_none : chain (length h) e.unit Longer ≡ []
  chain_none =
      chain_still (length h) e.unit h e (neither _ (opening_at (length h) e.what) (opens_none (length h) e.what opens).0) ∙ before_birth.chain_is

  left_none : leavings (length h) e.unit Longer ≡ []
  left_none =
      leavings_still (length h) e.unit h e (neither _ (leaving_at (length h) e.what) (opens_none (length h) e.what opens).1) ∙ before_birth.left_is

  brackets_now : brackets_of e.unit Longer ≡ own_brackets (length h) e.what (brackets_of e.unit h)
  brackets_now = brackets_more e.unit h e ∙ rw (opens_stays e.unit e.what opens, eq-eqb e.unit e.unit refl) refl

  born_chain : HasChain d (length h) e.unit list Longer (Goes list)
  born_chain = (
    record {
      sound = record { below = rw chain_none tt; left_below = rw left_none tt; once = rw chain_none refl };
      walk = inl (record { none = rw left_none refl; rest = rw chain_none refl });
      left_all = rw (chain_none, left_none) refl;
      even = rw (chain_none, left_none) refl;
      apart = rw chain_none tt;
      distinct = distinct;
    },
    subst (IsAtDepth zero (length h)) (sym brackets_now) (opens_here (length h) e.what (brackets_of e.unit h) opens (some_brackets d h e.unit deck legal) before_birth.nowhere),
  )

-- The entry of another unit, and a purge

purge_none : (u n : ℕ) (what : What) → purges u what ≡ true → (opening_at n what ≡ []) × (leaving_at n what ≡ [])
purge_none u n (whats.Purge unit) goes = (refl, refl)
purge_none u n _ goes = absurd cc

module _ (d : DeckView) (error u : ℕ) (list : List Reg) (h : List Entry) (e : Entry) where
  purged_brackets : purges u e.what ≡ true → brackets_of u (h ++ e ∷ []) ≡ outermost_bracket
  purged_brackets goes = brackets_more u h e ∙ rw goes refl

  module _ (chains : chain error u (h ++ e ∷ []) ≡ chain error u h) (lefts : leavings error u (h ++ e ∷ []) ≡ leavings error u h) where
    all_ends : (course : Course) → HasChain d error u list h course → IsEnded d error u list (h ++ e ∷ [])
    all_ends (Goes left) s = settled_ends d error u list h e chains lefts left s.0
    all_ends (Runs routine left inside) s = pending_ends d error u list h e chains lefts routine left s.0
    all_ends Stopped s = settled_ends d error u list h e chains lefts (IsAfterStop.left s.0) (IsAfterStop.settled s.0)
    all_ends Closed s = ended_same d error u list h e chains lefts s.0

    all_same : brackets_of u (h ++ e ∷ []) ≡ brackets_of u h → (course : Course) → HasChain d error u list h course → HasChain d error u list (h ++ e ∷ []) course
    all_same same (Goes left) s = (settled_same d error u list h e chains lefts left s.0, subst (IsAtDepth zero error) (sym same) s.1)
    all_same same (Runs routine left inside) s = (pending_same d error u list h e chains lefts routine left s.0, subst (IsAtDepth (suc inside) error) (sym same) s.1)
    all_same same Stopped s = (stopped_same d error u list h e chains lefts s.0, subst (IsAtDepth zero error) (sym same) s.1)
    all_same same Closed s = (ended_same d error u list h e chains lefts s.0, subst (IsNowhere error) (sym same) s.1)

  purged_chain : purges u e.what ≡ true → (course : Course) → HasChain d error u list h course → HasChain d error u list (h ++ e ∷ []) Closed
  purged_chain goes course s =
      let none = purge_none u (length h) e.what goes in (
        all_ends (chain_still error u h e (neither _ (opening_at (length h) e.what) none.0)) (leavings_still error u h e (neither _ (leaving_at (length h) e.what) none.1)) course s,
        subst (IsNowhere error) (sym (purged_brackets goes)) (outermost_nowhere error),
      )

  other_chain : purges u e.what ≡ false → (e.unit == u) ≡ false → (course : Course) → HasChain d error u list h course → HasChain d error u list (h ++ e ∷ []) course
  other_chain stays other course s =
      all_same (chain_still error u h e (rw other refl)) (leavings_still error u h e (rw other refl)) (brackets_more u h e ∙ rw (stays, other) refl) course s

  module _ (less : error < length h) where
    own_chain : purges u e.what ≡ false → e.unit ≡ u → (course course2 : Course) → course_by (core_at u (world d h)) e.what course ≡ Some course2 → HasChain d error u list h course → HasChain d error u list (h ++ e ∷ []) course2
    own_chain stays same course course2 is s =
        subst (λ (v : ℕ). HasChain d error u list (h ++ record { unit = v; what = e.what } ∷ []) course2) (sym same) (own_on d error u list h less e.what course course2 stays is s)

    step_if : (a b : Bool) → purges u e.what ≡ a → (e.unit == u) ≡ b → (course course2 : Course) → (if a then Some Closed else if b then course_by (core_at u (world d h)) e.what course else Some course) ≡ Some course2
        → HasChain d error u list h course → HasChain d error u list (h ++ e ∷ []) course2
    step_if true b goes own course course2 is s = let same : course2 ≡ Closed = cc in subst (HasChain d error u list (h ++ e ∷ [])) (sym same) (purged_chain goes course s)
    step_if false true stays own course course2 is s = own_chain stays (eqb-true e.unit u own) course course2 is s
    step_if false false stays other course course2 is s = let same : course2 ≡ course = cc in subst (HasChain d error u list (h ++ e ∷ [])) (sym same) (other_chain stays other course s)

    pub step_chain : (course course2 : Course) → course_after u (world d h) e course ≡ Some course2 → HasChain d error u list h course → HasChain d error u list (h ++ e ∷ []) course2
    step_chain course course2 is s = step_if (purges u e.what) (e.unit == u) refl refl course course2 is s

-- From its birth on

module _ (d : DeckView) (history : List Entry) (deck : IsTrue (is_well_formed d)) (legal : Legal d history) (i : ℕ) (e0 : Entry) (at0 : IsAt history i e0) (opens : opens_error e0.what ≡ true) where
  pub record Stands (k : ℕ) : Type 0 where
    pub course : Course
    pub state : HasState (core_at e0.unit (before d history k)) course
    pub chain_is : HasChain d i e0.unit (list_of d history i e0.unit) (take k history) course

  pub record Follows (k : ℕ) (e : Entry) (s : Stands k) : Type 0 where
    pub course : Course
    pub course_is : course_after e0.unit (before d history k) e s.course ≡ Some course
    pub state : HasState (core_at e0.unit (before d history (k + 1))) course

  follows_if : (k : ℕ) (e : Entry) (s : Stands k) (o : Option Course) → course_after e0.unit (before d history k) e s.course ≡ o → IsSomeAnd o (HasState (core_at e0.unit (before d history (k + 1)))) → Follows k e s
  follows_if k e s None is h = absurd h
  follows_if k e s (Some course) is h = record { course = course; course_is = is; state = h }

  pub follows_at : (k : ℕ) (e : Entry) → IsAt history k e → (s : Stands k) → Follows k e s
  follows_at k e at s = follows_if k e s (course_after e0.unit (before d history k) e s.course) refl (step_at d history deck legal e0.unit k e at s.course s.state)

  pub stands_next : (k : ℕ) (e : Entry) → IsAt history k e → i < k → (s : Stands k) → (f : Follows k e s) → HasChain d i e0.unit (list_of d history i e0.unit) (take (k + 1) history) f.course
  stands_next k e at less s f =
      let long : length (take k history) ≡ k = front_length history k e at in
      subst (λ (es : List Entry). HasChain d i e0.unit (list_of d history i e0.unit) es f.course) (sym (take_next history k e at))
      (step_chain d i e0.unit (list_of d history i e0.unit) (take k history) e (omega (arith, less, long)) s.course f.course f.course_is s.chain_is)

  pub birth_chain : HasChain d i e0.unit (list_of d history i e0.unit) (take (i + 1) history) (Goes (list_of d history i e0.unit))
  birth_chain =
      let long : length (take i history) ≡ i = front_length history i e0 at0 in
      let next = take_next history i e0 at0 in
      let list : List Reg = list_of d history i e0.unit in
      let distinct : AreDistinct list = here_distinct d (length (take (i + 1) history)) (core_at e0.unit (before d history (i + 1))) (IsSound.cores (world_sound d (take (i + 1) history) deck (prefix_legal d history (i + 1) legal)) e0.unit) in
      subst (λ (es : List Entry). HasChain d i e0.unit list es (Goes list)) (sym next)
      (subst (λ (n : ℕ). HasChain d n e0.unit list (take i history ++ e0 ∷ []) (Goes list)) long
      (born_chain d (take i history) e0 deck (prefix_legal d history i legal) opens list distinct))

  at_birth : Stands (i + 1)
  at_birth = record { course = Goes (list_of d history i e0.unit); state = born_at d history deck legal i e0 at0 opens; chain_is = birth_chain }

  stands_by : (m : ℕ) → i + 1 + m ≤ length history → Stands (i + 1 + m)
  stands_by zero le = let k : i + 1 + 0 ≡ i + 1 = omega arith in subst Stands (sym k) at_birth
  stands_by (suc m) le =
      let at = entry_at history (i + 1 + m) (omega (arith, le)) in
      let s = stands_by m (omega (arith, le)) in
      let f = follows_at (i + 1 + m) at.0 at.1 s in
      let k : i + 1 + suc m ≡ i + 1 + m + 1 = omega arith in
      subst Stands (sym k) (record { course = f.course; state = f.state; chain_is = stands_next (i + 1 + m) at.0 at.1 (omega arith) s f })

  pub stands : (k : ℕ) → i < k → k ≤ length history → Stands k
  stands k less le =
      let m : i + 1 + (k - (i + 1)) ≡ k = omega (arith, less) in
      subst Stands m (stands_by (k - (i + 1)) (omega (arith, less, le)))
