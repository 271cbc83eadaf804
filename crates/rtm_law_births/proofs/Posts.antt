-- What a post leaves of pending aborts, and what becomes of it.
use Rattle.std.proofs.Common.{◌≡◌, ℕ, zero, suc, ◌<◌, ◌≤◌, Bool, true, false, not, ◌||◌, List, [], ◌∷◌, ◌++◌, length, refl, sym, ap, subst, arith, inl, inr, ◌⊎◌, ◌∙◌}
use Rattle.std.proofs.lemmas.Bool.{cases_lt, eqb-false, eqb-true}
use Rattle.std.proofs.lemmas.List.{get_or_past, set_past}
use Rattle.std.specs.List.{AllByRecursion}
use Rattle.std.specs.Prelude.{if◌then◌else◌, is_some, ◌==◌}
use Rattle.rtm_model.specs.declared.abort.Abort.{Abort}
use Rattle.rtm_model.specs.declared.entry.Class.{Class}
use Rattle.rtm_model.specs.declared.entry.Fate.{Fate}
use Rattle.rtm_model.specs.declared.entry.Fate.TheVariants.{Late, Merged, Queued}
use Rattle.rtm_model.specs.declared.outcome.Outcome.TheVariants.{Executed}
use Rattle.rtm_model.specs.Aborts.{fate_of, has_class, is_of_class, with_abort}
use Rattle.rtm_model.specs.Posts.{post_to, post_to_subtasks, with_posted}
use Rattle.rtm_model.specs.Cards.{fate_rc}
use Rattle.rtm_model.specs.Moments.{IsIn}
use Rattle.rtm_model.specs.Surroundings.{fate_in, is_late}
use Rattle.rtm_model.specs.Tasks.{Dormant, HasEnded, Life, Lives, Tree, is_living, is_subtask_of, life_of}
use Rattle.rtm_model.specs.World.{Core, UnitOfWork, World, core_at, lives_in, unit_at}
use Rattle.rtm_model.proofs.Units.{unit_here, unit_there}
use Rattle.rtm_law_births.specs.Aborts.{ComeInTurn, ComesBefore}
use Rattle.rtm_law_births.proofs.Lists.{append_left, append_right, in_append}
use Rattle.rtm_law_births.proofs.Living.{Moves, same_list, said_by, unmoved}

-- the aborts that are pending for a unit
abbrev pub pending_of : ℕ → List UnitOfWork → List Abort
pending_of v units = UnitOfWork.pending (unit_at v units)

-- the list, by whether the abort is late, and whether one of its class is there
posted_if : (a abort : Abort) (p : List Abort) (late there : Bool)
    → Moves (IsIn a (if late || there then p else p ++ abort ∷ [])) (IsIn a p) ((a ≡ abort) × ((if late then Late else if there then Merged else Queued) ≡ Queued)) ⊥
posted_if a abort p true there = unmoved (λ h. h) (λ h. h) (λ h. let e : Late ≡ Queued = h.1 in absurd cc) (λ h. h)
posted_if a abort p false true = unmoved (λ h. h) (λ h. h) (λ h. let e : Merged ≡ Queued = h.1 in absurd cc) (λ h. h)
posted_if a abort p false false = record {
  came = λ h. elim (in_append p (abort ∷ []) a h) [
    | inl old ↦ inr (old, λ k. k)
    | inr new ↦ elim new [ inl same ↦ inl (same, refl) | inr none ↦ absurd none ]
  ];
  born = λ h. append_right p (abort ∷ []) a (inl h.0);
  stays = λ h alive. append_left p (abort ∷ []) a h;
}

pub posted_list : (a abort : Abort) (p : List Abort) (late : Bool)
    → Moves (IsIn a (with_abort late abort p)) (IsIn a p) ((a ≡ abort) × (fate_of late abort.class p ≡ Queued)) ⊥
posted_list a abort p late = posted_if a abort p late (has_class abort.class p)

-- a unit that isn't there is late
late_past : (w : World) (t : ℕ) → length (Tree.lives w.tree) ≤ t → is_late w t ≡ true
late_past w t h =
    let none : life_of t (Tree.lives w.tree) ≡ Dormant = get_or_past (Tree.lives w.tree) t Dormant h in
    ap (λ (life : Life). not (is_living life) || is_some (Core.begun (core_at t w))) none

-- each unit's list after a post: that of the target has the abort, where it is queued
module _ (w : World) (lens : length (Tree.lives w.tree) ≤ length w.units) (t : ℕ) (abort : Abort) where
  target_list : (t < length w.units) ⊎ (length w.units ≤ t) → pending_of t (World.units (post_to t abort w)) ≡ with_abort (is_late w t) abort (pending_of t w.units)
  target_list (inl within) = ap UnitOfWork.pending (unit_here t (with_posted (is_late w t) abort) w.units within)
  target_list (inr past) =
      let late = late_past w t (omega (arith, lens, past)) in
      ap (pending_of t) (set_past w.units t (with_posted (is_late w t) abort (unit_at t w.units)) past)
      ∙ ap (λ (l : Bool). with_abort l abort (pending_of t w.units)) (sym late)

  pub posted_here : pending_of t (World.units (post_to t abort w)) ≡ with_abort (is_late w t) abort (pending_of t w.units)
  posted_here = target_list (cases_lt t (length w.units))

  pub posted_there : (v : ℕ) → (v ≡ t → ⊥) → pending_of v (World.units (post_to t abort w)) ≡ pending_of v w.units
  posted_there v other = ap UnitOfWork.pending (unit_there t v (with_posted (is_late w t) abort) w.units other)

  posts_if : (a : Abort) (v : ℕ) (b : Bool) → (v == t) ≡ b
      → Moves (IsIn a (pending_of v (World.units (post_to t abort w)))) (IsIn a (pending_of v w.units)) ((v ≡ t) × (a ≡ abort) × (fate_in w t abort.class ≡ Queued)) ⊥
  posts_if a v true e =
      let same = eqb-true v t e in
      let there = posted_list a abort (pending_of t w.units) (is_late w t) in
      said_by (λ h. subst (λ (i : ℕ). IsIn a (pending_of i (World.units (post_to t abort w)))) (sym same) (subst (IsIn a) (sym posted_here) h))
      (λ h. subst (IsIn a) posted_here (subst (λ (i : ℕ). IsIn a (pending_of i (World.units (post_to t abort w)))) same h))
      (λ h. subst (λ (i : ℕ). IsIn a (pending_of i w.units)) (sym same) h)
      (λ h. subst (λ (i : ℕ). IsIn a (pending_of i w.units)) same h)
      (λ h. (same, h.0, h.1)) (λ h. (h.1, h.2)) (λ h. h) (λ h. h) there
  posts_if a v false e =
      let other = eqb-false v t e in
      said_by (λ h. h) (λ h. h) (λ h. h) (λ h. h) (λ h. absurd h) (λ h. other h.0) (λ h. h) (λ h. h)
      (same_list a (pending_of v w.units) (pending_of v (World.units (post_to t abort w))) (posted_there v other))

  pub posts : (a : Abort) (v : ℕ) → Moves (IsIn a (pending_of v (World.units (post_to t abort w)))) (IsIn a (pending_of v w.units)) ((v ≡ t) × (a ≡ abort) × (fate_in w t abort.class ≡ Queued)) ⊥
  posts a v = posts_if a v (v == t) refl

  -- the list is as it was, or has the abort besides
  grows_if : (v : ℕ) (b : Bool) → (v == t) ≡ b → (pending_of v (World.units (post_to t abort w)) ≡ pending_of v w.units) ⊎ ((late : Bool) × (pending_of v (World.units (post_to t abort w)) ≡ with_abort late abort (pending_of v w.units)))
  grows_if v true e = let same = eqb-true v t e in inr (is_late w t, rw same posted_here)
  grows_if v false e = inl (posted_there v (eqb-false v t e))

  pub grows : (v : ℕ) → (pending_of v (World.units (post_to t abort w)) ≡ pending_of v w.units) ⊎ ((late : Bool) × (pending_of v (World.units (post_to t abort w)) ≡ with_abort late abort (pending_of v w.units)))
  grows v = grows_if v (v == t) refl

-- the fate in two worlds that agree on the target
pub same_fate : (w1 w2 : World) (t : ℕ) (class : Class) → is_late w1 t ≡ is_late w2 t → pending_of t w1.units ≡ pending_of t w2.units → fate_in w1 t class ≡ fate_in w2 t class
same_fate w1 w2 t class late pending =
    ap (λ (l : Bool). fate_of l class (pending_of t w1.units)) late ∙ ap (λ (p : List Abort). fate_of (is_late w2 t) class p) pending

pub same_late : (w1 w2 : World) (t : ℕ) → Tree.lives w1.tree ≡ Tree.lives w2.tree → Core.begun (core_at t w1) ≡ Core.begun (core_at t w2) → is_late w1 t ≡ is_late w2 t
same_late w1 w2 t tree begun =
    ap (λ (ls : List Life). not (is_living (life_of t ls)) || is_some (Core.begun (core_at t w1))) tree
    ∙ ap (λ (b : Bool). not (lives_in w2 t) || b) (ap is_some begun)

-- the return code of a card that posts is 0 where the abort is queued
pub queued_by_rc : (fate : Fate) (rc : ℕ) → Executed (fate_rc fate) ≡ Executed rc → rc ≡ 0 → fate ≡ Queued
queued_by_rc Queued rc e z = refl
queued_by_rc Merged rc e z = let k : 4 ≡ rc = cc in absurd (omega (arith, k, z))
queued_by_rc Late rc e z = let k : 8 ≡ rc = cc in absurd (omega (arith, k, z))

pub rc_of_queued : (fate : Fate) (rc : ℕ) → Executed (fate_rc fate) ≡ Executed rc → fate ≡ Queued → rc ≡ 0
rc_of_queued Queued rc e z = cc
rc_of_queued Merged rc e z = absurd cc
rc_of_queued Late rc e z = absurd cc

-- an abort of another class besides
no_more : (class : Class) (a : Abort) (p : List Abort) → is_of_class class a ≡ false → has_class class (p ++ a ∷ []) ≡ has_class class p
no_more class a [] e = ap (λ (b : Bool). b || false) e
no_more class a (x ∷ xs) e = ap (λ (b : Bool). is_of_class class x || b) (no_more class a xs e)

other_if : (class : Class) (a : Abort) (p : List Abort) → is_of_class class a ≡ false → (b : Bool) → has_class class (if b then p else p ++ a ∷ []) ≡ has_class class p
other_if class a p e true = refl
other_if class a p e false = no_more class a p e

pub other_posted : (class : Class) (a : Abort) (p : List Abort) (late : Bool) → is_of_class class a ≡ false → has_class class (with_abort late a p) ≡ has_class class p
other_posted class a p late e = other_if class a p e (late || has_class a.class p)

-- the order of posts
all_last : (a x : Abort) (p : List Abort) → AllByRecursion (ComesBefore x) p → ComesBefore x a → AllByRecursion (ComesBefore x) (p ++ a ∷ [])
all_last a x [] h last = (last, tt)
all_last a x (y ∷ ys) h last = (h.0, all_last a x ys h.1 last)

turn_last : (a : Abort) (p : List Abort) → ComeInTurn p → AllByRecursion (λ b. ComesBefore b a) p → ComeInTurn (p ++ a ∷ [])
turn_last a [] turn before = (tt, tt)
turn_last a (x ∷ xs) turn before = (all_last a x xs turn.0 before.0, turn_last a xs turn.1 before.1)

turn_if : (a : Abort) (p : List Abort) → ComeInTurn p → AllByRecursion (λ b. ComesBefore b a) p → (b : Bool) → ComeInTurn (if b then p else p ++ a ∷ [])
turn_if a p turn before true = turn
turn_if a p turn before false = turn_last a p turn before

pub turn_posted : (late : Bool) (a : Abort) (p : List Abort) → ComeInTurn p → AllByRecursion (λ b. ComesBefore b a) p → ComeInTurn (with_abort late a p)
turn_posted late a p turn before = turn_if a p turn before (late || has_class a.class p)

-- A task's subtasks

abbrev pub mothered : ℕ → Abort → Life → UnitOfWork → UnitOfWork
mothered u abort life unit = if is_subtask_of u life then with_posted (is_some (Core.begun unit.core)) abort unit else unit

pub mothered_at : (u : ℕ) (abort : Abort) (ls : List Life) (units : List UnitOfWork) → length ls ≤ length units → (v : ℕ)
    → unit_at v (post_to_subtasks u abort ls units) ≡ mothered u abort (life_of v ls) (unit_at v units)
mothered_at u abort [] units h v = refl
mothered_at u abort (l ∷ ls) [] h v = absurd (omega arith)
mothered_at u abort (l ∷ ls) (x ∷ xs) h zero = refl
mothered_at u abort (l ∷ ls) (x ∷ xs) h (suc v) = mothered_at u abort ls xs (omega arith) v

pub subtask_lives : (u : ℕ) (life : Life) → is_subtask_of u life ≡ true → is_living life ≡ true
subtask_lives u Dormant h = absurd cc
subtask_lives u (Lives mother) h = refl
subtask_lives u (HasEnded mother) h = absurd cc
