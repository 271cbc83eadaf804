-- An abort that may land waits while other units' entries come, and is what its unit's next own entry lands.
use Rattle.std.proofs.Common.{◌≡◌, ℕ, zero, suc, ◌+◌, ◌-◌, ◌<◌, ◌≤◌, true, false, List, length, take, Some, None, refl, sym, ap, subst, arith, inl, inr, ◌⊎◌, ◌∙◌}
use Rattle.std.proofs.lemmas.Bool.{and_from, and_parts, eqb-false, false_from_ne_true, lt-ltb, or_left, true_from_ne_false}
use Rattle.std.specs.List.{list_all, list_any}
use Rattle.std.specs.Prelude.{IsTrue, is_some, nat_lt}
use Rattle.rtm_deck_items.specs.View.{DeckView}
use Rattle.rtm_deck_items.specs.WellFormed.{is_well_formed}
use Rattle.rtm_model.specs.declared.abort.Abort.{Abort}
use Rattle.rtm_model.specs.declared.entry.Class.{Class}
use Rattle.rtm_model.specs.declared.entry.Entry.{Entry}
use Rattle.rtm_model.specs.declared.entry.What.{What}
use Rattle.rtm_model.specs.declared.entry.What.TheVariants as whats
use Rattle.rtm_model.specs.declared.holding.Manager1.{Manager1}
use Rattle.rtm_model.specs.declared.mark.Mark.{Mark}
use Rattle.rtm_model.specs.AbortLaw.{IsFirstOwn, IsOwnEntry, MayLand, comes_first, is_abort_of, is_first}
use Rattle.rtm_model.specs.Advance.{advance}
use Rattle.rtm_model.specs.Entries.{EndsAbort, purges}
use Rattle.rtm_model.specs.Legal.{Legal}
use Rattle.rtm_model.specs.Moments.{IsAt, IsIn, IsWhat, before, is_arrival}
use Rattle.rtm_model.specs.NextEntry.{interruptible, land_of, landed_record}
use Rattle.rtm_model.specs.OwnChange.{own_entry}
use Rattle.rtm_model.specs.Record.{mark_of}
use Rattle.rtm_model.specs.World.{Core, World, core_at, master}
use Rattle.rtm_model.specs.inner.Soundness.{ArePending, IsAbort, IsSound}
use Rattle.rtm_law_births.specs.Aborts.{AreTheAborts, PendingAbort}
use Rattle.rtm_law_births.proofs.AbortEntries.{follows}
use Rattle.rtm_law_births.proofs.Histories.{before-next, entry_at}
use Rattle.rtm_law_births.proofs.Lists.{all_in}
use Rattle.rtm_law_births.proofs.Living.{IsMade}
use Rattle.rtm_law_births.proofs.Sound.{IsSoundHistory, sound_history}
use Rattle.rtm_law_births.proofs.Turns.{aborts_live}
use Rattle.rtm_law_sound.proofs.Histories.{prefix_legal}
use Rattle.rtm_law_landings.proofs.Appended.{below, front_made}
use Rattle.rtm_law_landings.proofs.Changes.{IsOthers, core_after}
use Rattle.rtm_law_landings.proofs.Doomed.{interrupts_agree}
use Rattle.rtm_law_landings.proofs.Each.{next_of}
use Rattle.rtm_law_landings.proofs.Lives.{not_master}
use Rattle.rtm_law_landings.proofs.MemoryEnd.{memory_goes_on, purge_ends}
use Rattle.rtm_law_landings.proofs.Named.{HasFirst, each_passes, first_is, named_in, named_of, passes_each}
use Rattle.rtm_law_landings.proofs.Nexts.{IsMasters, IsTimely, IsUnits, next_is, pending_in}
use Rattle.rtm_law_landings.proofs.Posted.{IsPostedBy, posted_by}

difference : (i j : ℕ) → i ≤ j → (n : ℕ) × (i + n ≡ j)
difference i j le = (j - i, omega (arith, le))

-- the unit can be interrupted, and the abort is the first that is pending for it
pub record Waits (w : World) (u : ℕ) (class : Class) (from : ℕ) : Type 0 where
  pub can : interruptible (core_at u w) ≡ true
  pub first : is_first class from (pending_in w u) ≡ true

-- an arrival leaves its unit's control blocks
arrival_own : (d : DeckView) (n : ℕ) (managers : List Manager1) (pending : List Abort) (what : What) (c : Core) → is_arrival what ≡ true → own_entry d n managers pending what c ≡ c
arrival_own d n managers pending (whats.Arrive cmd became) c h = refl
arrival_own d n managers pending _ c h = absurd cc

-- an entry that passes over the unit: another's, but for its purge, or an arrival
pub record PassesOver (u unit : ℕ) (what : What) : Type 0 where
  pub own : unit ≡ u → is_arrival what ≡ true
  pub stays : purges u what ≡ false

others_can : (v : ℕ) (what : What) (after before : Core) → purges v what ≡ false → IsOthers v what after before → interruptible before ≡ true → interruptible after ≡ true
others_can v what after before stays (inl left) can = subst (λ (c : Core). interruptible c ≡ true) (sym left.core) can
others_can v what after before stays (inr (inl born)) can = subst (λ (c : Core). interruptible c ≡ true) (sym born.core) can
others_can v what after before stays (inr (inr purged)) can = let clash : true ≡ false = sym purged.goes ∙ stays in absurd cc

not_ended : (u : ℕ) (class : Class) (from unit : ℕ) (what : What) → PassesOver u unit what → EndsAbort u class from unit what → ⊥
not_ended u class from unit (whats.Land class2 from2 mark) over ends = let clash : false ≡ true = over.own ends.0 in cc
not_ended u class from unit (whats.Begin code dump) over ends = let clash : false ≡ true = over.own ends in cc
not_ended u class from unit (whats.Purge purged) over ends = eqb-false purged u over.stays ends
not_ended u class from unit _ over ends = ends

module _ (d : DeckView) (h : List Entry) (deck : IsTrue (is_well_formed d)) (legal : Legal d h) (u : ℕ) (class : Class) (from : ℕ) where
  -- after such an entry it waits still
  module _ (k : ℕ) (e : Entry) (at : IsAt h k e) (over : PassesOver u e.unit e.what) (waits : Waits (before d h k) u class from) where
    made : IsMade d (before d h k) k e
    made = front_made d h deck legal k e at

    can_after : interruptible (core_at u (advance d (before d h k) k e)) ≡ true
    can_after =
        core_after d (before d h k) k e.unit u e.what made (λ c. interruptible c ≡ true)
        (λ mine stays.
        let still : interruptible (core_at e.unit (before d h k)) ≡ true = subst (λ (i : ℕ). interruptible (core_at i (before d h k)) ≡ true) mine waits.can in
        subst (λ (c : Core). interruptible c ≡ true) (sym (arrival_own d k _ _ e.what (core_at e.unit (before d h k)) (over.own (sym mine)))) still)
        (λ other after change. others_can u e.what after (core_at u (before d h k)) over.stays change waits.can)

    -- each abort that is pending was, or has just been posted
    newer : (b : Abort) → from < k → (b.from ≡ k) ⊎ IsIn b (pending_in (before d h k) u) → comes_first class from b ≡ true
    newer b less (inl now) = or_left (nat_lt from b.from) _ (lt-ltb from b.from (omega (arith, less, now)))
    newer b less (inr old) = passes_each (comes_first class from) (pending_in (before d h k) u) (and_parts (list_any (is_abort_of class from) (pending_in (before d h k) u)) _ waits.first).1 b old

    came_from : (b : Abort) → IsIn b (pending_in (advance d (before d h k) k e) u) → (b.from ≡ k) ⊎ IsIn b (pending_in (before d h k) u)
    came_from b there =
        let x : PendingAbort = record { target = u; abort = b } in
        elim ((follows.changes d (before d h k) k e made x).came there) as (λ _. (b.from ≡ k) ⊎ IsIn b (pending_in (before d h k) u)) [
          | inl makes ↦ inl (IsPostedBy.from (posted_by d (take k h) deck (prefix_legal d h k legal) k e.unit x e.what makes))
          | inr stayed ↦ inr stayed.0
        ]

    first_after : is_first class from (pending_in (advance d (before d h k) k e) u) ≡ true
    first_after =
        let p : List Abort = pending_in (before d h k) u in
        let after : List Abort = pending_in (advance d (before d h k) k e) u in
        let parts = and_parts (list_any (is_abort_of class from) p) (list_all (comes_first class from) p) waits.first in
        let one = named_of class from p parts.0 in
        let a : Abort = one.0 in
        let earlier = IsAbort.from (all_in (IsAbort k) p (ArePending.each (IsSound.pending made.sound u)) a one.1) in
        let stayed : IsIn a after = (follows.changes d (before d h k) k e made (record { target = u; abort = a })).stays one.1 (not_ended u a.class a.from e.unit e.what over) in
        and_from (list_any (is_abort_of class from) after) (list_all (comes_first class from) after)
        (named_in class from a after (sym one.2) one.3 stayed)
        (each_passes (comes_first class from) after (λ b there. newer b (omega (arith, earlier, one.3)) (came_from b there)))

    waits_next : Waits (before d h (k + 1)) u class from
    waits_next = subst (λ (w : World). Waits w u class from) (sym (before-next d h k e at)) (record { can = can_after; first = first_after })

  -- up to the unit's next own entry
  module _ (i j : ℕ) (what : What) (may : MayLand d h i u class from) (own : IsFirstOwn h i j u what) where
    within : j < length h
    within = below h j _ (IsOwnEntry.at own.own)

    owns : u ≡ master d → ⊥
    owns is = not_master d (before d h i) i u (IsSoundHistory.worlds (sound_history d h deck legal) i (omega (arith, within, own.from))) may.lives is

    units_of : IsUnits d (before d h j) u what ⊎ IsMasters d (before d h j) u what → IsUnits d (before d h j) u what
    units_of (inl units) = units
    units_of (inr masters) = absurd (owns (IsMasters.is_master masters))

    units : IsUnits d (before d h j) u what
    units =
        units_of (next_is d (before d h j) u what
        (next_of d (before d h j) j u what (IsOwnEntry.acts own.own) (IsMade.may (front_made d h deck legal j _ (IsOwnEntry.at own.own)))))

    passes : (k : ℕ) (e : Entry) → IsAt h k e → i ≤ k → k < j → PassesOver u e.unit e.what
    passes k e at first less = record {
      own = λ same. true_from_ne_false (is_arrival e.what) (λ acts.
          own.none k e.what first less (record { at = subst (λ (v : ℕ). IsWhat h k v e.what) same at; acts = acts }));
      stays = false_from_ne_true (purges u e.what) (λ goes.
          let ends = purge_ends d (before d h k) k e.unit u e.what (front_made d h deck legal k e at) goes in
          let later = memory_goes_on d h deck legal k j (omega (arith, less)) ends in
          let clash : true ≡ false = sym later ∙ ap is_some units.quiet in
          cc);
    }

    waits_at : (n k : ℕ) → i + n ≡ k → k ≤ j → Waits (before d h k) u class from
    waits_at zero k is le =
        let here : i ≡ k = omega (arith, is) in
        subst (λ (m : ℕ). Waits (before d h m) u class from) here (record { can = sym (interrupts_agree d h deck legal i u) ∙ may.interrupts; first = may.first })
    waits_at (suc n) k is le =
        let at = entry_at h (i + n) (omega (arith, is, le, within)) in
        let here : i + n + 1 ≡ k = omega (arith, is) in
        subst (λ (m : ℕ). Waits (before d h m) u class from) here
        (waits_next (i + n) at.0 at.1 (passes (i + n) at.0 at.1 (omega arith) (omega (arith, is, le))) (waits_at n (i + n) refl (omega (arith, is, le))))

    last_at : (n : ℕ) → i + n ≡ j → Waits (before d h j) u class from
    last_at n is = waits_at n j is (omega arith)

    waits : Waits (before d h j) u class from
    waits = let k = difference i j own.from in last_at k.0 k.1

    landing : HasFirst class from (pending_in (before d h j) u) → IsTimely (core_at u (before d h j)) (pending_in (before d h j) u) what → (mark : Mark) × (what ≡ whats.Land class from mark)
    landing has (inl lands) =
        let same : Some lands.first ≡ Some has.first = sym lands.is_first ∙ has.is_first in
        let one : lands.first ≡ has.first = cc in
        let mark : Mark = mark_of (landed_record has.first) in
        (mark, lands.lands ∙ ap land_of one ∙ ap (λ (c : Class). whats.Land c (Abort.from has.first) mark) has.class_is ∙ ap (λ (k : ℕ). whats.Land class k mark) has.from_is)
    landing has (inr quiet) = let clash : None ≡ Some has.first = sym (quiet.none waits.can) ∙ has.is_first in absurd cc

    -- an abort that may land is not put off
    pub lands_next : (mark : Mark) × (what ≡ whats.Land class from mark)
    lands_next =
        let front : List Entry = take j h in
        let front_legal = prefix_legal d h j legal in
        let turn = AreTheAborts.order (aborts_live d front (sound_history d front deck front_legal) front_legal) u in
        landing (first_is class from (pending_in (before d h j) u) turn waits.first) units.timely
