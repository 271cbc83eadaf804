-- How a unit has begun to end stays as its BEGIN has made it.
use Rattle.std.proofs.Common.{◌≡◌, ℕ, zero, suc, ◌<◌, ◌≤◌, Bool, true, false, ◌&&◌, List, [], ◌∷◌, ◌++◌, length, take, Option, Some, None, refl, sym, ap, subst, arith, inl, inr, ◌∙◌}
use Rattle.std.proofs.lemmas.Bool.{cases_lt}
use Rattle.std.proofs.lemmas.List.{length-append, take-take}
use Rattle.std.specs.Prelude.{IsTrue, is_none, is_some}
use Rattle.rtm_codes.specs.declared.code.Code.{Code}
use Rattle.rtm_deck_items.specs.Reading.{op_at}
use Rattle.rtm_deck_items.specs.View.{DeckView}
use Rattle.rtm_deck_items.specs.WellFormed.{is_well_formed}
use Rattle.rtm_model.specs.declared.abort.Abort.{Abort}
use Rattle.rtm_model.specs.declared.entry.Entry.{Entry}
use Rattle.rtm_model.specs.declared.entry.Verdict.{Verdict}
use Rattle.rtm_model.specs.declared.entry.Verdict.TheVariants.{Retry}
use Rattle.rtm_model.specs.declared.entry.What.{What}
use Rattle.rtm_model.specs.declared.entry.What.TheVariants as whats
use Rattle.rtm_model.specs.declared.reg.Reg.{Reg}
use Rattle.rtm_model.specs.Aborts.{abort_named}
use Rattle.rtm_model.specs.Advance.{advance, world}
use Rattle.rtm_model.specs.Legal.{Legal}
use Rattle.rtm_model.specs.Levels.{current, error_in}
use Rattle.rtm_model.specs.Moments.{IsAt, IsWhat}
use Rattle.rtm_model.specs.OwnChange.{after_retry, own_entry, routine_named, with_landed, with_routine_entered}
use Rattle.rtm_model.specs.World.{Beginning, Core, UnitOfWork, World, core_at, lives_in, unit_at}
use Rattle.rtm_model.proofs.Cards.{card_begun}
use Rattle.rtm_law_births.proofs.Living.{IsMade}
use Rattle.rtm_law_landings.proofs.Appended.{at_end, at_shorter, below, holds_of, one_at, same_below}
use Rattle.rtm_law_landings.proofs.Changes.{IsOthers, core_after}
use Rattle.rtm_law_sound.proofs.Histories.{prefix_legal, world-append}
use Rattle.rtm_law_flags.specs.Flags.{KeepsItsBeginning}

retried_same : (verdict : Verdict) (o : Option Reg) (c : Core) → Core.begun (after_retry verdict o c) ≡ c.begun
retried_same (Retry place) None c = refl
retried_same (Retry place) (Some reg) c = refl
retried_same _ o c = refl

landed_same : (o : Option Abort) (c : Core) → Core.begun (with_landed o c) ≡ c.begun
landed_same None c = refl
landed_same (Some abort) c = refl

entered_same : (n : ℕ) (bare : Bool) (o : Option Reg) (c : Core) → Core.begun (with_routine_entered n bare o c) ≡ c.begun
entered_same n bare None c = refl
entered_same n bare (Some reg) c = refl

begun_none : (alive : Bool) (o : Option Beginning) → is_some o ≡ true → (alive && is_none o) ≡ true → ⊥
begun_none alive None h k = cc
begun_none true (Some begun) h k = cc
begun_none false (Some begun) h k = cc

others_same : (v : ℕ) (what : What) (after before : Core) → IsOthers v what after before → Core.begun after ≡ before.begun
others_same v what after before (inl left) = ap Core.begun left.core
others_same v what after before (inr (inl born)) = ap Core.begun born.core
others_same v what after before (inr (inr purged)) = ap Core.begun purged.core

module _ (d : DeckView) (w : World) (n u v : ℕ) where
  own_same : (what : What) → IsMade d w n (record { unit = u; what = what }) → is_some (Core.begun (core_at u w)) ≡ true
      → Core.begun (own_entry d n w.managers (UnitOfWork.pending (unit_at u w.units)) what (core_at u w)) ≡ Core.begun (core_at u w)
  own_same (whats.Exec at rc) m h = card_begun n _ (op_at d at.prog at.op) (core_at u w)
  own_same (whats.Land class from mark) m h = landed_same (abort_named class from (UnitOfWork.pending (unit_at u w.units))) (core_at u w)
  own_same (whats.Enter kind born mark bare) m h = entered_same n bare (routine_named kind born w.managers (core_at u w)) (core_at u w)
  own_same (whats.Leave kind born verdict logrec dump) m h = retried_same verdict (current (Core.levels (core_at u w))) _
  own_same (whats.Begin code dump) m h = absurd (begun_none (lives_in w u) (Core.begun (core_at u w)) h m.can.what.0)
  own_same _ m h = refl

  -- what has begun goes on so
  begun_stays : (what : What) → IsMade d w n (record { unit = u; what = what }) → is_some (Core.begun (core_at v w)) ≡ true
      → Core.begun (core_at v (advance d w n (record { unit = u; what = what }))) ≡ Core.begun (core_at v w)
  begun_stays what m h =
      core_after d w n u v what m (λ c. Core.begun c ≡ Core.begun (core_at v w))
      (λ same stays.
      subst (λ (i : ℕ). Core.begun (own_entry d n w.managers (UnitOfWork.pending (unit_at u w.units)) what (core_at u w)) ≡ Core.begun (core_at i w)) (sym same)
      (own_same what m (subst (λ (i : ℕ). is_some (Core.begun (core_at i w)) ≡ true) same h)))
      (λ other after change. others_same v what after (core_at v w) change)

-- and a BEGIN begins it
begins_now : (d : DeckView) (w : World) (n u : ℕ) (code : Code) (dump : Bool) → IsMade d w n (record { unit = u; what = whats.Begin code dump })
    → Core.begun (core_at u (advance d w n (record { unit = u; what = whats.Begin code dump }))) ≡ Some (record { code = code; cause = error_in (Core.levels (core_at u w)) })
begins_now d w n u code dump m =
    core_after d w n u u (whats.Begin code dump) m (λ c. Core.begun c ≡ Some (record { code = code; cause = error_in (Core.levels (core_at u w)) }))
    (λ same stays. refl)
    (λ other after change. absurd (other refl))

-- Each history

take_front : (h : List Entry) (k : ℕ) (more : List Entry) → k ≤ length h → take k (h ++ more) ≡ take k h
take_front h zero more le = refl
take_front [] (suc k) more le = absurd (omega (arith, le))
take_front (x ∷ es) (suc k) more le = let less : k ≤ length es = omega (arith, le) in ap (λ (ys : List Entry). x ∷ ys) (take_front es k more less)

take_whole : (h : List Entry) → take (length h) h ≡ h
take_whole [] = refl
take_whole (x ∷ es) = ap (λ (ys : List Entry). x ∷ ys) (take_whole es)

abbrev BegunAt : DeckView → ℕ → List Entry → ℕ → Code → List Entry → Type 0
BegunAt d u h k code front = Core.begun (core_at u (world d h)) ≡ Some (record { code = code; cause = error_in (Core.levels (core_at u (world d front))) })

abbrev HasBeginning : DeckView → ℕ → List Entry → Type 0
HasBeginning d u h = (k : ℕ) (code : Code) (dump : Bool) → IsWhat h k u (whats.Begin code dump) → BegunAt d u h k code (take k h)

some_of : (o : Option Beginning) (begun : Beginning) → o ≡ Some begun → is_some o ≡ true
some_of o begun h = ap is_some h

module _ (d : DeckView) (u : ℕ) (front : List Entry) (e : Entry) (m : IsMade d (world d front) (length front) e) (has : HasBeginning d u front) where
  still : (k : ℕ) (code : Code) (dump : Bool) → IsWhat front k u (whats.Begin code dump) → k ≤ length front → BegunAt d u (front ++ e ∷ []) k code (take k (front ++ e ∷ []))
  still k code dump at le =
      let was : BegunAt d u front k code (take k front) = has k code dump at in
      subst (BegunAt d u (front ++ e ∷ []) k code) (sym (take_front front k (e ∷ []) le))
      (ap (λ (w : World). Core.begun (core_at u w)) (world-append d front e)
      ∙ begun_stays d (world d front) (length front) e.unit u e.what m (some_of (Core.begun (core_at u (world d front))) _ was)
      ∙ was)

  now : (code : Code) (dump : Bool) → e ≡ record { unit = u; what = whats.Begin code dump } → BegunAt d u (front ++ e ∷ []) (length front) code (take (length front) (front ++ e ∷ []))
  now code dump same =
      let front_is : take (length front) (front ++ e ∷ []) ≡ front = take_front front (length front) (e ∷ []) (omega arith) ∙ take_whole front in
      let begins = begins_now d (world d front) (length front) u code dump (subst (λ (x : Entry). IsMade d (world d front) (length front) x) same m) in
      subst (BegunAt d u (front ++ e ∷ []) (length front) code) (sym front_is)
      (ap (λ (w : World). Core.begun (core_at u w)) (world-append d front e ∙ ap (λ (x : Entry). advance d (world d front) (length front) x) same) ∙ begins)

  has_more : HasBeginning d u (front ++ e ∷ [])
  has_more k code dump at = elim (cases_lt k (length front)) as (λ _. BegunAt d u (front ++ e ∷ []) k code (take k (front ++ e ∷ []))) [
    | inl less ↦ still k code dump (sym (same_below front k (e ∷ []) less) ∙ at) (omega (arith, less))
    | inr past ↦
        let within : k < length (front ++ e ∷ []) = below (front ++ e ∷ []) k (record { unit = u; what = whats.Begin code dump }) at in
        let here : k ≡ length front = omega (arith, within, past, length-append front (e ∷ [])) in
        let one : e ≡ record { unit = u; what = whats.Begin code dump } =
        one_at (front ++ e ∷ []) (length front) e (record { unit = u; what = whats.Begin code dump }) (at_end front e)
        (subst (λ (i : ℕ). IsAt (front ++ e ∷ []) i (record { unit = u; what = whats.Begin code dump })) here at) in
        subst (λ (i : ℕ). BegunAt d u (front ++ e ∷ []) i code (take i (front ++ e ∷ []))) (sym here) (now code dump one)
  ]

has_beginning : (d : DeckView) → IsTrue (is_well_formed d) → (u : ℕ) (h : List Entry) → Legal d h → HasBeginning d u h
has_beginning d deck u h legal = holds_of d deck (HasBeginning d u) (λ k code dump at. absurd cc) (λ front e before m has. has_more d u front e m has) h legal

pub keeps_its_beginning : (d : DeckView) (h : List Entry) (u : ℕ) → IsTrue (is_well_formed d) → Legal d h → KeepsItsBeginning d h u
keeps_its_beginning d h u deck legal i k code dump at less within =
    subst (BegunAt d u (take i h) k code) (take-take k i h (omega (arith, less)))
    (has_beginning d deck u (take i h) (prefix_legal d h i legal) k code dump (at_shorter h i k (record { unit = u; what = whats.Begin code dump }) less at))
