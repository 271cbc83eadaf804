-- Entry by entry the law of aborts is kept.
use Rattle.std.proofs.Common.{◌≡◌, ℕ, suc, ◌+◌, Bool, true, false, not, ◌&&◌, List, [], ◌∷◌, length, take, Some, None, refl, sym, ap, subst, arith, inl, inr, ◌⊎◌, ◌∙◌}
use Rattle.std.proofs.lemmas.Bool.{false_from_ne_true, lt-ltb}
use Rattle.std.specs.Prelude.{IsTrue, nat_lt, ◌==◌}
use Rattle.rtm_deck_items.specs.View.{DeckView}
use Rattle.rtm_deck_items.specs.WellFormed.{is_well_formed}
use Rattle.rtm_model.specs.declared.abort.Abort.{Abort}
use Rattle.rtm_model.specs.declared.entry.Entry.{Entry}
use Rattle.rtm_model.specs.declared.entry.What.{What}
use Rattle.rtm_model.specs.declared.entry.What.TheVariants as whats
use Rattle.rtm_model.specs.AbortLaw.{MayLand, is_put_off, is_same_flag, keeps_aborts, keeps_aborts_at, keeps_aborts_from}
use Rattle.rtm_model.specs.Aborts.{first_abort}
use Rattle.rtm_model.specs.Advance.{world}
use Rattle.rtm_model.specs.Entries.{is_doomed}
use Rattle.rtm_model.specs.Legal.{Legal, MayFollow}
use Rattle.rtm_model.specs.Moments.{IsAt, IsWhat, is_arrival}
use Rattle.rtm_model.specs.NextEntry.{interruptible, is_retry, land_of, next}
use Rattle.rtm_model.specs.World.{Core, World, core_at, lives_in, master}
use Rattle.rtm_model.specs.inner.Soundness.{IsSound}
use Rattle.rtm_law_sound.proofs.Histories.{prefix_legal}
use Rattle.rtm_law_landings.proofs.Appended.{front_made, front_made_last}
use Rattle.rtm_law_landings.proofs.Clups.{doomed_no_retry}
use Rattle.rtm_law_landings.proofs.Doomed.{doomed_agree, interrupts_agree}
use Rattle.rtm_law_landings.proofs.Fields.{land_lands, land_later, land_queued, land_shows}
use Rattle.rtm_law_landings.proofs.Lives.{not_master}
use Rattle.rtm_law_landings.proofs.Nexts.{IsInterruption, IsMasters, IsTimely, IsUndisturbed, IsUnits, is_landing, next_is, pending_in}

-- an entry that is no arrival is its unit's next
pub next_of : (d : DeckView) (w : World) (n u : ℕ) (what : What) → is_arrival what ≡ false → MayFollow d w n (record { unit = u; what = what }) what → next d w u ≡ Some what
next_of d w n u (whats.Arrive cmd became) other may = absurd cc
next_of d w n u _ other may = may

none_pending : (p : List Abort) → first_abort p ≡ None → (length p == 0) ≡ true
none_pending [] e = refl
none_pending (a ∷ later) e = absurd cc

quiet_by : (c : Core) (p : List Abort) (lives : Bool) (b : Bool) → interruptible c ≡ b → (interruptible c ≡ true → first_abort p ≡ None) → (lives && b && not (length p == 0)) ≡ false
quiet_by c p false b e none = refl
quiet_by c p true false e none = refl
quiet_by c p true true e none = rw (none_pending p (none e)) refl

landing_of : (a : Abort) (what : What) → what ≡ land_of a → is_landing what ≡ true
landing_of a what e = ap is_landing e

undisturbed : (c : Core) (p : List Abort) (what : What) (lives : Bool) → is_landing what ≡ false → IsTimely c p what → (lives && interruptible c && not (length p == 0)) ≡ false
undisturbed c p what lives other (inl lands) = let clash : false ≡ true = sym other ∙ landing_of (IsInterruption.first lands) what (IsInterruption.lands lands) in absurd cc
undisturbed c p what lives other (inr quiet) = quiet_by c p lives (interruptible c) refl (IsUndisturbed.none quiet)

dead_master : (d : DeckView) (w : World) (n u : ℕ) → IsSound d n w → u ≡ master d → lives_in w u ≡ false
dead_master d w n u s is = false_from_ne_true (lives_in w u) (λ lives. not_master d w n u s lives is)

flag_itself : (a : Bool) → is_same_flag a a ≡ true
flag_itself true = refl
flag_itself false = refl

all_six : (a b c e f g : Bool) → a ≡ true → b ≡ true → c ≡ true → e ≡ true → f ≡ true → g ≡ true → (a && b && c && e && f && g) ≡ true
all_six a b c e f g ha hb hc he hf hg = rw (ha, hb, hc, he, hf, hg) refl

module _ (d : DeckView) (h : List Entry) (deck : IsTrue (is_well_formed d)) (legal : Legal d h) where
  put_off_by : (i u : ℕ) (what : What) → is_landing what ≡ false → IsSound d i (world d (take i h)) → IsUnits d (world d (take i h)) u what ⊎ IsMasters d (world d (take i h)) u what → is_put_off d h i u ≡ false
  put_off_by i u what other sound (inl units) =
      rw (interrupts_agree d h deck legal i u) (undisturbed (core_at u (world d (take i h))) (pending_in (world d (take i h)) u) what (lives_in (world d (take i h)) u) other (IsUnits.timely units))
  put_off_by i u what other sound (inr masters) = rw (dead_master d (world d (take i h)) i u sound (IsMasters.is_master masters)) refl

  -- an entry but a LAND or an ARRIVE puts no abort off
  pub not_put_off : (i u : ℕ) (what : What) → IsWhat h i u what → is_arrival what ≡ false → is_landing what ≡ false → is_put_off d h i u ≡ false
  not_put_off i u what at acts other =
      let made = front_made d h deck legal i _ at in
      put_off_by i u what other made.sound (next_is d (world d (take i h)) u what (next_of d (world d (take i h)) i u what acts made.may))

  same_flag : (a b : Bool) → a ≡ b → is_same_flag a b ≡ true
  same_flag a b e = subst (λ (c : Bool). is_same_flag a c ≡ true) e (flag_itself a)

  no_doomed_retry : (i u : ℕ) (r : Bool) (b : Bool) → (b ≡ true → r ≡ false) → not (r && b) ≡ true
  no_doomed_retry i u true true none = let clash : true ≡ false = none refl in absurd cc
  no_doomed_retry i u true false none = refl
  no_doomed_retry i u false b none = refl

  pub keeps_at : (i u : ℕ) (what : What) → IsWhat h i u what → keeps_aborts_at d h i u what ≡ true
  keeps_at i u (whats.Land class from mark) at =
      let lands = land_lands d h deck legal i u class from mark at in
      let later : nat_lt from i ≡ true = lt-ltb from i (land_later d h deck legal i u class from mark at) in
      let flag = same_flag _ _ (land_shows d h deck legal i u class from mark at) in
      let queued = land_queued d h deck legal i u class from mark at in
      all_six _ _ _ _ _ _ later queued (MayLand.lives lands) (MayLand.interrupts lands) (MayLand.first lands) flag
  keeps_at i u (whats.Arrive cmd became) at = refl
  keeps_at i u (whats.Leave kind born verdict logrec dump) at =
      let quiet = not_put_off i u (whats.Leave kind born verdict logrec dump) at refl refl in
      let front_legal = prefix_legal d h i legal in
      let none : is_doomed d u (take i h) ≡ true → is_retry verdict ≡ false = λ doomed.
      doomed_no_retry d (take i h) deck front_legal u kind born verdict logrec dump (front_made_last d h deck legal i _ at) (doomed_agree d (take i h) deck front_legal u ∙ doomed) in
      rw (quiet, no_doomed_retry i u (is_retry verdict) (is_doomed d u (take i h)) none) refl
  keeps_at i u (whats.Exec at2 rc) at = ap not (not_put_off i u (whats.Exec at2 rc) at refl refl)
  keeps_at i u (whats.Error at2 mark) at = ap not (not_put_off i u (whats.Error at2 mark) at refl refl)
  keeps_at i u (whats.Enter kind born mark bare) at = ap not (not_put_off i u (whats.Enter kind born mark bare) at refl refl)
  keeps_at i u (whats.Begin code dump) at = ap not (not_put_off i u (whats.Begin code dump) at refl refl)
  keeps_at i u (whats.Release class id owner) at = ap not (not_put_off i u (whats.Release class id owner) at refl refl)
  keeps_at i u (whats.Done code to_task to_step) at = ap not (not_put_off i u (whats.Done code to_task to_step) at refl refl)
  keeps_at i u (whats.Purge unit) at = ap not (not_put_off i u (whats.Purge unit) at refl refl)
  keeps_at i u whats.MemEnd at = ap not (not_put_off i u whats.MemEnd at refl refl)

  keeps_from : (i : ℕ) (es : List Entry) → ((k : ℕ) (e : Entry) → IsAt es k e → IsAt h (i + k) e) → keeps_aborts_from d h i es ≡ true
  keeps_from i [] at = refl
  keeps_from i (e ∷ es) at =
      let here : i + 0 ≡ i = omega arith in
      rw (keeps_at i e.unit e.what (subst (λ (k : ℕ). IsAt h k e) here (at 0 e refl)))
      (keeps_from (i + 1) es (λ k x there. let m : i + suc k ≡ i + 1 + k = omega arith in subst (λ (j : ℕ). IsAt h j x) m (at (suc k) x there)))

  pub each_keeps : IsTrue (keeps_aborts d h)
  each_keeps = keeps_from 0 h (λ k e at. let m : k ≡ 0 + k = omega arith in subst (λ (j : ℕ). IsAt h j e) m at)
