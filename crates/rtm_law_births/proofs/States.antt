-- A world has the things that live, each in its state, where each entry adds those that it makes, takes away those of
-- which it is a death, and changes the others.
use Rattle.std.proofs.Common.{◌≡◌, ℕ, zero, suc, ◌+◌, ◌<◌, ◌≤◌, true, false, List, length, Option, Some, refl, sym, ap, subst, arith, inl, inr, ◌⊎◌, ◌∙◌}
use Rattle.std.proofs.lemmas.Bool.Decides.{nat_tests}
use Rattle.std.specs.Prelude.{IsTrue, nat_le, slice_get}
use Rattle.rtm_deck_items.specs.View.{DeckView}
use Rattle.rtm_deck_items.specs.WellFormed.{is_well_formed}
use Rattle.rtm_model.specs.declared.entry.Entry.{Entry}
use Rattle.rtm_model.specs.Advance.{advance}
use Rattle.rtm_model.specs.Legal.{Legal}
use Rattle.rtm_model.specs.Moments.{IsAt, before}
use Rattle.rtm_model.specs.World.{World, start}
use Rattle.rtm_law_births.specs.Life.{HasTheStated, LivesAs, StateTable, state_after, state_before}
use Rattle.rtm_law_births.proofs.Histories.{before-all, before-first, before-next, entry_at}
use Rattle.rtm_law_births.proofs.Living.{IsMade, below_next, made_at, survives_less, survives_next}
use Rattle.rtm_law_births.proofs.Sound.{IsSoundHistory}

-- What came of a thing and its state at a moment.
pub record Turns (S : Type 0) (after before makes : S → Type 0) (kills : Type 0) (change : S → S) : Type 0 where
  pub came : (s : S) → after s → makes s ⊎ ((t : S) × before t × (kills → ⊥) × (s ≡ change t))
  pub born : (s : S) → makes s → after s
  pub stays : (t : S) → before t → (kills → ⊥) → after (change t)

abbrev pub Changes : {X S : Type 0} → StateTable X S → DeckView → World → ℕ → Entry → X → Type 0
Changes {X} {S} table d w n e x =
    Turns S (table.has (advance d w n e) x) (table.has w x) (table.makes d w n e x) (table.kills d w n e x) (table.changes d w n e x)

pub record Follows {X S : Type 0} (table : StateTable X S) (P : World → Type 0) : Type 0 where
  pub first : (d : DeckView) → IsTrue (is_well_formed d) → (x : X) (s : S) → table.has (start d) x s → table.starts d x s
  pub there : (d : DeckView) → IsTrue (is_well_formed d) → (x : X) (s : S) → table.starts d x s → table.has (start d) x s
  pub changes : (d : DeckView) (w : World) (n : ℕ) (e : Entry) → IsMade d w n e → P w → (x : X) → Changes table d w n e x

le_true : (i k : ℕ) → i ≤ k → nat_le i k ≡ true
le_true i k h = grind (arith, nat_tests)

le_false : (i k : ℕ) → k < i → nat_le i k ≡ false
le_false i k h = grind (arith, nat_tests)

module _ {X S : Type 0} (table : StateTable X S) (d : DeckView) (history : List Entry) (x : X) where
  -- the state one entry later
  state_next : (i k : ℕ) (e : Entry) (s : S) → IsAt history k e → i ≤ k → state_before table d history x i s (suc k) ≡ table.changes d (before d history k) k e x (state_before table d history x i s k)
  state_next i k e s at h = rw (le_true i k h) (ap (λ (o : Option Entry). state_after table d history x k o (state_before table d history x i s k)) at)

  -- and up to its birth it is that of its birth
  state_early : (i k : ℕ) (s : S) → k ≤ i → state_before table d history x i s k ≡ s
  state_early i zero s h = refl
  state_early i (suc k) s h = rw (le_false i k (omega arith)) refl

module _ {X S : Type 0} (table : StateTable X S) (d : DeckView) (history : List Entry) (sound : IsSoundHistory d history) (legal : Legal d history) (P : World → Type 0) (holds : (k : ℕ) → k ≤ length history → P (before d history k)) (follows : Follows table P) where
  step : (k : ℕ) (e : Entry) → IsAt history k e → k ≤ length history → (x : X) → Changes table d (before d history k) k e x
  step k e at h x = follows.changes d (before d history k) k e (made_at d history sound legal k e at h) (holds k h) x

  next_is : (k : ℕ) → k + 1 ≡ suc k
  next_is k = omega arith

  lives_next : (k : ℕ) (e : Entry) (x : X) (t : S) → IsAt history k e → (table.kills d (before d history k) k e x → ⊥) → LivesAs table d history k x t
      → LivesAs table d history (k + 1) x (table.changes d (before d history k) k e x t)
  lives_next k e x t at alive (inl from) = inl (record {
    first = from.first;
    starts = from.starts;
    survives = survives_next table.kills d history 0 k e x at from.survives alive;
    state = rw (next_is k) (ap (table.changes d (before d history k) k e x) from.state ∙ sym (state_next table d history x 0 k e from.first at (omega arith)));
  })
  lives_next k e x t at alive (inr (i, since)) = inr (
    i,
    record {
      below = omega (arith, since.below);
      entry = since.entry;
      at = since.at;
      first = since.first;
      makes = since.makes;
      survives = survives_next table.kills d history (i + 1) k e x at since.survives alive;
      state = rw (next_is k) (ap (table.changes d (before d history k) k e x) since.state ∙ sym (state_next table d history x (i + 1) k e since.first at (omega (arith, since.below))));
    },
  )

  lives_born : (k : ℕ) (e : Entry) (x : X) (s : S) → IsAt history k e → table.makes d (before d history k) k e x s → LivesAs table d history (k + 1) x s
  lives_born k e x s at born = inr (
    k,
    record {
      below = omega arith;
      entry = e;
      at = at;
      first = s;
      makes = born;
      survives = λ j f from below here killed. omega arith;
      state = sym (state_early table d history x (k + 1) (k + 1) s (omega arith));
    },
  )

  came : (k : ℕ) → k ≤ length history → (x : X) (s : S) → table.has (before d history k) x s → LivesAs table d history k x s
  came zero h x s there =
      let at_start = follows.first d sound.deck x s (subst (λ (w : World). table.has w x s) (before-first d history) there) in
      inl (record { first = s; starts = at_start; survives = λ j e from below at killed. omega arith; state = refl })
  came (suc k) h x s there =
      let at = entry_at history k (omega arith) in
      let m : suc k ≡ k + 1 = omega arith in
      let after = subst (λ (w : World). table.has w x s) (before-next d history k at.0 at.1) (subst (λ (i : ℕ). table.has (before d history i) x s) m there) in
      subst (λ (i : ℕ). LivesAs table d history i x s) (sym m)
      (elim ((step k at.0 at.1 (omega arith) x).came s after) as (λ _. LivesAs table d history (k + 1) x s) [
        | inl born ↦ lives_born k at.0 x s at.1 born
        | inr stayed ↦
            subst (λ (r : S). LivesAs table d history (k + 1) x r) (sym stayed.3)
            (lives_next k at.0 x stayed.0 at.1 stayed.2 (came k (omega arith) x stayed.0 stayed.1))
      ])

  -- what lived one moment later lives now, or is born now
  abbrev Lived : ℕ → Entry → X → S → Type 0
  Lived k e x s = (table.makes d (before d history k) k e x s) ⊎ ((t : S) × LivesAs table d history k x t × (table.kills d (before d history k) k e x → ⊥) × (s ≡ table.changes d (before d history k) k e x t))

  lived : (k : ℕ) (e : Entry) (x : X) (s : S) → IsAt history k e → LivesAs table d history (k + 1) x s → Lived k e x s
  lived k e x s at (inl from) = inr (
    state_before table d history x 0 from.first k,
    inl (record { first = from.first; starts = from.starts; survives = survives_less table.kills d history 0 k x from.survives; state = refl }),
    λ killed. from.survives k e (omega arith) (omega arith) at killed,
    from.state ∙ ap (state_before table d history x 0 from.first) (next_is k) ∙ state_next table d history x 0 k e from.first at (omega arith),
  )
  lived k e x s at (inr (i, since)) = elim (below_next i k since.below) as (λ _. Lived k e x s) [
    | inl less ↦ inr (
      state_before table d history x (i + 1) since.first k,
      inr (
        i,
        record {
          below = less;
          entry = since.entry;
          at = since.at;
          first = since.first;
          makes = since.makes;
          survives = survives_less table.kills d history (i + 1) k x since.survives;
          state = refl;
        },
      ),
      λ killed. since.survives k e (omega (arith, less)) (omega arith) at killed,
      since.state ∙ ap (state_before table d history x (i + 1) since.first) (next_is k) ∙ state_next table d history x (i + 1) k e since.first at (omega (arith, less)),
    )
    | inr same ↦
        let here : slice_get history k ≡ Some since.entry = subst (λ (m : ℕ). slice_get history m ≡ Some since.entry) same since.at in
        let one : since.entry ≡ e = cc in
        let moved = subst (λ (m : ℕ). table.makes d (before d history m) m since.entry x since.first) same since.makes in
        let is_first : s ≡ since.first = since.state ∙ state_early table d history x (i + 1) (k + 1) since.first (omega (arith, same)) in
        inl (subst (λ (r : S). table.makes d (before d history k) k e x r) (sym is_first) (subst (λ (g : Entry). table.makes d (before d history k) k g x since.first) one moved))
  ]

  there : (k : ℕ) → k ≤ length history → (x : X) (s : S) → LivesAs table d history k x s → table.has (before d history k) x s
  there zero h x s (inl from) =
      subst (λ (w : World). table.has w x s) (sym (before-first d history)) (subst (table.has (start d) x) (sym from.state) (follows.there d sound.deck x from.first from.starts))
  there zero h x s (inr (i, since)) = absurd (omega (arith, since.below))
  there (suc k) h x s lives =
      let at = entry_at history k (omega arith) in
      let m : suc k ≡ k + 1 = omega arith in
      let turns = step k at.0 at.1 (omega arith) x in
      let after : table.has (advance d (before d history k) k at.0) x s = elim (lived k at.0 x s at.1 (subst (λ (i : ℕ). LivesAs table d history i x s) m lives)) [
        | inl born ↦ turns.born s born
        | inr stayed ↦
            subst (table.has (advance d (before d history k) k at.0) x) (sym stayed.3)
            (turns.stays stayed.0 (there k (omega arith) x stayed.0 stayed.1) stayed.2)
      ] in
      subst (λ (i : ℕ). table.has (before d history i) x s) (sym m) (subst (λ (w : World). table.has w x s) (sym (before-next d history k at.0 at.1)) after)

  -- after the history the world has the things that live, each in its state
  pub stated : HasTheStated table d history
  stated = record {
    lives = λ x s h. came (length history) (omega arith) x s (subst (λ (w : World). table.has w x s) (sym (before-all d history)) h);
    there = λ x s h. subst (λ (w : World). table.has w x s) (before-all d history) (there (length history) (omega arith) x s h);
  }
