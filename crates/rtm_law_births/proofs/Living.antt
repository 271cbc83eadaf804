-- A world has the things that live, where each entry adds those that it makes and takes away those of which it is a
-- death.
use Rattle.std.proofs.Common.{◌≡◌, ℕ, zero, suc, ◌+◌, ◌<◌, ◌≤◌, List, [], length, sym, subst, arith, inl, inr, ◌⊎◌}
use Rattle.rtm_deck_items.specs.View.{DeckView}
use Rattle.std.specs.Prelude.{IsTrue, Some, slice_get}
use Rattle.rtm_deck_items.specs.WellFormed.{is_well_formed}
use Rattle.rtm_model.specs.declared.entry.Entry.{Entry}
use Rattle.rtm_model.specs.inner.Applies.{CanApply}
use Rattle.rtm_model.specs.Advance.{advance, world}
use Rattle.rtm_model.specs.Legal.{Legal, MayFollow}
use Rattle.rtm_model.specs.Moments.{IsAt, IsIn, before}
use Rattle.rtm_model.specs.inner.Soundness.{IsSound}
use Rattle.rtm_model.specs.World.{World, start}
use Rattle.rtm_law_births.specs.Life.{HasTheLiving, LivesBefore, Survives, Table}
use Rattle.rtm_law_births.proofs.Sound.{IsSoundHistory}
use Rattle.rtm_law_births.proofs.Histories.{before-all, before-first, before-next, entry_at, may_follow}

-- the entry of index n is made where w lives, in a legal history
pub record IsMade (d : DeckView) (w : World) (n : ℕ) (e : Entry) : Type 0 where
  pub deck : IsTrue (is_well_formed d)
  pub sound : IsSound d n w
  pub can : CanApply d w e
  pub may : MayFollow d w n e e.what

-- What came of a thing at a moment: that it is there after it, that it was there before it, that it was born then, and
-- that it died then.
pub record Moves (after before makes kills : Type 0) : Type 0 where
  pub came : after → makes ⊎ (before × (kills → ⊥))
  pub born : makes → after
  pub stays : before → (kills → ⊥) → after

-- nothing was born or died
pub unmoved : {after before makes kills : Type 0} → (after → before) → (before → after) → (makes → ⊥) → (kills → ⊥) → Moves after before makes kills
unmoved forth back unborn alive = record {
  came = λ h. inr (forth h, alive);
  born = λ h. absurd (unborn h);
  stays = λ h k. back h;
}

-- the same, in other words
pub said_by : {a b c k a2 b2 c2 k2 : Type 0} → (a → a2) → (a2 → a) → (b → b2) → (b2 → b) → (c → c2) → (c2 → c) → (k → k2) → (k2 → k) → Moves a b c k → Moves a2 b2 c2 k2
said_by {a} {b} {c} {k} {a2} {b2} {c2} {k2} fa ga fb gb fc gc fk gk m = record {
  came = λ h. elim (m.came (ga h)) as (λ _. c2 ⊎ (b2 × (k2 → ⊥))) [ inl born ↦ inl (fc born) | inr stayed ↦ inr (fb stayed.0, λ killed. stayed.1 (gk killed)) ];
  born = λ h. fa (m.born (gc h));
  stays = λ h alive. fa (m.stays (gb h) (λ killed. alive (fk killed)));
}

-- two births, one after the other
pub first_then : {a b c c1 c2 : Type 0} → Moves b a c1 ⊥ → Moves c b c2 ⊥ → Moves c a (c1 ⊎ c2) ⊥
first_then {a} {b} {c} {c1} {c2} one two = record {
  came = λ h. elim (two.came h) as (λ _. (c1 ⊎ c2) ⊎ (a × (⊥ → ⊥))) [
    | inl born ↦ inl (inr born)
    | inr stayed ↦ elim (one.came stayed.0) as (λ _. (c1 ⊎ c2) ⊎ (a × (⊥ → ⊥))) [ inl born ↦ inl (inl born) | inr more ↦ inr more ]
  ];
  born = λ h. elim h [ inl first ↦ two.stays (one.born first) (λ k. k) | inr second ↦ two.born second ];
  stays = λ h alive. two.stays (one.stays h alive) alive;
}

-- deaths, and then births
pub death_then : {a b c k born : Type 0} → Moves b a ⊥ k → Moves c b born ⊥ → Moves c a born k
death_then {a} {b} {c} {k} {born} one two = record {
  came = λ h. elim (two.came h) as (λ _. born ⊎ (a × (k → ⊥))) [
    | inl new ↦ inl new
    | inr stayed ↦ elim (one.came stayed.0) as (λ _. born ⊎ (a × (k → ⊥))) [ inl none ↦ absurd none | inr more ↦ inr more ]
  ];
  born = two.born;
  stays = λ h alive. two.stays (one.stays h alive) (λ k. k);
}

-- two deaths, one after the other
pub deaths : {a b c k1 k2 : Type 0} → Moves b a ⊥ k1 → Moves c b ⊥ k2 → Moves c a ⊥ (k1 ⊎ k2)
deaths {a} {b} {c} {k1} {k2} one two = record {
  came = λ h. elim (two.came h) as (λ _. ⊥ ⊎ (a × ((k1 ⊎ k2) → ⊥))) [
    | inl none ↦ absurd none
    | inr stayed ↦ elim (one.came stayed.0) as (λ _. ⊥ ⊎ (a × ((k1 ⊎ k2) → ⊥))) [
      | inl none ↦ absurd none
      | inr more ↦ inr (more.0, λ killed. elim killed [ inl first ↦ more.1 first | inr second ↦ stayed.1 second ])
    ]
  ];
  born = λ h. absurd h;
  stays = λ h alive. two.stays (one.stays h (λ k. alive (inl k))) (λ k. alive (inr k));
}

-- nothing was born or died where the list is as it was
pub same_list : {X : Type 0} (x : X) (before after : List X) → after ≡ before → Moves (IsIn x after) (IsIn x before) ⊥ ⊥
same_list x before after e = unmoved (λ h. subst (IsIn x) e h) (λ h. subst (IsIn x) (sym e) h) (λ h. h) (λ h. h)

-- all are gone
pub cleared : {X : Type 0} (x : X) (before : List X) → Moves (IsIn x []) (IsIn x before) ⊥ (Unit {0})
cleared x before = record { came = λ h. absurd h; born = λ h. absurd h; stays = λ h alive. absurd (alive tt) }

-- after the entry the world has what the entry makes, and what it had and the entry isn't a death of
abbrev pub Changes : {X : Type 0} → Table X → DeckView → World → ℕ → Entry → X → Type 0
Changes table d w n e x = Moves (table.has (advance d w n e) x) (table.has w x) (table.makes d w n e x) (table.kills d w n e x)

-- so at each entry, and so at the start
pub record Follows {X : Type 0} (table : Table X) : Type 0 where
  pub first : (d : DeckView) → IsTrue (is_well_formed d) → (x : X) → table.has (start d) x → table.starts d x
  pub there : (d : DeckView) → IsTrue (is_well_formed d) → (x : X) → table.starts d x → table.has (start d) x
  pub changes : (d : DeckView) (w : World) (n : ℕ) (e : Entry) → IsMade d w n e → (x : X) → Changes table d w n e x

pub below_next : (j k : ℕ) → j < k + 1 → (j < k) ⊎ (j ≡ k)
below_next j k h = grind arith

-- a thing lives on past an entry that isn't a death of it
pub survives_next : {X : Type 0} (kills : DeckView → World → ℕ → Entry → X → Type 0) (d : DeckView) (history : List Entry) (i k : ℕ) (e : Entry) (x : X) → IsAt history k e
    → Survives kills d history i k x → (kills d (before d history k) k e x → ⊥) → Survives kills d history i (k + 1) x
survives_next kills d history i k e x at h alive j f from below here killed = elim (below_next j k below) [
  | inl less ↦ h j f from less here killed
  | inr same ↦
      let there : slice_get history k ≡ Some f = subst (λ (m : ℕ). slice_get history m ≡ Some f) same here in
      let one : f ≡ e = cc in
      let moved = subst (λ (m : ℕ). kills d (before d history m) m f x) same killed in
      alive (subst (λ (g : Entry). kills d (before d history k) k g x) one moved)
]

pub survives_less : {X : Type 0} (kills : DeckView → World → ℕ → Entry → X → Type 0) (d : DeckView) (history : List Entry) (i k : ℕ) (x : X) → Survives kills d history i (k + 1) x → Survives kills d history i k x
survives_less kills d history i k x h j e from below at killed = h j e from (omega arith) at killed

-- for a shorter while
pub survives_shorter : {X : Type 0} (kills : DeckView → World → ℕ → Entry → X → Type 0) (d : DeckView) (history : List Entry) (i k m : ℕ) (x : X) → k ≤ m → Survives kills d history i m x → Survives kills d history i k x
survives_shorter kills d history i k m x le h j e from below at killed = h j e from (omega arith) at killed

-- each entry of a legal history is made so
pub made_at : (d : DeckView) (history : List Entry) → IsSoundHistory d history → Legal d history → (k : ℕ) (e : Entry) → IsAt history k e → k ≤ length history → IsMade d (before d history k) k e
made_at d history sound legal k e at h = record {
  deck = sound.deck;
  sound = sound.worlds k h;
  can = sound.entries k e at;
  may = may_follow d history legal k e at;
}

-- what holds at the start, and at each entry is kept, holds at each moment
pub kept_before : (d : DeckView) (history : List Entry) → IsSoundHistory d history → Legal d history → (P : ℕ → World → Type 0) → P 0 (start d)
    → ((w : World) (n : ℕ) (e : Entry) → IsMade d w n e → P n w → P (n + 1) (advance d w n e)) → (k : ℕ) → k ≤ length history → P k (before d history k)
kept_before d history sound legal P first keeps zero h = subst (P 0) (sym (before-first d history)) first
kept_before d history sound legal P first keeps (suc k) h =
    let at = entry_at history k (omega arith) in
    let m : suc k ≡ k + 1 = omega arith in
    let after = keeps (before d history k) k at.0 (made_at d history sound legal k at.0 at.1 (omega arith)) (kept_before d history sound legal P first keeps k (omega arith)) in
    subst (λ (i : ℕ). P i (before d history i)) (sym m) (subst (P (k + 1)) (sym (before-next d history k at.0 at.1)) after)

-- and after the history
pub kept_after : (d : DeckView) (history : List Entry) → IsSoundHistory d history → Legal d history → (P : ℕ → World → Type 0) → P 0 (start d)
    → ((w : World) (n : ℕ) (e : Entry) → IsMade d w n e → P n w → P (n + 1) (advance d w n e)) → P (length history) (world d history)
kept_after d history sound legal P first keeps = subst (P (length history)) (before-all d history) (kept_before d history sound legal P first keeps (length history) (omega arith))

module _ {X : Type 0} (table : Table X) (d : DeckView) (history : List Entry)
    (first_to : (x : X) → table.has (start d) x → table.starts d x) (first_from : (x : X) → table.starts d x → table.has (start d) x)
    (step : (k : ℕ) (e : Entry) → IsAt history k e → k ≤ length history → (x : X) → Changes table d (before d history k) k e x) where
  -- one moment later
  lives-next : (k : ℕ) (e : Entry) (x : X) → IsAt history k e → (table.kills d (before d history k) k e x → ⊥) → LivesBefore table d history k x → LivesBefore table d history (k + 1) x
  lives-next k e x at alive (inl (from, h)) = inl (from, survives_next table.kills d history 0 k e x at h alive)
  lives-next k e x at alive (inr (i, since)) = inr (
    i,
    record {
      below = omega (arith, since.below);
      entry = since.entry;
      at = since.at;
      makes = since.makes;
      survives = survives_next table.kills d history (i + 1) k e x at since.survives alive;
    },
  )

  lives-born : (k : ℕ) (e : Entry) (x : X) → IsAt history k e → table.makes d (before d history k) k e x → LivesBefore table d history (k + 1) x
  lives-born k e x at born = inr (
    k,
    record {
      below = omega arith;
      entry = e;
      at = at;
      makes = born;
      survives = λ j f from below here killed. omega arith;
    },
  )

  came : (k : ℕ) → k ≤ length history → (x : X) → table.has (before d history k) x → LivesBefore table d history k x
  came zero h x there =
      let at_start = first_to x (subst (λ (w : World). table.has w x) (before-first d history) there) in
      inl (at_start, λ j e from below at killed. omega arith)
  came (suc k) h x there =
      let at = entry_at history k (omega arith) in
      let m : suc k ≡ k + 1 = omega arith in
      let after = subst (λ (w : World). table.has w x) (before-next d history k at.0 at.1) (subst (λ (i : ℕ). table.has (before d history i) x) m there) in
      subst (λ (i : ℕ). LivesBefore table d history i x) (sym m)
      (elim ((step k at.0 at.1 (omega arith) x).came after) as (λ _. LivesBefore table d history (k + 1) x) [
        | inl born ↦ lives-born k at.0 x at.1 born
        | inr stayed ↦ lives-next k at.0 x at.1 stayed.1 (came k (omega arith) x stayed.0)
      ])

  -- what lived one moment later lives now, or is born now
  lived : (k : ℕ) (e : Entry) (x : X) → IsAt history k e → LivesBefore table d history (k + 1) x → (table.makes d (before d history k) k e x) ⊎ (LivesBefore table d history k x × (table.kills d (before d history k) k e x → ⊥))
  lived k e x at (inl (from, h)) = inr (inl (from, survives_less table.kills d history 0 k x h), λ killed. h k e (omega arith) (omega arith) at killed)
  lived k e x at (inr (i, since)) = elim (below_next i k since.below) [
    | inl less ↦ inr (
      inr (
        i,
        record {
          below = less;
          entry = since.entry;
          at = since.at;
          makes = since.makes;
          survives = survives_less table.kills d history (i + 1) k x since.survives;
        },
      ),
      λ killed. since.survives k e (omega (arith, less)) (omega arith) at killed,
    )
    | inr same ↦
        let here : slice_get history k ≡ Some since.entry = subst (λ (m : ℕ). slice_get history m ≡ Some since.entry) same since.at in
        let one : since.entry ≡ e = cc in
        let moved = subst (λ (m : ℕ). table.makes d (before d history m) m since.entry x) same since.makes in
        inl (subst (λ (g : Entry). table.makes d (before d history k) k g x) one moved)
  ]

  there : (k : ℕ) → k ≤ length history → (x : X) → LivesBefore table d history k x → table.has (before d history k) x
  there zero h x (inl (from, _)) = subst (λ (w : World). table.has w x) (sym (before-first d history)) (first_from x from)
  there zero h x (inr (i, since)) = absurd (omega (arith, since.below))
  there (suc k) h x lives =
      let at = entry_at history k (omega arith) in
      let m : suc k ≡ k + 1 = omega arith in
      let moves = step k at.0 at.1 (omega arith) x in
      let after : table.has (advance d (before d history k) k at.0) x = elim (lived k at.0 x at.1 (subst (λ (i : ℕ). LivesBefore table d history i x) m lives)) [
        | inl born ↦ moves.born born
        | inr stayed ↦ moves.stays (there k (omega arith) x stayed.0) stayed.1
      ] in
      subst (λ (i : ℕ). table.has (before d history i) x) (sym m) (subst (λ (w : World). table.has w x) (sym (before-next d history k at.0 at.1)) after)

  -- at each moment the world has what lives
  pub living_at_by : (k : ℕ) → k ≤ length history → (x : X) → LivesBefore table d history k x → table.has (before d history k) x
  living_at_by = there

  -- after the history the world has the things that live
  pub living_by : HasTheLiving table d history
  living_by = record {
    lives = λ x h. came (length history) (omega arith) x (subst (λ (w : World). table.has w x) (sym (before-all d history)) h);
    there = λ x h. subst (λ (w : World). table.has w x) (before-all d history) (there (length history) (omega arith) x h);
  }

module _ {X : Type 0} (table : Table X) (d : DeckView) (history : List Entry) (sound : IsSoundHistory d history) (legal : Legal d history) (follows : Follows table) where
  step_of : (k : ℕ) (e : Entry) → IsAt history k e → k ≤ length history → (x : X) → Changes table d (before d history k) k e x
  step_of k e at h x = follows.changes d (before d history k) k e (made_at d history sound legal k e at h) x

  pub living : HasTheLiving table d history
  living = living_by table d history (follows.first d sound.deck) (follows.there d sound.deck) step_of

  pub living_at : (k : ℕ) → k ≤ length history → (x : X) → LivesBefore table d history k x → table.has (before d history k) x
  living_at = living_at_by table d history (follows.first d sound.deck) (follows.there d sound.deck) step_of
