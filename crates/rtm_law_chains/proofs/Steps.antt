-- What has lived before an entry lives after it, but for what it makes and what it is a death of.
use Rattle.std.proofs.Common.{◌≡◌, ℕ, zero, suc, ◌+◌, ◌<◌, ◌≤◌, List, [], ◌∷◌, ◌++◌, length, take, sym, ap, subst, arith, inl, inr, ◌⊎◌, ◌∙◌}
use Rattle.std.proofs.lemmas.List.{length-append, take-append-le, take_all}
use Rattle.std.specs.Prelude.{IsTrue}
use Rattle.rtm_deck_items.specs.View.{DeckView}
use Rattle.rtm_deck_items.specs.WellFormed.{is_well_formed}
use Rattle.rtm_model.specs.declared.entry.Entry.{Entry}
use Rattle.rtm_model.specs.Advance.{world}
use Rattle.rtm_model.specs.Legal.{Legal}
use Rattle.rtm_model.specs.Moments.{IsAt, before}
use Rattle.rtm_model.specs.World.{World}
use Rattle.rtm_law_births.specs.Life.{HasTheLiving, LivesBefore, LivesSince, Survives, Table}
use Rattle.rtm_law_births.proofs.Histories.{before-all, entry_at}
use Rattle.rtm_law_births.proofs.Living.{IsMade, below_next}
use Rattle.rtm_law_sound.proofs.Histories.{prefix_legal}
use Rattle.rtm_law_landings.proofs.Appended.{at_appended, at_end, front_made_last, one_at, same_below, take_next}

module _ {X : Type 0} (table : Table X) (d : DeckView) (h : List Entry) (e : Entry) where
  abbrev pub Longer : List Entry
  Longer = h ++ e ∷ []

  long : length Longer ≡ length h + 1
  long = length-append h (e ∷ [])

  before_same : (i : ℕ) → i ≤ length h → before d Longer i ≡ before d h i
  before_same i le = ap (world d) (take-append-le i h (e ∷ []) le)

  before_last : before d Longer (length h) ≡ world d h
  before_last = before_same (length h) (omega arith) ∙ before-all d h

  at_shorter : (i : ℕ) (f : Entry) → i < length h → IsAt Longer i f → IsAt h i f
  at_shorter i f within at = sym (same_below h i (e ∷ []) within) ∙ at

  at_last : (f : Entry) → IsAt Longer (length h) f → f ≡ e
  at_last f at = one_at Longer (length h) f e at (at_end h e)

  abbrev Killed : X → Type 0
  Killed x = table.kills d (world d h) (length h) e x

  survives_shorter : (i : ℕ) (x : X) → Survives table.kills d Longer i (length Longer) x → Survives table.kills d h i (length h) x
  survives_shorter i x survives j f from within at killed =
      survives j f from (omega (arith, within, long)) (at_appended h j f (e ∷ []) at)
      (subst (λ (w : World). table.kills d w j f x) (sym (before_same j (omega (arith, within)))) killed)

  survives_last : (i : ℕ) (x : X) → i ≤ length h → Survives table.kills d Longer i (length Longer) x → Killed x → ⊥
  survives_last i x le survives killed =
      survives (length h) e le (omega (arith, long)) (at_end h e) (subst (λ (w : World). table.kills d w (length h) e x) (sym before_last) killed)

  survives_longer : (i : ℕ) (x : X) → Survives table.kills d h i (length h) x → (Killed x → ⊥) → Survives table.kills d Longer i (length Longer) x
  survives_longer i x survives alive j f from within at killed = elim (below_next j (length h) (omega (arith, within, long))) [
    | inl less ↦ survives j f from less (at_shorter j f less at) (subst (λ (w : World). table.kills d w j f x) (before_same j (omega (arith, less))) killed)
    | inr same ↦
        let here = subst (λ (k : ℕ). IsAt Longer k f) same at in
        let moved = subst (λ (k : ℕ). table.kills d (before d Longer k) k f x) same killed in
        let one = subst (λ (g : Entry). table.kills d (before d Longer (length h)) (length h) g x) (at_last f here) moved in
        alive (subst (λ (w : World). table.kills d w (length h) e x) before_last one)
  ]

  abbrev Came : X → Type 0
  Came x = table.makes d (world d h) (length h) e x ⊎ (LivesBefore table d h (length h) x × (Killed x → ⊥))

  since_came : (x : X) (i : ℕ) → LivesSince table d Longer (length Longer) x i → Came x
  since_came x i since = elim (below_next i (length h) (omega (arith, since.below, long))) [
    | inl less ↦ inr (
      inr (
        i,
        record {
          below = less;
          entry = since.entry;
          at = at_shorter i since.entry less since.at;
          makes = subst (λ (w : World). table.makes d w i since.entry x) (before_same i (omega (arith, less))) since.makes;
          survives = survives_shorter (i + 1) x since.survives;
        },
      ),
      survives_last (i + 1) x (omega (arith, less)) since.survives,
    )
    | inr same ↦
        let here = subst (λ (k : ℕ). IsAt Longer k since.entry) same since.at in
        let moved = subst (λ (k : ℕ). table.makes d (before d Longer k) k since.entry x) same since.makes in
        let one = subst (λ (g : Entry). table.makes d (before d Longer (length h)) (length h) g x) (at_last since.entry here) moved in
        inl (subst (λ (w : World). table.makes d w (length h) e x) before_last one)
  ]

  lived_came : (x : X) → LivesBefore table d Longer (length Longer) x → Came x
  lived_came x (inl from) = inr (inl (from.0, survives_shorter 0 x from.1), survives_last 0 x (omega arith) from.1)
  lived_came x (inr since) = since_came x since.0 since.1

  lives_on : (x : X) → LivesBefore table d h (length h) x → (Killed x → ⊥) → LivesBefore table d Longer (length Longer) x
  lives_on x (inl from) alive = inl (from.0, survives_longer 0 x from.1 alive)
  lives_on x (inr (i, since)) alive = inr (
    i,
    record {
      below = omega (arith, since.below, long);
      entry = since.entry;
      at = at_appended h i since.entry (e ∷ []) since.at;
      makes = subst (λ (w : World). table.makes d w i since.entry x) (sym (before_same i (omega (arith, since.below)))) since.makes;
      survives = survives_longer (i + 1) x since.survives alive;
    },
  )

  module _ (now : HasTheLiving table d h) (after : HasTheLiving table d Longer) where
    pub came : (x : X) → table.has (world d Longer) x → table.makes d (world d h) (length h) e x ⊎ (table.has (world d h) x × (table.kills d (world d h) (length h) e x → ⊥))
    came x there = elim (lived_came x (after.lives x there)) as (λ _. table.makes d (world d h) (length h) e x ⊎ (table.has (world d h) x × (Killed x → ⊥))) [
      | inl born ↦ inl born
      | inr stayed ↦ inr (now.there x stayed.0, stayed.1)
    ]

    pub stays : (x : X) → table.has (world d h) x → (table.kills d (world d h) (length h) e x → ⊥) → table.has (world d Longer) x
    stays x there alive = after.there x (lives_on x (now.lives x there) alive)

-- what holds before the first entry, and is kept by each that may follow, holds of each legal history
module _ (d : DeckView) (deck : IsTrue (is_well_formed d)) (P : List Entry → Type 0) (first : P [])
    (keeps : (h : List Entry) (e : Entry) → Legal d h → Legal d (h ++ e ∷ []) → IsMade d (world d h) (length h) e → P h → P (h ++ e ∷ [])) where
  at_each : (history : List Entry) → Legal d history → (k : ℕ) → k ≤ length history → P (take k history)
  at_each history legal zero h = first
  at_each history legal (suc k) h =
      let at = entry_at history k (omega (arith, h)) in
      let m : k + 1 ≡ suc k = omega arith in
      let next : take (suc k) history ≡ take k history ++ at.0 ∷ [] = ap (λ (n : ℕ). take n history) (sym m) ∙ take_next history k at.0 at.1 in
      let longer : Legal d (take k history ++ at.0 ∷ []) = subst (Legal d) next (prefix_legal d history (suc k) legal) in
      subst P (sym next) (keeps (take k history) at.0 (prefix_legal d history k legal) longer (front_made_last d history deck legal k at.0 at.1) (at_each history legal k (omega (arith, h))))

  pub through : (history : List Entry) → Legal d history → P history
  through history legal = subst P (take_all (length history) history (omega arith)) (at_each history legal (length history) (omega arith))
