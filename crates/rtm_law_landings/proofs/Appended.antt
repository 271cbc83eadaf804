-- Legal histories by one more entry at the end.
use Rattle.std.proofs.Common.{◌≡◌, ℕ, zero, suc, ◌+◌, ◌<◌, ◌≤◌, Bool, true, false, ◌||◌, List, [], ◌∷◌, ◌++◌, length, take, Some, refl, sym, ap, subst, ◌∙◌, arith}
use Rattle.std.proofs.lemmas.Bool.{or_right}
use Rattle.std.proofs.lemmas.List.{length-take-le, take-take, take_all}
use Rattle.std.specs.List.{list_any}
use Rattle.std.specs.Prelude.{IsTrue, slice_get}
use Rattle.rtm_deck_items.specs.View.{DeckView}
use Rattle.rtm_deck_items.specs.WellFormed.{is_well_formed}
use Rattle.rtm_model.specs.declared.entry.Entry.{Entry}
use Rattle.rtm_model.specs.Advance.{world}
use Rattle.rtm_model.specs.Legal.{Legal}
use Rattle.rtm_model.specs.Moments.{IsAt}
use Rattle.rtm_law_births.proofs.Histories.{entry_at}
use Rattle.rtm_law_sound.proofs.Histories.{prefix_legal}
use Rattle.rtm_law_births.proofs.Living.{IsMade, made_at}
use Rattle.rtm_law_births.proofs.Sound.{sound_history}

pub take_next : (history : List Entry) (k : ℕ) (e : Entry) → IsAt history k e → take (k + 1) history ≡ take k history ++ e ∷ []
take_next [] k e at = absurd cc
take_next (x ∷ es) zero e at = let same : x ≡ e = cc in ap (λ (y : Entry). y ∷ []) same
take_next (x ∷ es) (suc k) e at =
    let m : suc k + 1 ≡ suc (k + 1) = omega arith in
    rw m (ap (λ (ys : List Entry). x ∷ ys) (take_next es k e at))

-- an entry stands below the length
pub below : (history : List Entry) (k : ℕ) (e : Entry) → IsAt history k e → k < length history
below [] k e at = absurd cc
below (x ∷ es) zero e at = omega arith
below (x ∷ es) (suc k) e at = omega (arith, below es k e at)

-- it stands in each longer history too, and in a prefix that is long enough
pub at_longer : (history : List Entry) (k i : ℕ) (e : Entry) → IsAt (take k history) i e → IsAt history i e
at_longer history zero i e at = absurd cc
at_longer [] (suc k) i e at = absurd cc
at_longer (x ∷ es) (suc k) zero e at = at
at_longer (x ∷ es) (suc k) (suc i) e at = at_longer es k i e at

pub at_shorter : (history : List Entry) (k i : ℕ) (e : Entry) → i < k → IsAt history i e → IsAt (take k history) i e
at_shorter history zero i e h at = absurd (omega (arith, h))
at_shorter [] (suc k) i e h at = at
at_shorter (x ∷ es) (suc k) zero e h at = at
at_shorter (x ∷ es) (suc k) (suc i) e h at = at_shorter es k i e (omega (arith, h)) at

pub at_appended : (history : List Entry) (i : ℕ) (e : Entry) (more : List Entry) → IsAt history i e → IsAt (history ++ more) i e
at_appended [] i e more at = absurd cc
at_appended (x ∷ es) zero e more at = at
at_appended (x ∷ es) (suc i) e more at = at_appended es i e more at

pub at_end : (history : List Entry) (e : Entry) → IsAt (history ++ e ∷ []) (length history) e
at_end [] e = refl
at_end (x ∷ es) e = at_end es e

pub same_below : (history : List Entry) (i : ℕ) (more : List Entry) → i < length history → slice_get (history ++ more) i ≡ slice_get history i
same_below [] i more h = absurd (omega (arith, h))
same_below (x ∷ es) zero more h = refl
same_below (x ∷ es) (suc i) more h = same_below es i more (omega (arith, h))

pub same_taken : (history : List Entry) (k i : ℕ) → i < k → slice_get (take k history) i ≡ slice_get history i
same_taken history zero i h = absurd (omega (arith, h))
same_taken [] (suc k) i h = refl
same_taken (x ∷ es) (suc k) zero h = refl
same_taken (x ∷ es) (suc k) (suc i) h = same_taken es k i (omega (arith, h))

-- one entry stands at an index
pub one_at : (history : List Entry) (i : ℕ) (a b : Entry) → IsAt history i a → IsAt history i b → a ≡ b
one_at history i a b f g = let one : Some a ≡ Some b = sym f ∙ g in cc

-- any of a list, and of one more
abbrev pub AnyAt : (Entry → Bool) → List Entry → Type 0
AnyAt p xs = (i : ℕ) × (e : Entry) × IsAt xs i e × (p e ≡ true)

any_if : (p : Entry → Bool) (x : Entry) (xs : List Entry) → (list_any p xs ≡ true → AnyAt p xs) → (b : Bool) → p x ≡ b → (b || list_any p xs) ≡ true → AnyAt p (x ∷ xs)
any_if p x xs behind true e h = (0, x, refl, e)
any_if p x xs behind false e h = let more = behind h in (suc more.0, more.1, more.2, more.3)

pub any_at : (p : Entry → Bool) (xs : List Entry) → list_any p xs ≡ true → AnyAt p xs
any_at p [] h = absurd cc
any_at p (x ∷ xs) h = any_if p x xs (any_at p xs) (p x) refl h

pub any_from : (p : Entry → Bool) (xs : List Entry) (i : ℕ) (e : Entry) → IsAt xs i e → p e ≡ true → list_any p xs ≡ true
any_from p [] i e at h = absurd cc
any_from p (x ∷ xs) zero e at h = let same : x ≡ e = cc in let here : p x ≡ true = ap p same ∙ h in ap (λ (b : Bool). b || list_any p xs) here
any_from p (x ∷ xs) (suc i) e at h = or_right (p x) (list_any p xs) (any_from p xs i e at h)

-- any of a prefix, and of a longer one
pub any_longer : (p : Entry → Bool) (history : List Entry) (k : ℕ) → list_any p (take k history) ≡ true → list_any p history ≡ true
any_longer p history k h = let one = any_at p (take k history) h in any_from p history one.0 one.1 (at_longer history k one.0 one.1 one.2) one.3

pub any_earlier : (p : Entry → Bool) (history : List Entry) (i j : ℕ) → i ≤ j → list_any p (take i history) ≡ true → list_any p (take j history) ≡ true
any_earlier p history i j le h =
    any_longer p (take j history) i (subst (λ (es : List Entry). list_any p es ≡ true) (sym (take-take i j history le)) h)

pub any_same : (p q : Entry → Bool) (xs : List Entry) → ((i : ℕ) (e : Entry) → IsAt xs i e → p e ≡ q e) → list_any p xs ≡ list_any q xs
any_same p q [] h = refl
any_same p q (x ∷ xs) h =
    ap (λ (b : Bool). b || list_any p xs) (h 0 x refl) ∙ ap (λ (b : Bool). q x || b) (any_same p q xs (λ i e at. h (suc i) e at))

-- what holds before the first entry, and is kept by each that may follow, holds of each legal history
module _ (d : DeckView) (deck : IsTrue (is_well_formed d)) (P : List Entry → Type 0) (first : P [])
    (keeps : (h : List Entry) (e : Entry) → Legal d h → IsMade d (world d h) (length h) e → P h → P (h ++ e ∷ [])) where
  at_each : (history : List Entry) → Legal d history → (k : ℕ) → k ≤ length history → P (take k history)
  at_each history legal zero h = first
  at_each history legal (suc k) h =
      let at = entry_at history k (omega arith) in
      let m : k + 1 ≡ suc k = omega arith in
      let len : length (take k history) ≡ k = length-take-le k history (omega arith) in
      let made = made_at d history (sound_history d history deck legal) legal k at.0 at.1 (omega arith) in
      let moved : IsMade d (world d (take k history)) (length (take k history)) at.0 = subst (λ (n : ℕ). IsMade d (world d (take k history)) n at.0) (sym len) made in
      let more = keeps (take k history) at.0 (prefix_legal d history k legal) moved (at_each history legal k (omega arith)) in
      subst (λ (n : ℕ). P (take n history)) m (subst P (sym (take_next history k at.0 at.1)) more)

  pub holds_of : (history : List Entry) → Legal d history → P history
  holds_of history legal = subst P (take_all (length history) history (omega arith)) (at_each history legal (length history) (omega arith))

-- an entry of a legal history was made where those before it had been
pub front_length : (h : List Entry) (i : ℕ) (e : Entry) → IsAt h i e → length (take i h) ≡ i
front_length h i e at = length-take-le i h (omega (arith, below h i e at))

pub front_made : (d : DeckView) (h : List Entry) → IsTrue (is_well_formed d) → Legal d h → (i : ℕ) (e : Entry) → IsAt h i e → IsMade d (world d (take i h)) i e
front_made d h deck legal i e at = made_at d h (sound_history d h deck legal) legal i e at (omega (arith, below h i e at))

pub front_made_last : (d : DeckView) (h : List Entry) → IsTrue (is_well_formed d) → Legal d h → (i : ℕ) (e : Entry) → IsAt h i e → IsMade d (world d (take i h)) (length (take i h)) e
front_made_last d h deck legal i e at = subst (λ (n : ℕ). IsMade d (world d (take i h)) n e) (sym (front_length h i e at)) (front_made d h deck legal i e at)
