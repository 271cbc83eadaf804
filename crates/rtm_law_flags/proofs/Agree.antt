-- A flag that some entry sets, and no entry takes away, stands where one of the entries has set it.
use Rattle.std.proofs.Common.{◌≡◌, ℕ, Bool, true, false, ◌||◌, List, [], ◌∷◌, length, take, refl, sym, ap, arith, inl, inr, ◌∙◌}
use Rattle.std.proofs.lemmas.Bool.{cases_lt}
use Rattle.std.proofs.lemmas.List.Folds.{list_any-append}
use Rattle.std.specs.List.{list_any}
use Rattle.std.specs.Prelude.{IsTrue}
use Rattle.rtm_deck_items.specs.View.{DeckView}
use Rattle.rtm_deck_items.specs.WellFormed.{is_well_formed}
use Rattle.rtm_model.specs.declared.entry.Entry.{Entry}
use Rattle.rtm_model.specs.Advance.{advance, world}
use Rattle.rtm_model.specs.Legal.{Legal}
use Rattle.rtm_model.specs.Moments.{IsAt}
use Rattle.rtm_model.specs.World.{World, start}
use Rattle.rtm_law_births.proofs.Living.{IsMade}
use Rattle.rtm_law_landings.proofs.Appended.{any_from, at_shorter, holds_of}
use Rattle.rtm_law_landings.proofs.Booleans.{or-false}
use Rattle.rtm_law_sound.proofs.Histories.{world-append, world-nil}

joined : (first a b : Bool) → ((first || a) || b) ≡ (first || (a || (b || false)))
joined true a b = refl
joined false true b = refl
joined false false true = refl
joined false false false = refl

-- the flag, which has that value at the start
pub any_agrees : (d : DeckView) → IsTrue (is_well_formed d) → (F : World → Bool) (p : Entry → Bool) (first : Bool) → F (start d) ≡ first
    → ((w : World) (n : ℕ) (e : Entry) → IsMade d w n e → F (advance d w n e) ≡ (F w || p e))
    → (h : List Entry) → Legal d h → F (world d h) ≡ (first || list_any p h)
any_agrees d deck F p first starts keeps h legal =
    holds_of d deck (λ (es : List Entry). F (world d es) ≡ (first || list_any p es))
    (ap F (world-nil d) ∙ starts ∙ sym (or-false first))
    (λ front e before m agree.
    ap F (world-append d front e) ∙ keeps (world d front) (length front) e m ∙ ap (λ (b : Bool). b || p e) agree
    ∙ joined first (list_any p front) (p e) ∙ ap (λ (b : Bool). first || b) (sym (list_any-append p front (e ∷ []))))
    h legal

-- where at each such entry none stands before it, one stands at most
clash : (b : Bool) → b ≡ true → b ≡ false → ⊥
clash true h k = cc
clash false h k = cc

pub only_one : (p : Entry → Bool) (h : List Entry) → ((j : ℕ) (e : Entry) → IsAt h j e → p e ≡ true → list_any p (take j h) ≡ false)
    → (i j : ℕ) (e other : Entry) → IsAt h i e → IsAt h j other → p e ≡ true → p other ≡ true → i ≡ j
only_one p h none i j e other at there one two = elim (cases_lt i j) as (λ _. i ≡ j) [
  | inl less ↦ absurd (clash (list_any p (take j h)) (any_from p (take j h) i e (at_shorter h j i e less at) one) (none j other there two))
  | inr past ↦ elim (cases_lt j i) as (λ _. i ≡ j) [
    | inl less ↦ absurd (clash (list_any p (take i h)) (any_from p (take i h) j other (at_shorter h i j other less there) two) (none i e at one))
    | inr same ↦ omega (arith, past, same)
  ]
]
