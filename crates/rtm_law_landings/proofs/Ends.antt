-- How a pending abort comes to its end, and that nothing is pending for a unit that has begun to end or was purged.
use Rattle.std.proofs.Common.{◌≡◌, ℕ, ◌+◌, Bool, true, false, List, refl, sym, subst, inl, inr, ◌⊎◌, ◌∙◌}
use Rattle.std.proofs.lemmas.Bool.{eqb-false, eqb-true}
use Rattle.std.specs.Prelude.{IsTrue, ◌==◌}
use Rattle.rtm_deck_items.specs.View.{DeckView}
use Rattle.rtm_deck_items.specs.WellFormed.{is_well_formed}
use Rattle.rtm_model.specs.declared.abort.Abort.{Abort}
use Rattle.rtm_model.specs.declared.entry.Class.{Class}
use Rattle.rtm_model.specs.declared.entry.Entry.{Entry}
use Rattle.rtm_model.specs.declared.entry.What.{What}
use Rattle.rtm_model.specs.declared.entry.What.TheVariants as whats
use Rattle.rtm_model.specs.AbortLaw.{IsPending, is_pending}
use Rattle.rtm_model.specs.Aborts.{is_same_class}
use Rattle.rtm_model.specs.Entries.{EndsAbort}
use Rattle.rtm_model.specs.Legal.{Legal}
use Rattle.rtm_model.specs.Moments.{IsAt, IsIn, before}
use Rattle.rtm_model.specs.World.{World}
use Rattle.rtm_model.proofs.Landing.{same_class}
use Rattle.rtm_law_births.proofs.AbortEntries.{follows}
use Rattle.rtm_law_births.proofs.Histories.{before-next}
use Rattle.rtm_law_landings.proofs.Appended.{front_made}
use Rattle.rtm_law_landings.proofs.Named.{named_in, named_of, same_is}
use Rattle.rtm_law_landings.proofs.Nexts.{pending_in}

-- whether an entry ends the abort
land_or : (u : ℕ) (class : Class) (from unit : ℕ) (class2 : Class) (from2 : ℕ) (a b c : Bool) → (unit == u) ≡ a → is_same_class class2 class ≡ b → (from2 == from) ≡ c
    → ((unit ≡ u) × (class2 ≡ class) × (from2 ≡ from)) ⊎ (((unit ≡ u) × (class2 ≡ class) × (from2 ≡ from)) → ⊥)
land_or u class from unit class2 from2 true true true e f g = inl (eqb-true unit u e, same_is class2 class f, eqb-true from2 from g)
land_or u class from unit class2 from2 false b c e f g = inr (λ k. eqb-false unit u e k.0)
land_or u class from unit class2 from2 true true false e f g = inr (λ k. eqb-false from2 from g k.2)
land_or u class from unit class2 from2 true false c e f g = inr (λ k.
    let same : is_same_class class2 class ≡ true = subst (λ (x : Class). is_same_class class2 x ≡ true) k.1 (same_class class2) in
    let clash : false ≡ true = sym f ∙ same in
    absurd cc)

equal_or : (a b : ℕ) (t : Bool) → (a == b) ≡ t → (a ≡ b) ⊎ (a ≡ b → ⊥)
equal_or a b true e = inl (eqb-true a b e)
equal_or a b false e = inr (eqb-false a b e)

ends_or : (u : ℕ) (class : Class) (from unit : ℕ) (what : What) → EndsAbort u class from unit what ⊎ (EndsAbort u class from unit what → ⊥)
ends_or u class from unit (whats.Land class2 from2 mark) = land_or u class from unit class2 from2 (unit == u) (is_same_class class2 class) (from2 == from) refl refl refl
ends_or u class from unit (whats.Begin code dump) = equal_or unit u (unit == u) refl
ends_or u class from unit (whats.Purge purged) = equal_or purged u (purged == u) refl
ends_or u class from unit _ = inr (λ k. k)

module _ (d : DeckView) (h : List Entry) (deck : IsTrue (is_well_formed d)) (legal : Legal d h) (i u : ℕ) (e : Entry) (at : IsAt h i e) where
  dies_if : (a : Abort) → IsIn a (pending_in (before d h i) u) → is_pending (before d h (i + 1)) u a.class a.from ≡ false
      → EndsAbort u a.class a.from e.unit e.what ⊎ (EndsAbort u a.class a.from e.unit e.what → ⊥) → EndsAbort u a.class a.from e.unit e.what
  dies_if a there gone (inl ends) = ends
  dies_if a there gone (inr stays) =
      let moves = follows.changes d (before d h i) i e (front_made d h deck legal i e at) (record { target = u; abort = a }) in
      let after : IsIn a (pending_in (before d h (i + 1)) u) = subst (λ (w : World). IsIn a (pending_in w u)) (sym (before-next d h i e at)) (moves.stays there stays) in
      let clash : false ≡ true = sym gone ∙ named_in a.class a.from a _ refl refl after in
      absurd cc

  -- an abort that is pending stays so, until it lands or its unit has its BEGIN or PURGE
  pub abort_dies : (class : Class) (from : ℕ) → IsPending d h i u class from → is_pending (before d h (i + 1)) u class from ≡ false → EndsAbort u class from e.unit e.what
  abort_dies class from pending gone =
      let one = named_of class from (pending_in (before d h i) u) pending in
      let a : Abort = one.0 in
      let gone_a : is_pending (before d h (i + 1)) u a.class a.from ≡ false = subst (λ (c : Class). is_pending (before d h (i + 1)) u c a.from ≡ false) one.2
      (subst (λ (k : ℕ). is_pending (before d h (i + 1)) u class k ≡ false) (sym one.3) gone) in
      subst (λ (c : Class). EndsAbort u c from e.unit e.what) (sym one.2)
      (subst (λ (k : ℕ). EndsAbort u a.class k e.unit e.what) one.3 (dies_if a one.1 gone_a (ends_or u a.class a.from e.unit e.what)))
