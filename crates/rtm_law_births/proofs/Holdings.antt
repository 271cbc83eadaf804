-- Births and deaths of holdings, entry by entry.
use Rattle.std.proofs.Common.{◌≡◌, ℕ, zero, suc, ◌<◌, ◌≤◌, ◌+◌, Bool, true, false, not, List, [], ◌∷◌, length, Some, None, refl, sym, ap, subst, arith, inl, inr, ◌⊎◌, ◌∙◌}
use Rattle.std.proofs.lemmas.Bool.{eqb-false, eqb-true}
use Rattle.std.proofs.lemmas.List.{get_or-set_other, get_or-set_same}
use Rattle.std.specs.Prelude.{if◌then◌else◌, is_some, replicate, slice_get, ◌==◌}
use Rattle.rtm_deck_items.specs.Reading.{job_step, op_at}
use Rattle.rtm_deck_items.specs.View.{DeckView}
use Rattle.rtm_deck_items.specs.declared.op.Op.{Op}
use Rattle.rtm_deck_items.specs.declared.op.Op.TheVariants as ops
use Rattle.rtm_deck_operands.specs.declared.value.Res.{Res}
use Rattle.rtm_deck_operands.specs.declared.value.Res.TheVariants.{Dsn, Enq, Stor, Timr}
use Rattle.rtm_model.specs.declared.entry.Entry.{Entry}
use Rattle.rtm_model.specs.declared.entry.What.{What}
use Rattle.rtm_model.specs.declared.entry.What.TheVariants as whats
use Rattle.rtm_model.specs.declared.holding.Holding.{Holding}
use Rattle.rtm_model.specs.declared.outcome.Outcome.TheVariants.{Executed}
use Rattle.rtm_model.specs.Advance.{after_attach, beyond_card, with_unit}
use Rattle.rtm_model.specs.Cards.{row}
use Rattle.rtm_model.specs.Chains.{without_first}
use Rattle.rtm_model.specs.Ending.{Holdings, after_free, after_get, holdings_of, is_of_id, newest_equal, no_holdings, of_class, on_class, on_owner}
use Rattle.rtm_model.specs.Legal.{Legal}
use Rattle.rtm_model.specs.Moments.{IsIn}
use Rattle.rtm_model.specs.Surroundings.{surroundings_at}
use Rattle.rtm_model.specs.inner.Soundness.{AreHeld, AreHoldings, HoldingsFall, IsHolding, IsSound}
use Rattle.rtm_model.specs.World.{UnitOfWork, World, core_at, related_task}
use Rattle.rtm_law_births.specs.Holdings.{AreTheHoldings, CardKills, CardMakes, holdings}
use Rattle.rtm_law_births.proofs.Sound.{IsSoundHistory}
use Rattle.rtm_law_births.proofs.Beyond.{arrived_units, own, related_units, step_units}
use Rattle.rtm_law_births.proofs.Histories.{before-all}
use Rattle.rtm_law_births.proofs.Lists.{Falls, all_in, found_in, in_without_first, without_first_in}
use Rattle.rtm_law_births.proofs.Living.{Changes, Follows, IsMade, Moves, living, unmoved}
use Rattle.rtm_law_births.proofs.Outcomes.{outcome_of, row_of, there_rc, unless_rc}

-- the births of holdings fall
falls : (n : ℕ) (hs : List Holding) → HoldingsFall n hs → Falls Holding.born n hs
falls n [] h = tt
falls n (x ∷ xs) h = (h.0, falls x.born xs h.1)

held_of : (n owner : ℕ) (held : Holdings) → AreHoldings n owner held → (class : Res) → AreHeld n owner class (of_class class held)
held_of n owner held h Enq = h.enq
held_of n owner held h Stor = h.stor
held_of n owner held h Dsn = h.dsn
held_of n owner held h Timr = h.timr

-- two classes are the same, or not
same_class : (a b : Res) → (a ≡ b) ⊎ (a ≡ b → ⊥)
same_class Enq Enq = inl refl
same_class Stor Stor = inl refl
same_class Dsn Dsn = inl refl
same_class Timr Timr = inl refl
same_class _ _ = inr (λ e. absurd cc)

-- a class changed, and another one
class_here : (class : Res) (f : List Holding → List Holding) (held : Holdings) → of_class class (on_class class f held) ≡ f (of_class class held)
class_here Enq f held = refl
class_here Stor f held = refl
class_here Dsn f held = refl
class_here Timr f held = refl

class_there : (a b : Res) (f : List Holding → List Holding) (held : Holdings) → (a ≡ b → ⊥) → of_class a (on_class b f held) ≡ of_class a held
class_there Enq Enq f held h = absurd (h refl)
class_there Stor Stor f held h = absurd (h refl)
class_there Dsn Dsn f held h = absurd (h refl)
class_there Timr Timr f held h = absurd (h refl)
class_there _ _ f held h = refl

-- whether the holding is of that owner and class
abbrev IsOf : Holding → ℕ → Res → Type 0
IsOf x owner class = (x.owner ≡ owner) × (x.class ≡ class)

is_of_if : (x : Holding) (owner : ℕ) (class : Res) (t : Bool) → (x.owner == owner) ≡ t → IsOf x owner class ⊎ (IsOf x owner class → ⊥)
is_of_if x owner class false e = inr (λ h. eqb-false x.owner owner e h.0)
is_of_if x owner class true e = elim (same_class x.class class) [
  | inl same ↦ inl (eqb-true x.owner owner e, same)
  | inr other ↦ inr (λ h. other h.1)
]

is_of : (x : Holding) (owner : ℕ) (class : Res) → IsOf x owner class ⊎ (IsOf x owner class → ⊥)
is_of x owner class = is_of_if x owner class (x.owner == owner) refl

module _ (x : Holding) (owner : ℕ) (class : Res) (f : List Holding → List Holding) (hs : List Holdings) (within : owner < length hs) where
  -- the list of that owner and class is changed
  list_here : IsOf x owner class → of_class x.class (holdings_of x.owner (on_owner owner (on_class class f) hs)) ≡ f (of_class class (holdings_of owner hs))
  list_here h =
      rw (h.0, h.1) (ap (of_class class) (get_or-set_same hs owner (on_class class f (holdings_of owner hs)) no_holdings within)
      ∙ class_here class f (holdings_of owner hs))

  -- and no other one
  other_class : (t : Bool) → (x.owner == owner) ≡ t → (IsOf x owner class → ⊥) → of_class x.class (holdings_of x.owner (on_owner owner (on_class class f) hs)) ≡ of_class x.class (holdings_of x.owner hs)
  other_class true e h =
      let same = eqb-true x.owner owner e in
      rw same (ap (of_class x.class) (get_or-set_same hs owner (on_class class f (holdings_of owner hs)) no_holdings within)
      ∙ class_there x.class class f (holdings_of owner hs) (λ k. h (same, k)))
  other_class false e h =
      ap (of_class x.class) (get_or-set_other hs owner x.owner (on_class class f (holdings_of owner hs)) no_holdings (eqb-false x.owner owner e))

  list_there : (IsOf x owner class → ⊥) → of_class x.class (holdings_of x.owner (on_owner owner (on_class class f) hs)) ≡ of_class x.class (holdings_of x.owner hs)
  list_there h = other_class (x.owner == owner) refl h

abbrev Held : Holding → List Holdings → Type 0
Held x hs = IsIn x (of_class x.class (holdings_of x.owner hs))

module _ (n : ℕ) (x : Holding) (hs : List Holdings) (sound : (u : ℕ) → AreHoldings n u (holdings_of u hs)) where
  -- the list of x, by its owner and class
  to_list : (owner : ℕ) (class : Res) → IsOf x owner class → Held x hs → IsIn x (of_class class (holdings_of owner hs))
  to_list owner class same h = subst (λ (c : Res). IsIn x (of_class c (holdings_of owner hs))) same.1 (subst (λ (o : ℕ). IsIn x (of_class x.class (holdings_of o hs))) same.0 h)

  from_list : (owner : ℕ) (class : Res) → IsOf x owner class → IsIn x (of_class class (holdings_of owner hs)) → Held x hs
  from_list owner class same h = subst (λ (o : ℕ). IsIn x (of_class x.class (holdings_of o hs))) (sym same.0) (subst (λ (c : Res). IsIn x (of_class c (holdings_of owner hs))) (sym same.1) h)

  -- GET
  got_moves : (u : ℕ) (class : Res) (id rc : ℕ) → u < length hs → rc ≡ 0
      → Moves (Held x (after_get (record { born = n; class = class; id = id; owner = u }) hs)) (Held x hs) (CardMakes n u rc (ops.Get class id) x) ⊥
  got_moves u class id rc within zero_is =
      let new : Holding = record { born = n; class = class; id = id; owner = u } in
      let add : List Holding → List Holding = λ held. new ∷ held in
      record {
        came = λ h. elim (is_of x u class) [
          | inl same ↦ elim (subst (IsIn x) (list_here x u class add hs within same) h) [
            | inl is_new ↦ inl (zero_is, is_new)
            | inr old ↦ inr (from_list u class same old, λ k. k)
          ]
          | inr apart ↦ inr (subst (IsIn x) (list_there x u class add hs within apart) h, λ k. k)
        ];
        born = λ h. subst (IsIn x) (sym (list_here x u class add hs within (ap Holding.owner h.1, ap Holding.class h.1))) (inl h.1);
        stays = λ h alive. elim (is_of x u class) [
          | inl same ↦ subst (IsIn x) (sym (list_here x u class add hs within same)) (inr (to_list u class same h))
          | inr apart ↦ subst (IsIn x) (sym (list_there x u class add hs within apart)) h
        ];
      }

  -- what is found is of the owner and class whose list it is in
  found_of : (u : ℕ) (class : Res) (id : ℕ) → newest_equal u class id hs ≡ Some x → IsOf x u class
  found_of u class id e =
      let fact = all_in (IsHolding u class) (of_class class (holdings_of u hs)) (AreHeld.each (held_of n u (holdings_of u hs) (sound u) class)) x (found_in (is_of_id id) (of_class class (holdings_of u hs)) x e) in
      (fact.owner_is, fact.class_is)

  -- FREE and RELEASE
  freed_moves : (u : ℕ) (class : Res) (id : ℕ) → u < length hs → Moves (Held x (after_free u class id hs)) (Held x hs) ⊥ (newest_equal u class id hs ≡ Some x)
  freed_moves u class id within =
      let drop : List Holding → List Holding = without_first (is_of_id id) in
      let fall = falls n (of_class class (holdings_of u hs)) (AreHeld.fall (held_of n u (holdings_of u hs) (sound u) class)) in
      record {
        came = λ h. elim (is_of x u class) [
          | inl same ↦
              let there = in_without_first Holding.born (is_of_id id) (of_class class (holdings_of u hs)) n fall x (subst (IsIn x) (list_here x u class drop hs within same) h) in
              inr (from_list u class same there.0, there.1)
          | inr apart ↦ inr (subst (IsIn x) (list_there x u class drop hs within apart) h, λ killed. apart (found_of u class id killed))
        ];
        born = λ h. absurd h;
        stays = λ h alive. elim (is_of x u class) [
          | inl same ↦ subst (IsIn x) (sym (list_here x u class drop hs within same)) (without_first_in (is_of_id id) (of_class class (holdings_of u hs)) x (to_list u class same h) alive)
          | inr apart ↦ subst (IsIn x) (sym (list_there x u class drop hs within apart)) h
        ];
      }

-- the deaths where the card was executed with 0
with_rc : (n : ℕ) (x : Holding) (hs : List Holdings) (u rc : ℕ) (class : Res) (id : ℕ) → (is_some (newest_equal u class id hs) ≡ true → rc ≡ 0)
    → Moves (Held x (after_free u class id hs)) (Held x hs) ⊥ (newest_equal u class id hs ≡ Some x)
    → Moves (Held x (after_free u class id hs)) (Held x hs) ⊥ ((rc ≡ 0) × (newest_equal u class id hs ≡ Some x))
with_rc n x hs u rc class id found m = record {
  came = λ h. elim (m.came h) [ inl born ↦ inl born | inr stayed ↦ inr (stayed.0, λ killed. stayed.1 killed.1) ];
  born = m.born;
  stays = λ h alive. m.stays h (λ e. alive (found (ap is_some e), e));
}

module _ (d : DeckView) (n u rc : ℕ) (w : World) (units : List UnitOfWork) (x : Holding) (sound : IsSound d n w) (unit : u ≤ length d.units) where
  within : u < length w.holdings
  within = omega (arith, unit, sound.owners_len)

  if_born : (b : Bool) (w2 : World) → World.holdings w2 ≡ w.holdings → World.holdings (if b then w2 else record w { units = units }) ≡ w.holdings
  if_born true w2 e = e
  if_born false w2 e = refl

  same : (hs : List Holdings) → hs ≡ w.holdings → Moves (Held x hs) (Held x w.holdings) ⊥ ⊥
  same hs e = unmoved (λ h. subst (Held x) e h) (λ h. subst (Held x) (sym e) h) (λ h. h) (λ h. h)

  card : (op : Op) → row (core_at u w) (surroundings_at d w u op) op ≡ Executed rc
      → Moves (Held x (World.holdings (beyond_card d n u rc op (record w { units = units })))) (Held x w.holdings) (CardMakes n u rc op x) (CardKills w u rc op x)
  card (ops.Get class id) e = got_moves n x w.holdings sound.holdings u class id rc within (unless_rc _ _ rc e)
  card (ops.Free class id) e = with_rc n x w.holdings u rc class id (there_rc _ 4 rc e) (freed_moves n x w.holdings sound.holdings u class id within)
  card (ops.Attachx unit estai term) e = same _ (if_born (rc == 0) (after_attach d n u unit estai term (record w { units = units })) refl)
  card (ops.Schedule unit) e = same _ (if_born (rc == 0) (with_unit d n unit None [] (record w { units = units })) refl)
  card _ e = same w.holdings refl

module _ (d : DeckView) (w : World) (n u : ℕ) (x : Holding) where
  entry : (what : What) → IsMade d w n (record { unit = u; what = what }) → Changes holdings d w n (record { unit = u; what = what }) x
  entry (whats.Exec at rc) m =
      card d n u rc w (World.units (own d w n u (whats.Exec at rc))) x m.sound m.can.unit (op_at d at.prog at.op)
      (row_of (core_at u w) (surroundings_at d w u (op_at d at.prog at.op)) (op_at d at.prog at.op) rc (outcome_of d w u (whats.Exec at rc) m.may))
  entry (whats.Arrive cmd fate) m =
      same d n u 0 w w.units x m.sound m.can.unit _ (ap World.holdings (arrived_units n u (slice_get d.commands cmd) (own d w n u (whats.Arrive cmd fate))))
  entry (whats.Release class id owner) m =
      freed_moves n x w.holdings (IsSound.holdings m.sound) owner class id (within d n owner 0 w w.units x m.sound m.can.what.1)
  entry (whats.Done code to_task to_step) m =
      same d n u 0 w w.units x m.sound m.can.unit _
      (ap World.holdings (step_units n (not (u == job_step d)) (job_step d) _ _) ∙ ap World.holdings (related_units n (related_task d u) _ _))
  entry _ m = unmoved (λ h. h) (λ h. h) (λ h. h) (λ h. h)

-- at the start nobody holds anything
nothing_held : (k o : ℕ) → holdings_of o (replicate k no_holdings) ≡ no_holdings
nothing_held zero zero = refl
nothing_held zero (suc o) = refl
nothing_held (suc k) zero = refl
nothing_held (suc k) (suc o) = nothing_held k o

none_of : (class : Res) (x : Holding) → IsIn x (of_class class no_holdings) → ⊥
none_of Enq x h = h
none_of Stor x h = h
none_of Dsn x h = h
none_of Timr x h = h

follows : Follows holdings
follows = record {
  first = λ d deck x h. none_of x.class x (subst (λ (held : Holdings). IsIn x (of_class x.class held)) (nothing_held (length d.units + 1) x.owner) h);
  there = λ d deck x h. absurd h;
  changes = λ d w n e m x. entry d w n e.unit x e.what m;
}

-- each list of holdings has those that live, newest first
pub holdings_live : (d : DeckView) (h : List Entry) → IsSoundHistory d h → Legal d h → AreTheHoldings d h
holdings_live d h sound legal = record {
  living = living holdings d h sound legal follows;
  order = λ owner class. subst (λ (w : World). HoldingsFall (length h) (of_class class (holdings_of owner w.holdings))) (before-all d h)
      (AreHeld.fall (held_of (length h) owner _ (IsSound.holdings (sound.worlds (length h) (omega arith)) owner) class));
}
