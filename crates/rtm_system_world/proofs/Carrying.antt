-- What may follow a sound world can be carried out beyond its own unit's control blocks.
use Rattle.std.proofs.Common.{◌≡◌, ℕ, suc, ◌+◌, ◌<◌, ◌≤◌, Bool, false, List, [], ◌∷◌, length, Option, Some, None, refl, sym, subst, ap, ◌∙◌, arith, get_or, get_or-set_same, length-set}
use Rattle.std.specs.Prelude.{IsTrue, is_some, not, slice_get, ◌==◌, ◌||◌}
use Rattle.std.specs.Option.{option_map_or}
use Rattle.rtm_deck_items.specs.declared.deck.Line.{Line}
use Rattle.rtm_deck_items.specs.declared.deck.Unit.{Unit as UnitCard}
use Rattle.rtm_deck_items.specs.declared.op.Op.{Op}
use Rattle.rtm_deck_items.specs.declared.op.Op.TheVariants as ops
use Rattle.rtm_deck_items.specs.View.{DeckView}
use Rattle.rtm_deck_items.specs.Reading.{is_task_card}
use Rattle.rtm_deck_items.specs.WellFormed.{is_abend_code, is_op, is_program_or_none, is_reason, is_task_in, is_well_formed}
use Rattle.rtm_model.specs.declared.holding.Holding.{Holding}
use Rattle.rtm_model.specs.declared.reg.Reg.{Reg}
use Rattle.rtm_model.specs.inner.Applies.{CanExecute, IsDormant}
use Rattle.rtm_model.specs.Births.{new_estai}
use Rattle.rtm_model.specs.Blocks.{newest_bracket}
use Rattle.rtm_model.specs.Chains.{inherited_estais}
use Rattle.rtm_model.specs.Ending.{AreBornBefore, AreHeldBefore, Holdings, IsHeldBefore, no_holdings}
use Rattle.rtm_model.specs.Limits.{most_estais}
use Rattle.rtm_model.specs.inner.Soundness.{AreHeld, AreHoldings, HoldingsFall, IsSound}
use Rattle.rtm_model.specs.World.{Core, UnitOfWork, World, core_at, on_unit, unborn_unit, unit_at}
use Rattle.rtm_model.proofs.Lists.{below_length, both_true}
use Rattle.rtm_law_sound_region.proofs.Beyond.{AddsToTask}
use Rattle.rtm_system_unit.proofs.Inheriting.{can_inherit}
use Rattle.rtm_law_sound_units.proofs.CoresKeep.{still_unborn}
use Rattle.rtm_system_world.specs.Beyond.{CanBeAttached, CanBeBorn, CanGoBeyond}

earlier : (n m : ℕ) (held : List Holding) → m < n → AreBornBefore m held → AreBornBefore n held
earlier n m [] h a = tt
earlier n m (holding ∷ held) h a = (omega (arith, a.0), earlier n m held h a.1)

-- what falls was born before
fall_before : (n : ℕ) (held : List Holding) → HoldingsFall n held → AreBornBefore n held
fall_before n [] f = tt
fall_before n (holding ∷ held) f = (f.0, earlier n holding.born held f.0 (fall_before holding.born held f.1))

held_before : (n owner : ℕ) (held : Holdings) → AreHoldings n owner held → IsHeldBefore n held
held_before n owner held a = record {
  enq = fall_before n held.enq (AreHeld.fall a.enq);
  stor = fall_before n held.stor (AreHeld.fall a.stor);
  dsn = fall_before n held.dsn (AreHeld.fall a.dsn);
  timr = fall_before n held.timr (AreHeld.fall a.timr);
}

shifted : (n k u : ℕ) (owners : List Holdings) → AreHoldings n (k + suc u) (get_or owners u no_holdings) → AreHoldings n (k + 1 + u) (get_or owners u no_holdings)
shifted n k u owners a = let e : k + suc u ≡ k + 1 + u = omega arith in subst (λ (o : ℕ). AreHoldings n o (get_or owners u no_holdings)) e a

from_zero : (n u : ℕ) (owners : List Holdings) → AreHoldings n u (get_or owners u no_holdings) → AreHoldings n (0 + u) (get_or owners u no_holdings)
from_zero n u owners a = let e : u ≡ 0 + u = omega arith in subst (λ (o : ℕ). AreHoldings n o (get_or owners u no_holdings)) e a

all_before : (n k : ℕ) (owners : List Holdings) → ((u : ℕ) → AreHoldings n (k + u) (get_or owners u no_holdings)) → AreHeldBefore n owners
all_before n k [] h = tt
all_before n k (held ∷ owners) h = (held_before n (k + 0) held (h 0), all_before n (k + 1) owners (λ u. shifted n k u owners (h (suc u))))

pub holdings_before : (d : DeckView) (n : ℕ) (w : World) → IsSound d n w → AreHeldBefore n w.holdings
holdings_before d n w s = all_before n 0 w.holdings (λ u. from_zero n u w.holdings (s.holdings u))

-- ---- a card, after the change of its own unit
abbrev pub own_after : World → ℕ → (UnitOfWork → UnitOfWork) → World
own_after w u f = record w { units = on_unit u f w.units }

-- what the card's own unit had before, and what it leaves of its ESTAI routines
pub record Changes (w : World) (u : ℕ) (f : UnitOfWork → UnitOfWork) : Type 0 where
  pub here : u < length w.units
  pub some : 1 ≤ length (newest_bracket (Core.blocks (core_at u w)))
  pub estais : Core.estais (UnitOfWork.core (f (unit_at u w.units))) ≡ Core.estais (core_at u w)

same_estais : (w : World) (u : ℕ) (f : UnitOfWork → UnitOfWork) → Changes w u f → Core.estais (core_at u (own_after w u f)) ≡ Core.estais (core_at u w)
same_estais w u f c = ap (λ (x : UnitOfWork). Core.estais (UnitOfWork.core x)) (get_or-set_same w.units u (f (unit_at u w.units)) unborn_unit c.here) ∙ c.estais

length_after : (w : World) (u : ℕ) (f : UnitOfWork → UnitOfWork) → length (World.units (own_after w u f)) ≡ length w.units
length_after w u f = length-set w.units u (f (unit_at u w.units))

none : 1 ≤ length (newest_bracket (Core.blocks (UnitOfWork.core unborn_unit))) → ⊥
none h = omega arith

-- a dormant unit is another than the card's
other_unit : (d : DeckView) (n : ℕ) (w : World) (u unit : ℕ) → IsSound d n w → unit < length d.units → IsDormant w unit → 1 ≤ length (newest_bracket (Core.blocks (core_at u w))) → unit ≡ u → ⊥
other_unit d n w u unit s lt dormant some same =
    none (subst (λ (x : UnitOfWork). 1 ≤ length (newest_bracket (Core.blocks (UnitOfWork.core x)))) (subst (λ (k : ℕ). unit_at k w.units ≡ unborn_unit) same (s.dormant unit lt dormant)) some)

born_after : (d : DeckView) (n : ℕ) (w : World) (u unit : ℕ) (f : UnitOfWork → UnitOfWork) → IsSound d n w → Changes w u f → unit < length d.units → IsDormant w unit → CanBeBorn (own_after w u f) unit
born_after d n w u unit f s c lt dormant = record {
  there = omega (arith, length_after w u f, s.units_len);
  unborn_is = still_unborn u unit f w.units (unit == u) refl c.some (s.dormant unit lt dormant);
}

attached_after : (d : DeckView) (n : ℕ) (w : World) (u unit : ℕ) (own : Option Reg) (f : UnitOfWork → UnitOfWork) → IsTrue (is_well_formed d) → IsSound d n w → Changes w u f → unit < length d.units → IsDormant w unit
    → CanBeAttached n (own_after w u f) u unit own
attached_after d n w u unit own f formed s c lt dormant = record {
  born = born_after d n w u unit f s c lt dormant;
  other = other_unit d n w u unit s lt dormant c.some;
  room = subst (λ (l : List Reg). length (inherited_estais own l) ≤ most_estais) (sym (same_estais w u f c)) (can_inherit d n w u unit own formed s lt dormant);
}

in_units : (d : DeckView) (u : ℕ) (p : UnitCard → Bool) (o : Option UnitCard) → slice_get d.units u ≡ o → IsTrue (option_map_or p o false) → u < length d.units
in_units d u p None e there = absurd cc
in_units d u p (Some card) e there = below_length d.units u card e

target_there : (d : DeckView) (n : ℕ) (w : World) (u unit : ℕ) (f : UnitOfWork → UnitOfWork) → IsSound d n w → IsTrue (is_task_in d unit) → unit < length (World.units (own_after w u f))
target_there d n w u unit f s h = omega (arith, length_after w u f, s.units_len, in_units d unit is_task_card (slice_get d.units unit) refl h)

-- the card can be carried out beyond its own unit
pub can_go_beyond : (d : DeckView) (n : ℕ) (w : World) (u rc : ℕ) (lines : List Line) (f : UnitOfWork → UnitOfWork) → IsTrue (is_well_formed d) → IsSound d n w → u ≤ length d.units → Changes w u f
    → (op : Op) → IsTrue (is_op d lines op) → CanExecute w u rc op → AddsToTask d u op → CanGoBeyond d n (own_after w u f) u rc op
can_go_beyond d n w u rc lines f formed s h c (ops.Get class id) fits can adds = record { there = h; few = can; newest = holdings_before d n w s }
can_go_beyond d n w u rc lines f formed s h c (ops.Attachx unit estai term) fits can adds =
    λ zero_is. let abc = both_true _ (is_some estai || not term) fits in
    let task = both_true (is_task_in d unit) (is_program_or_none d estai) abc.0 in
    (attached_after d n w u unit (new_estai n term estai) f formed s c (in_units d unit is_task_card (slice_get d.units unit) refl task.0) (can zero_is), adds)
can_go_beyond d n w u rc lines f formed s h c (ops.Schedule unit) fits can adds =
    λ zero_is. born_after d n w u unit f s c (in_units d unit (λ card. not (is_task_card card)) (slice_get d.units unit) refl fits) (can zero_is)
can_go_beyond d n w u rc lines f formed s h c (ops.Detach unit stae) fits can adds = target_there d n w u unit f s fits
can_go_beyond d n w u rc lines f formed s h c (ops.Abterm unit code reason dump retry) fits can adds =
    let abc = both_true _ (is_reason reason) fits in
    target_there d n w u unit f s (both_true (is_task_in d unit) (is_abend_code code) abc.0).0
can_go_beyond d n w u rc lines f formed s h c (ops.MgrAdd prog space) fits can adds = can
can_go_beyond d n w u rc lines f formed s h c _ fits can adds = tt
