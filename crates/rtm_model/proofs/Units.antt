-- Units after one of them was changed.
use Rattle.std.proofs.Common.{◌≡◌, ℕ, ◌<◌, ◌≤◌, Bool, true, false, List, length, refl, ap, inl, inr, ◌⊎◌, ◌∙◌}
use Rattle.std.proofs.lemmas.Bool.{cases_lt, eqb-false, eqb-true}
use Rattle.std.proofs.lemmas.List.{get_or-set_other, get_or-set_same, length-set, set_past}
use Rattle.std.specs.Prelude.{◌==◌}
use Rattle.rtm_model.specs.World.{UnitOfWork, on_unit, unborn_unit, unit_at}

-- the unit itself, and another one
pub unit_here : (u : ℕ) (f : UnitOfWork → UnitOfWork) (units : List UnitOfWork) → u < length units → unit_at u (on_unit u f units) ≡ f (unit_at u units)
unit_here u f units h = get_or-set_same units u (f (unit_at u units)) unborn_unit h

pub unit_there : (u v : ℕ) (f : UnitOfWork → UnitOfWork) (units : List UnitOfWork) → (v ≡ u → ⊥) → unit_at v (on_unit u f units) ≡ unit_at v units
unit_there u v f units h = get_or-set_other units u v (f (unit_at u units)) unborn_unit h

-- what the change leaves as it is, of each unit
same_if : {A : Type 0} (F : UnitOfWork → A) (f : UnitOfWork → UnitOfWork) → ((unit : UnitOfWork) → F (f unit) ≡ F unit) → (u v : ℕ) (units : List UnitOfWork) (b : Bool) → (v == u) ≡ b → (u < length units) ⊎ (length units ≤ u)
    → F (unit_at v (on_unit u f units)) ≡ F (unit_at v units)
same_if F f h u v units false e w = ap F (unit_there u v f units (eqb-false v u e))
same_if F f h u v units true e (inl within) =
    let same = eqb-true v u e in
    rw same (ap F (unit_here u f units within) ∙ h (unit_at u units))
same_if F f h u v units true e (inr past) = ap (λ (us : List UnitOfWork). F (unit_at v us)) (set_past units u (f (unit_at u units)) past)

pub unit_same : {A : Type 0} (F : UnitOfWork → A) (f : UnitOfWork → UnitOfWork) → ((unit : UnitOfWork) → F (f unit) ≡ F unit) → (u v : ℕ) (units : List UnitOfWork)
    → F (unit_at v (on_unit u f units)) ≡ F (unit_at v units)
unit_same F f h u v units = same_if F f h u v units (v == u) refl (cases_lt u (length units))

pub length-on_unit : (u : ℕ) (f : UnitOfWork → UnitOfWork) (units : List UnitOfWork) → length (on_unit u f units) ≡ length units
length-on_unit u f units = length-set units u (f (unit_at u units))
