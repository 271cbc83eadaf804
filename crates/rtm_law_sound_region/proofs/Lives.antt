-- A unit is born, ends, or is purged.
use Rattle.std.proofs.Common.{◌≡◌, ℕ, zero, suc, ◌+◌, ◌<◌, Bool, true, false, ◌&&◌, List, [], ◌∷◌, length, set, Option, refl, sym, subst, arith}
use Rattle.std.specs.Prelude.{is_none}
use Rattle.rtm_model.specs.declared.reg.Reg.{Reg}
use Rattle.rtm_model.specs.Advance.{purged_core}
use Rattle.rtm_model.specs.inner.Soundness.{born_units}
use Rattle.rtm_model.specs.Tasks.{Dormant, HasEnded, Life, Lives, ended_life, is_dormant, is_living, life_of, with_end}
use Rattle.rtm_model.specs.World.{Core, UnitOfWork, at_birth, unborn_unit}
use Rattle.rtm_law_sound_region.proofs.Pending.{none_pending}
use Rattle.rtm_law_sound_region.proofs.Units.{IsUnitSound, is_up, living_not_dormant}

-- how many units were born

-- one more
pub counted_birth : (mother : Option ℕ) (lives : List Life) (unit : ℕ) → unit < length lives → is_dormant (life_of unit lives) ≡ true → born_units (set lives unit (Lives mother)) ≡ born_units lives + 1
counted_birth mother [] unit lt h = absurd (omega arith)
counted_birth mother (Dormant ∷ lives) zero lt h = omega arith
counted_birth mother (Lives other ∷ lives) zero lt h = absurd cc
counted_birth mother (HasEnded other ∷ lives) zero lt h = absurd cc
counted_birth mother (Dormant ∷ lives) (suc unit) lt h = counted_birth mother lives unit (omega arith) h
counted_birth mother (Lives other ∷ lives) (suc unit) lt h = omega (arith, counted_birth mother lives unit (omega arith) h)
counted_birth mother (HasEnded other ∷ lives) (suc unit) lt h = omega (arith, counted_birth mother lives unit (omega arith) h)

-- no more
pub counted_end : (lives : List Life) (unit : ℕ) → born_units (with_end unit lives) ≡ born_units lives
counted_end [] unit = refl
counted_end (Dormant ∷ lives) zero = refl
counted_end (Lives mother ∷ lives) zero = refl
counted_end (HasEnded mother ∷ lives) zero = refl
counted_end (Dormant ∷ lives) (suc unit) = counted_end lives unit
counted_end (Lives mother ∷ lives) (suc unit) = omega (arith, counted_end lives unit)
counted_end (HasEnded mother ∷ lives) (suc unit) = omega (arith, counted_end lives unit)

-- the unit

-- it is born
pub unit_born : (m n born v birth prog : ℕ) (estais : List Reg) (mother : Option ℕ) (unit : UnitOfWork) → unit ≡ unborn_unit → length estais < born
    → IsUnitSound m n born v (Lives mother) (at_birth birth prog estais unit)
unit_born m n born v birth prog estais mother unit e few =
    subst (λ (x : UnitOfWork). IsUnitSound m n born v (Lives mother) (at_birth birth prog estais x)) (sym e) (record {
      blocks = refl;
      dormant = λ lt dormant. absurd cc;
      estais = few;
      pending = none_pending n;
      quiet = λ down. refl;
      outermost = λ master down. refl;
    })

ended_not_living : (life : Life) → is_living (ended_life life) ≡ false
ended_not_living Dormant = refl
ended_not_living (Lives mother) = refl
ended_not_living (HasEnded mother) = refl

ended_as_dormant : (life : Life) → is_dormant (ended_life life) ≡ is_dormant life
ended_as_dormant Dormant = refl
ended_as_dormant (Lives mother) = refl
ended_as_dormant (HasEnded mother) = refl

down_after : (life : Life) (b : Bool) → (is_living (ended_life life) && b) ≡ false
down_after life b = rw (ended_not_living life)

-- it has ended, after it had begun to end
pub unit_ended : (m n born v : ℕ) (life : Life) (unit : UnitOfWork) → is_up life unit.core ≡ false → IsUnitSound m n born v life unit
    → IsUnitSound m n born v (ended_life life) unit
unit_ended m n born v life unit down s = record {
  blocks = rw (down_after life (is_none (Core.begun unit.core))) (rw down at s.blocks);
  dormant = λ lt dormant. s.dormant lt (rw (← ended_as_dormant life) dormant);
  estais = s.estais;
  pending = s.pending;
  quiet = λ e. s.quiet down;
  outermost = λ master e. s.outermost master down;
}

-- it is purged
pub unit_purged : (m n born v : ℕ) (life : Life) (unit : UnitOfWork) → is_living life ≡ true → IsUnitSound m n born v life unit
    → IsUnitSound m n born v (ended_life life) (record unit { core = purged_core unit.core; pending = [] })
unit_purged m n born v life unit lives s = record {
  blocks = rw (down_after life (is_none (Core.begun unit.core))) refl;
  dormant = λ lt dormant. absurd (living_not_dormant life (rw (← ended_as_dormant life) dormant) lives);
  estais = omega (arith, s.estais);
  pending = none_pending n;
  quiet = λ e. refl;
  outermost = λ master e. refl;
}
