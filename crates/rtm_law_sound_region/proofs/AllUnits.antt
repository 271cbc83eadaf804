-- What all units keep, after a change of one or of several.
use Rattle.std.proofs.Common.{◌≡◌, ℕ, ◌+◌, ◌<◌, ◌≤◌, Bool, true, false, List, [], length, set, Option, sym, subst, ◌∙◌, arith}
use Rattle.std.proofs.lemmas.Bool.{cond-true}
use Rattle.std.proofs.lemmas.List.{length-set}
use Rattle.rtm_deck_items.specs.View.{DeckView}
use Rattle.rtm_model.specs.declared.abort.Abort.{Abort}
use Rattle.rtm_model.specs.declared.reg.Reg.{Reg}
use Rattle.rtm_model.specs.Posts.{post_to_subtasks, with_posted}
use Rattle.rtm_model.specs.Advance.{purged_core}
use Rattle.rtm_model.specs.inner.Soundness.{born_units}
use Rattle.rtm_model.specs.Tasks.{Dormant, Life, Lives, ended_life, is_dormant, is_living, life_of, with_birth, with_end}
use Rattle.rtm_model.specs.World.{UnitOfWork, at_birth, on_unit, unborn_unit, unit_at}
use Rattle.rtm_model.proofs.Lists.{each_set}
use Rattle.rtm_law_sound_region.proofs.Lists.{both_each_set}
use Rattle.rtm_law_sound_region.proofs.Lives.{counted_birth, counted_end, unit_born, unit_ended, unit_purged}
use Rattle.rtm_law_sound_region.proofs.Posted.{IsPosted, length_subtasks, subtasks_posted, unit_posted}
use Rattle.rtm_law_sound_region.proofs.Units.{IsUnitSound, is_up, unit_later, unit_more}

pub record AreUnits (d : DeckView) (n : ℕ) (units : List UnitOfWork) (lives : List Life) : Type 0 where
  pub units_len : length units ≡ length d.units + 1
  pub lives_len : length lives ≡ length d.units
  pub each : (v : ℕ) → IsUnitSound (length d.units) n (born_units lives) v (life_of v lives) (unit_at v units)

-- one more entry
pub units_later : (d : DeckView) (n : ℕ) (units : List UnitOfWork) (lives : List Life) → AreUnits d n units lives → AreUnits d (n + 1) units lives
units_later d n units lives s = record {
  units_len = s.units_len;
  lives_len = s.lives_len;
  each = λ v. unit_later (length d.units) n (born_units lives) v (life_of v lives) (unit_at v units) (s.each v);
}

-- one unit is changed
pub units_changed : (d : DeckView) (n : ℕ) (units : List UnitOfWork) (lives : List Life) (u : ℕ) (f : UnitOfWork → UnitOfWork) → AreUnits d n units lives
    → IsUnitSound (length d.units) n (born_units lives) u (life_of u lives) (f (unit_at u units)) → AreUnits d n (on_unit u f units) lives
units_changed d n units lives u f s here = record {
  units_len = length-set units u (f (unit_at u units)) ∙ s.units_len;
  lives_len = s.lives_len;
  each = each_set (λ (v : ℕ) (unit : UnitOfWork). IsUnitSound (length d.units) n (born_units lives) v (life_of v lives) unit) unborn_unit units u (f (unit_at u units)) s.each here;
}

-- an abort is posted to one
pub units_posted : (d : DeckView) (n : ℕ) (units : List UnitOfWork) (lives : List Life) (u : ℕ) (late : Bool) (abort : Abort)
    → (late ≡ false → is_up (life_of u lives) (UnitOfWork.core (unit_at u units)) ≡ true) → IsPosted n abort
    → AreUnits d (n + 1) units lives → AreUnits d (n + 1) (on_unit u (with_posted late abort) units) lives
units_posted d n units lives u late abort stands p s =
    units_changed d (n + 1) units lives u (with_posted late abort) s
    (unit_posted late (length d.units) n (born_units lives) u (life_of u lives) (unit_at u units) abort stands p (s.each u))

-- and to the subtasks of one
pub units_subtasks : (d : DeckView) (n : ℕ) (units : List UnitOfWork) (lives : List Life) (u : ℕ) (abort : Abort) → IsPosted n abort
    → AreUnits d (n + 1) units lives → AreUnits d (n + 1) (post_to_subtasks u abort lives units) lives
units_subtasks d n units lives u abort p s = record {
  units_len = length_subtasks u abort lives units ∙ s.units_len;
  lives_len = s.lives_len;
  each = λ v. subtasks_posted (length d.units) n (born_units lives) u abort lives units v p (s.each v);
}

-- one is born
set_born : (d : DeckView) (n : ℕ) (units : List UnitOfWork) (lives : List Life) (unit birth prog : ℕ) (mother : Option ℕ) (estais : List Reg)
    → unit < length d.units → is_dormant (life_of unit lives) ≡ true → length estais ≤ born_units lives
    → AreUnits d n units lives → AreUnits d n (on_unit unit (at_birth birth prog estais) units) (set lives unit (Lives mother))
set_born d n units lives unit birth prog mother estais lt dormant few s =
    let inside : unit < length lives = omega (arith, s.lives_len) in
    let there : unit < length units = omega (arith, s.units_len) in
    record {
      units_len = length-set units unit _ ∙ s.units_len;
      lives_len = length-set lives unit (Lives mother) ∙ s.lives_len;
      each = rw (counted_birth mother lives unit inside dormant)
          (both_each_set (IsUnitSound (length d.units) n (born_units lives + 1)) Dormant unborn_unit lives units unit (Lives mother) _ inside there
          (λ v. unit_more (length d.units) n (born_units lives) v (life_of v lives) (unit_at v units) (s.each v))
          (unit_born (length d.units) n (born_units lives + 1) unit birth prog estais mother (unit_at unit units) (IsUnitSound.dormant (s.each unit) lt dormant) (omega arith)));
    }

pub units_born : (d : DeckView) (n : ℕ) (units : List UnitOfWork) (lives : List Life) (unit birth prog : ℕ) (mother : Option ℕ) (estais : List Reg)
    → unit < length d.units → is_dormant (life_of unit lives) ≡ true → length estais ≤ born_units lives
    → AreUnits d n units lives → AreUnits d n (on_unit unit (at_birth birth prog estais) units) (with_birth mother unit lives)
units_born d n units lives unit birth prog mother estais lt dormant few s =
    let e : with_birth mother unit lives ≡ set lives unit (Lives mother) = cond-true (is_dormant (life_of unit lives)) (set lives unit (Lives mother)) lives dormant in
    subst (λ (x : List Life). AreUnits d n (on_unit unit (at_birth birth prog estais) units) x) (sym e)
    (set_born d n units lives unit birth prog mother estais lt dormant few s)

-- one that has begun to end has ended
pub units_ended : (d : DeckView) (n : ℕ) (units : List UnitOfWork) (lives : List Life) (u : ℕ) → is_up (life_of u lives) (UnitOfWork.core (unit_at u units)) ≡ false
    → AreUnits d n units lives → AreUnits d n units (with_end u lives)
units_ended d n units lives u down s = record {
  units_len = s.units_len;
  lives_len = length-set lives u _ ∙ s.lives_len;
  each = rw (counted_end lives u)
      (each_set (λ (v : ℕ) (life : Life). IsUnitSound (length d.units) n (born_units lives) v life (unit_at v units)) Dormant lives u (ended_life (life_of u lives)) s.each
      (unit_ended (length d.units) n (born_units lives) u (life_of u lives) (unit_at u units) down (s.each u)));
}

-- one that lives is purged
pub units_purged : (d : DeckView) (n : ℕ) (units : List UnitOfWork) (lives : List Life) (u : ℕ) → u < length d.units → is_living (life_of u lives) ≡ true
    → AreUnits d n units lives → AreUnits d n (on_unit u (λ unit. record unit { core = purged_core unit.core; pending = [] }) units) (with_end u lives)
units_purged d n units lives u lt living s =
    let inside : u < length lives = omega (arith, s.lives_len) in
    let there : u < length units = omega (arith, s.units_len) in
    record {
      units_len = length-set units u _ ∙ s.units_len;
      lives_len = length-set lives u _ ∙ s.lives_len;
      each = rw (counted_end lives u)
          (both_each_set (IsUnitSound (length d.units) n (born_units lives)) Dormant unborn_unit lives units u (ended_life (life_of u lives)) _ inside there s.each
          (unit_purged (length d.units) n (born_units lives) u (life_of u lives) (unit_at u units) living (s.each u)));
    }
