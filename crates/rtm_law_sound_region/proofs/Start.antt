-- What lives before the first entry.
use Rattle.std.proofs.Common.{◌≡◌, ℕ, zero, suc, ◌+◌, ◌<◌, true, List, [], ◌∷◌, ◌++◌, length, map, replicate, None, refl, sym, subst, ◌∙◌, arith}
use Rattle.std.proofs.lemmas.List.{length-replicate, length-set}
use Rattle.std.specs.Prelude.{IsTrue}
use Rattle.rtm_deck_items.specs.declared.deck.Unit.{Unit as UnitCard}
use Rattle.rtm_deck_items.specs.Reading.{job_step, program_of}
use Rattle.rtm_deck_items.specs.View.{DeckView}
use Rattle.rtm_deck_items.specs.WellFormed.{is_well_formed}
use Rattle.rtm_model.specs.Ending.{holdings_of, no_holdings}
use Rattle.rtm_model.specs.inner.Soundness.{AreHoldings, born_units}
use Rattle.rtm_model.specs.Tasks.{Dormant, Life, Lives, is_dormant, life_of, lives_at_start}
use Rattle.rtm_model.specs.World.{UnitOfWork, at_birth, on_unit, start, unborn_unit, unit_at}
pub use Rattle.rtm_model.proofs.Start.{job_step_in}
use Rattle.rtm_model.proofs.Start.{all_dormant, all_unborn, length-dormant, length-unborn}
use Rattle.rtm_law_sound_region.proofs.AllUnits.{AreUnits}
use Rattle.rtm_law_sound_region.proofs.Lists.{both_each_set}
use Rattle.rtm_law_sound_region.proofs.Lives.{counted_birth, unit_born}
use Rattle.rtm_law_sound_region.proofs.Owners.{AreOwners}
use Rattle.rtm_law_sound_region.proofs.Pending.{none_pending}
use Rattle.rtm_law_sound_region.proofs.Region.{RegionIsSound, fields}
use Rattle.rtm_law_sound_region.proofs.Units.{IsUnitSound}
use Rattle.rtm_law_sound_region.proofs.Worlds.{IsRegion}

-- Units

none_born : (cards : List UnitCard) → born_units (map (λ unit. Dormant) cards) ≡ 0
none_born [] = refl
none_born (card ∷ cards) = none_born cards

unit_before : (m v : ℕ) → IsUnitSound m 0 1 v Dormant unborn_unit
unit_before m v = record {
  blocks = refl;
  dormant = λ lt dormant. refl;
  estais = omega arith;
  pending = none_pending 0;
  quiet = λ down. refl;
  outermost = λ master down. refl;
}

-- of whatever life and control blocks, where they are those
unit_if : (m v : ℕ) (life : Life) (unit : UnitOfWork) → life ≡ Dormant → unit ≡ unborn_unit → IsUnitSound m 0 1 v life unit
unit_if m v life unit e f =
    subst (λ (x : Life). IsUnitSound m 0 1 v x unit) (sym e) (subst (λ (x : UnitOfWork). IsUnitSound m 0 1 v Dormant x) (sym f) (unit_before m v))

-- one of them is born
first_born : (d : DeckView) (job prog : ℕ) → job < length d.units
    → AreUnits d 0 (on_unit job (at_birth 0 prog []) (map (λ card. unborn_unit) d.units ++ unborn_unit ∷ [])) (lives_at_start d.units job)
first_born d job prog lt =
    let units = map (λ (card : UnitCard). unborn_unit) d.units ++ unborn_unit ∷ [] in
    let lives = map (λ (card : UnitCard). Dormant) d.units in
    let inside : job < length lives = omega (arith, length-dormant d.units) in
    let there : job < length units = omega (arith, length-unborn d.units) in
    let dormant : is_dormant (life_of job lives) ≡ true = rw (all_dormant d.units job) refl in
    let one : born_units (lives_at_start d.units job) ≡ 1 = omega (arith, counted_birth None lives job inside dormant, none_born d.units) in
    record {
      units_len = length-set units job _ ∙ length-unborn d.units;
      lives_len = length-set lives job (Lives None) ∙ length-dormant d.units;
      each = rw one
          (both_each_set (IsUnitSound (length d.units) 0 1) Dormant unborn_unit lives units job (Lives None) _ inside there
          (λ v. unit_if (length d.units) v (life_of v lives) (unit_at v units) (all_dormant d.units v) (all_unborn d.units v))
          (unit_born (length d.units) 0 1 job 0 prog [] None (unit_at job units) (all_unborn d.units job) (omega arith)));
    }

-- Holdings

none_held : (n v : ℕ) → holdings_of v (replicate n no_holdings) ≡ no_holdings
none_held zero v = refl
none_held (suc n) zero = refl
none_held (suc n) (suc v) = none_held n v

holdings_before : (v : ℕ) → AreHoldings 0 v no_holdings
holdings_before v = record {
  few = omega arith;
  enq = record { each = tt; fall = tt };
  stor = record { each = tt; fall = tt };
  dsn = record { each = tt; fall = tt };
  timr = record { each = tt; fall = tt };
}

owners_before : (m : ℕ) → AreOwners m 0 (replicate (m + 1) no_holdings)
owners_before m = record {
  owners_len = length-replicate (m + 1) no_holdings;
  each = λ v. subst (AreHoldings 0 v) (sym (none_held (m + 1) v)) (holdings_before v);
}

-- All

region_before : (d : DeckView) → IsTrue (is_well_formed d) → IsRegion d 0 (start d)
region_before d h = record {
  units = first_born d (job_step d) (program_of d (job_step d)) (job_step_in d h);
  owners = owners_before (length d.units);
  managers = record { few = omega arith; each = tt; fall = tt };
  memory_end = tt;
}

-- before the first entry
pub region_at_start : (d : DeckView) → IsTrue (is_well_formed d) → RegionIsSound d 0 (start d)
region_at_start d h = fields d 0 (start d) (region_before d h)
