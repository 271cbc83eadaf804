-- What the world keeps of what all units share, after each entry that can be applied.
use Rattle.std.proofs.Common.{◌≡◌, ℕ, ◌+◌, ◌<◌, ◌≤◌, true, false, [], length, refl, sym, subst, arith}
use Rattle.std.proofs.lemmas.List.{get_or_past}
use Rattle.std.specs.Prelude.{IfSome, IsTrue, if◌then◌else◌}
use Rattle.std.specs.List.{AllByRecursion}
use Rattle.rtm_codes.specs.Code.{IsInRange}
use Rattle.rtm_deck_items.specs.View.{DeckView}
use Rattle.rtm_deck_items.specs.WellFormed.{is_well_formed}
use Rattle.rtm_model.specs.declared.entry.Entry.{Entry}
use Rattle.rtm_model.specs.declared.entry.What.{What}
use Rattle.rtm_model.specs.declared.entry.What.TheVariants as whats
use Rattle.rtm_model.specs.inner.Applies.{CanApply}
use Rattle.rtm_model.specs.Limits.{most_managers}
use Rattle.rtm_model.specs.OwnChange.{own_change}
use Rattle.rtm_model.specs.Advance.{advance}
use Rattle.rtm_model.specs.Ending.{holdings_of}
use Rattle.rtm_model.specs.inner.Soundness.{AreHoldings, ArePending, IsCoreSound, IsManager, IsSound, ManagersFall, OutermostQuiet, born_units, stands}
use Rattle.rtm_model.specs.Tasks.{Dormant, Tree, is_dormant, life_of}
use Rattle.rtm_model.specs.World.{Core, UnitOfWork, World, core_at, lives_in, master, on_unit, unborn_unit, unit_at}
use Rattle.rtm_law_sound_region.proofs.AllUnits.{AreUnits, units_changed, units_later}
use Rattle.rtm_law_sound_region.proofs.Beyond.{AddsManagers, HasCard, entry_beyond}
use Rattle.rtm_law_sound_region.proofs.Cards.{card_at}
use Rattle.rtm_law_sound_region.proofs.Entries.{own_kept}
use Rattle.rtm_law_sound_region.proofs.Managers.{AreManagers, managers_later}
use Rattle.rtm_law_sound_region.proofs.Owners.{AreOwners, owners_later}
use Rattle.rtm_law_sound_region.proofs.Units.{IsUnitSound}
use Rattle.rtm_law_sound_region.proofs.Worlds.{IsRegion}

-- the fields of IsSound, but for a unit's own control blocks
pub record RegionIsSound (d : DeckView) (n : ℕ) (w : World) : Type 0 where
  pub units_len : length w.units ≡ length d.units + 1
  pub lives_len : length (Tree.lives w.tree) ≡ length d.units
  pub owners_len : length w.holdings ≡ length d.units + 1
  pub blocks : (u : ℕ) → length (Core.blocks (core_at u w)) + (if stands w u then 0 else 1) ≡ length (Core.levels (core_at u w))
  pub master_quiet : OutermostQuiet (Core.levels (core_at (master d) w))
  pub dormant : (u : ℕ) → u < length d.units → is_dormant (life_of u (Tree.lives w.tree)) ≡ true → unit_at u w.units ≡ unborn_unit
  pub estais : (u : ℕ) → length (Core.estais (core_at u w)) < born_units (Tree.lives w.tree)
  pub pending : (u : ℕ) → ArePending n (UnitOfWork.pending (unit_at u w.units))
  pub quiet : (u : ℕ) → stands w u ≡ false → UnitOfWork.pending (unit_at u w.units) ≡ []
  pub holdings : (u : ℕ) → AreHoldings n u (holdings_of u w.holdings)
  pub managers_few : length w.managers ≤ most_managers
  pub managers : AllByRecursion (IsManager d) w.managers
  pub managers_fall : ManagersFall n w.managers
  pub memory_end : IfSome w.memory_end IsInRange

-- What an entry needs besides: that its unit lives, or is the master; and that the master adds no resource manager
pub record CanAct (d : DeckView) (w : World) (e : Entry) : Type 0 where
  pub lives : e.unit < length d.units → lives_in w e.unit ≡ true
  pub adds : AddsManagers d e.unit e.what

-- the record of all units, and of what they share

of_units : (d : DeckView) (n : ℕ) (w : World) → IsSound d n w → AreUnits d n w.units (Tree.lives w.tree)
of_units d n w s = record {
  units_len = s.units_len;
  lives_len = s.lives_len;
  each = λ v. record {
    blocks = s.blocks v;
    dormant = s.dormant v;
    estais = s.estais v;
    pending = s.pending v;
    quiet = s.quiet v;
    outermost = λ e down. subst (λ (k : ℕ). OutermostQuiet (Core.levels (core_at k w))) (sym e) s.master_quiet;
  };
}

of_owners : (d : DeckView) (n : ℕ) (w : World) → IsSound d n w → AreOwners (length d.units) n w.holdings
of_owners d n w s = record { owners_len = s.owners_len; each = s.holdings }

of_managers : (d : DeckView) (n : ℕ) (w : World) → IsSound d n w → AreManagers d n w.managers
of_managers d n w s = record { few = s.managers_few; each = s.managers; fall = s.managers_fall }

-- the master doesn't stand, for nobody asks whether it lives
master_down : (d : DeckView) (w : World) → length (Tree.lives w.tree) ≡ length d.units → stands w (master d) ≡ false
master_down d w e = rw (get_or_past (Tree.lives w.tree) (length d.units) Dormant (omega arith)) refl

-- field by field
pub fields : (d : DeckView) (n : ℕ) (w : World) → IsRegion d n w → RegionIsSound d n w
fields d n w r = record {
  units_len = r.units.units_len;
  lives_len = r.units.lives_len;
  owners_len = r.owners.owners_len;
  blocks = λ u. IsUnitSound.blocks (AreUnits.each r.units u);
  master_quiet = IsUnitSound.outermost (AreUnits.each r.units (master d)) refl (master_down d w r.units.lives_len);
  dormant = λ u. IsUnitSound.dormant (AreUnits.each r.units u);
  estais = λ u. IsUnitSound.estais (AreUnits.each r.units u);
  pending = λ u. IsUnitSound.pending (AreUnits.each r.units u);
  quiet = λ u. IsUnitSound.quiet (AreUnits.each r.units u);
  holdings = r.owners.each;
  managers_few = r.managers.few;
  managers = r.managers.each;
  managers_fall = r.managers.fall;
  memory_end = r.memory_end;
}

-- One entry

has_card : (d : DeckView) (what : What) → IsTrue (is_well_formed d) → HasCard d what
has_card d (whats.Exec at rc) h = card_at d h at.prog at.op
has_card d _ h = tt

own_region : (d : DeckView) (n : ℕ) (w : World) (e : Entry) → IsSound d n w → CanApply d w e → CanAct d w e
    → IsRegion d (n + 1) (record w { units = on_unit e.unit (own_change d n w.managers e.what) w.units })
own_region d n w e s can act =
    let units = units_later d n w.units (Tree.lives w.tree) (of_units d n w s) in
    record {
      units = units_changed d (n + 1) w.units (Tree.lives w.tree) e.unit (own_change d n w.managers e.what) units
          (own_kept d n (length d.units) (born_units (Tree.lives w.tree)) w e.unit e.what can.what act.lives (AreUnits.each units e.unit));
      owners = owners_later (length d.units) n w.holdings (of_owners d n w s);
      managers = managers_later d n w.managers (of_managers d n w s);
      memory_end = s.memory_end;
    }

region_after : (d : DeckView) (n : ℕ) (w : World) (e : Entry) → IsTrue (is_well_formed d) → IsSound d n w → CanApply d w e → CanAct d w e
    → IsRegion d (n + 1) (advance d w n e)
region_after d n w e h s can act =
    entry_beyond d n e.unit e.what w (has_card d e.what h) act.adds can.what act.lives (IsCoreSound.begun (s.cores e.unit))
    (of_owners d n w s) (of_managers d n w s) (own_region d n w e s can act)

-- an entry that can be applied keeps it
pub region_kept : (d : DeckView) (n : ℕ) (w : World) (e : Entry) → IsTrue (is_well_formed d) → IsSound d n w → CanApply d w e → CanAct d w e
    → RegionIsSound d (n + 1) (advance d w n e)
region_kept d n w e h s can act = fields d (n + 1) (advance d w n e) (region_after d n w e h s can act)
