-- What all units share keeps, after each of the changes that an entry makes beyond its own unit.
use Rattle.std.proofs.Common.{◌≡◌, ℕ, ◌+◌, ◌<◌, ◌≤◌, Bool, true, false, cond, ◌&&◌, List, [], length, Option, Some, None, refl, arith}
use Rattle.std.specs.Prelude.{IfSome, is_none, ◌==◌}
use Rattle.rtm_codes.specs.declared.code.Code.{Code}
use Rattle.rtm_codes.specs.Code.{IsInRange}
use Rattle.rtm_deck_items.specs.Reading.{job_step, program_of}
use Rattle.rtm_deck_items.specs.View.{DeckView}
use Rattle.rtm_deck_items.specs.declared.deck.Command.{Command}
use Rattle.rtm_model.specs.declared.abort.Abort.{Abort}
use Rattle.rtm_model.specs.declared.error_record.ErrorRecord.{ErrorRecord}
use Rattle.rtm_model.specs.declared.reg.Reg.{Reg}
use Rattle.rtm_model.specs.Births.{block_birth, new_estai}
use Rattle.rtm_model.specs.Posts.{cancel_abort, post_related, post_step, post_to, srb_abort, step_abort}
use Rattle.rtm_model.specs.Advance.{after_arrival, after_attach, after_done, after_purge, cause_of, count_arrival, memory_end_after, with_unit, without_living}
use Rattle.rtm_model.specs.Chains.{inherited_estais}
use Rattle.rtm_model.specs.Surroundings.{is_late}
use Rattle.rtm_model.specs.inner.Soundness.{IsRecord, born_units}
use Rattle.rtm_model.specs.Tasks.{Life, Tree, is_dormant, life_of}
use Rattle.rtm_model.specs.World.{Beginning, Core, UnitOfWork, World, core_at, lives_in, related_task, unit_at}
use Rattle.rtm_law_sound_region.proofs.Aborts.{cancel_posted, srb_posted, step_posted}
use Rattle.rtm_law_sound_region.proofs.AllUnits.{AreUnits, units_born, units_changed, units_ended, units_posted, units_purged}
use Rattle.rtm_law_sound_region.proofs.Entries.{LivesBelow}
use Rattle.rtm_law_sound_region.proofs.Managers.{AreManagers, managers_filtered}
use Rattle.rtm_law_sound_region.proofs.Owners.{AreOwners}
use Rattle.rtm_law_sound_region.proofs.Posted.{IsPosted, on_time}
use Rattle.rtm_law_sound_region.proofs.Units.{IsUnitSound, living_not_dormant}

-- all but the units' own control blocks
pub record IsRegion (d : DeckView) (n : ℕ) (w : World) : Type 0 where
  pub units : AreUnits d n w.units (Tree.lives w.tree)
  pub owners : AreOwners (length d.units) n w.holdings
  pub managers : AreManagers d n w.managers
  pub memory_end : IfSome w.memory_end IsInRange

-- an abort is posted
pub region_posted : (d : DeckView) (n u : ℕ) (abort : Abort) (w : World) → IsPosted n abort → IsRegion d (n + 1) w → IsRegion d (n + 1) (post_to u abort w)
region_posted d n u abort w p r = record {
  units = units_posted d n w.units (Tree.lives w.tree) u (is_late w u) abort (on_time (lives_in w u) (Core.begun (core_at u w))) p r.units;
  owners = r.owners;
  managers = r.managers;
  memory_end = r.memory_end;
}

-- a command arrives

unit_counted : (m n born v : ℕ) (life : Life) (unit : UnitOfWork) → LivesBelow m v life → IsUnitSound m n born v life unit
    → IsUnitSound m n born v life (record unit { arrived = unit.arrived + 1 })
unit_counted m n born v life unit lives s = record {
  blocks = s.blocks;
  dormant = λ lt dormant. absurd (living_not_dormant life dormant (lives lt));
  estais = s.estais;
  pending = s.pending;
  quiet = s.quiet;
  outermost = s.outermost;
}

region_counted : (d : DeckView) (n u : ℕ) (w : World) → LivesBelow (length d.units) u (life_of u (Tree.lives w.tree)) → IsRegion d n w → IsRegion d n (count_arrival u w)
region_counted d n u w lives r = record {
  units = units_changed d n w.units (Tree.lives w.tree) u (λ unit. record unit { arrived = unit.arrived + 1 }) r.units
      (unit_counted (length d.units) n (born_units (Tree.lives w.tree)) u (life_of u (Tree.lives w.tree)) (unit_at u w.units) lives (AreUnits.each r.units u));
  owners = r.owners;
  managers = r.managers;
  memory_end = r.memory_end;
}

pub region_arrived : (d : DeckView) (n u : ℕ) (o : Option Command) (w : World) → LivesBelow (length d.units) u (life_of u (Tree.lives w.tree)) → IsRegion d (n + 1) w
    → IsRegion d (n + 1) (after_arrival n u o w)
region_arrived d n u None w lives r = r
region_arrived d n u (Some command) w lives r =
    region_counted d (n + 1) u (post_to u (cancel_abort n command.dump) w) lives
    (region_posted d n u (cancel_abort n command.dump) w (cancel_posted n command.dump) r)

-- a unit is born
region_born : (d : DeckView) (n k unit : ℕ) (mother : Option ℕ) (estais : List Reg) (w : World) → unit < length d.units → is_dormant (life_of unit (Tree.lives w.tree)) ≡ true
    → length estais ≤ born_units (Tree.lives w.tree) → IsRegion d n w → IsRegion d n (with_unit d k unit mother estais w)
region_born d n k unit mother estais w lt dormant few r = record {
  units = units_born d n w.units (Tree.lives w.tree) unit (block_birth k) (program_of d unit) mother estais lt dormant few r.units;
  owners = r.owners;
  managers = r.managers;
  memory_end = r.memory_end;
}

inherited_few : (o : Option Reg) (mother : List Reg) (born : ℕ) → length mother < born → length (inherited_estais o mother) ≤ born
inherited_few None mother born lt = omega arith
inherited_few (Some own) mother born lt = omega arith

pub region_attached : (d : DeckView) (n k u unit : ℕ) (estai : Option ℕ) (term : Bool) (w : World) → unit < length d.units
    → is_dormant (life_of unit (Tree.lives w.tree)) ≡ true → IsRegion d n w → IsRegion d n (after_attach d k u unit estai term w)
region_attached d n k u unit estai term w lt dormant r =
    region_born d n k unit (Some u) _ w lt dormant
    (inherited_few (new_estai k term estai) (Core.estais (core_at u w)) (born_units (Tree.lives w.tree)) (IsUnitSound.estais (AreUnits.each r.units u))) r

pub region_scheduled : (d : DeckView) (n k unit : ℕ) (w : World) → unit < length d.units
    → is_dormant (life_of unit (Tree.lives w.tree)) ≡ true → IsRegion d n w → IsRegion d n (with_unit d k unit None [] w)
region_scheduled d n k unit w lt dormant r = region_born d n k unit None [] w lt dormant (omega arith) r

-- a unit has ended

-- it had begun to end with that code
abbrev pub BeganWith : Code → Option Beginning → Type 0
BeganWith code None = ⊥
BeganWith code (Some begun) = IsInRange code × IfSome begun.cause IsRecord

began_down : (code : Code) (living : Bool) (begun : Option Beginning) → BeganWith code begun → (living && is_none begun) ≡ false
began_down code living None h = absurd h
began_down code true (Some begun) h = refl
began_down code false (Some begun) h = refl

began_code : (code : Code) (begun : Option Beginning) → BeganWith code begun → IsInRange code
began_code code None h = absurd h
began_code code (Some begun) h = h.0

began_cause : (code : Code) (begun : Option Beginning) → BeganWith code begun → IfSome (cause_of begun) IsRecord
began_cause code None h = absurd h
began_cause code (Some begun) h = h.1

end_code : (is_job : Bool) (code : Code) (memory_end : Option Code) → IsInRange code → IfSome memory_end IsInRange → IfSome (memory_end_after is_job code memory_end) IsInRange
end_code true code memory_end h k = h
end_code false code memory_end h k = k

region_without : (d : DeckView) (n u : ℕ) (code : Code) (is_job : Bool) (w : World) → BeganWith code (Core.begun (core_at u w)) → IsRegion d n w → IsRegion d n (without_living u code is_job w)
region_without d n u code is_job w h r = record {
  units = units_ended d n w.units (Tree.lives w.tree) u (began_down code (lives_in w u) (Core.begun (core_at u w)) h) r.units;
  owners = r.owners;
  managers = r.managers;
  memory_end = end_code is_job code w.memory_end (began_code code (Core.begun (core_at u w)) h) r.memory_end;
}

region_related : (d : DeckView) (n : ℕ) (task : Option ℕ) (cause : Option ErrorRecord) (w : World) → IfSome cause IsRecord → IsRegion d (n + 1) w → IsRegion d (n + 1) (post_related n task cause w)
region_related d n (Some task) (Some r) w h s = region_posted d n task (srb_abort n r) w (srb_posted n r h) s
region_related d n (Some task) None w h s = s
region_related d n None (Some r) w h s = s
region_related d n None None w h s = s

step_if : (b : Bool) (d : DeckView) (n job : ℕ) (r : ErrorRecord) (w : World) → IsRecord r → IsRegion d (n + 1) w → IsRegion d (n + 1) (cond b (post_to job (step_abort n r) w) w)
step_if true d n job r w h s = region_posted d n job (step_abort n r) w (step_posted n r h) s
step_if false d n job r w h s = s

region_step : (d : DeckView) (n : ℕ) (is_other : Bool) (job : ℕ) (cause : Option ErrorRecord) (w : World) → IfSome cause IsRecord → IsRegion d (n + 1) w
    → IsRegion d (n + 1) (post_step n is_other job cause w)
region_step d n is_other job (Some r) w h s = step_if _ d n job r w h s
region_step d n is_other job None w h s = s

pub region_ended : (d : DeckView) (n u : ℕ) (code : Code) (w : World) → BeganWith code (Core.begun (core_at u w)) → IsRegion d (n + 1) w
    → IsRegion d (n + 1) (after_done d n u code (cause_of (Core.begun (core_at u w))) w)
region_ended d n u code w h r =
    let cause = cause_of (Core.begun (core_at u w)) in
    let known : IfSome cause IsRecord = began_cause code (Core.begun (core_at u w)) h in
    region_step d n _ (job_step d) cause _ known
    (region_related d n (related_task d u) cause _ known (region_without d (n + 1) u code (u == job_step d) w h r))

-- a unit is purged
pub region_purged : (d : DeckView) (n unit : ℕ) (w : World) → unit < length d.units → lives_in w unit ≡ true → IsRegion d n w → IsRegion d n (after_purge unit w)
region_purged d n unit w lt lives r = record {
  units = units_purged d n w.units (Tree.lives w.tree) unit lt lives r.units;
  owners = r.owners;
  managers = managers_filtered d n _ w.managers r.managers;
  memory_end = r.memory_end;
}
