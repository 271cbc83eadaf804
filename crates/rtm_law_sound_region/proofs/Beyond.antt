-- What an entry that can be applied keeps of what all units share.
use Rattle.std.proofs.Common.{◌≡◌, ℕ, ◌+◌, ◌<◌, Bool, true, false, cond, ◌&&◌, List, [], length, Option, Some, None, refl, subst, eqb-true}
use Rattle.std.proofs.lemmas.Bool.{leb-true}
use Rattle.std.specs.Prelude.{IfSome, IsSomeAnd, IsTrue, filter, is_some, not, slice_get, ◌==◌, ◌||◌}
use Rattle.rtm_codes.specs.declared.code.Code.{Code}
use Rattle.rtm_codes.specs.Code.{IsInRange}
use Rattle.rtm_deck_items.specs.Reading.{op_at}
use Rattle.rtm_deck_items.specs.View.{DeckView}
use Rattle.rtm_deck_items.specs.WellFormed.{is_abend_code, is_program_or_none, is_reason, is_task_in}
use Rattle.rtm_deck_items.specs.declared.op.Op.{Op}
use Rattle.rtm_deck_items.specs.declared.op.Op.TheVariants as ops
use Rattle.rtm_deck_items.proofs.Lists.{both_true}
use Rattle.rtm_model.specs.declared.entry.What.{What}
use Rattle.rtm_model.specs.declared.entry.What.TheVariants as whats
use Rattle.rtm_model.specs.declared.holding.Manager1.{Manager1}
use Rattle.rtm_model.specs.inner.Applies.{CanExecute, CanMake, IsDormant}
use Rattle.rtm_model.specs.Posts.{abterm_abort, detach_abort, mother_abort}
use Rattle.rtm_model.specs.OwnChange.{own_change}
use Rattle.rtm_model.specs.Advance.{after_attach, beyond, beyond_card, with_unit}
use Rattle.rtm_model.specs.Ending.{is_equal_manager}
use Rattle.rtm_model.specs.Levels.{is_manager}
use Rattle.rtm_model.specs.Surroundings.{manager_task}
use Rattle.rtm_model.specs.inner.Soundness.{IsRecord}
use Rattle.rtm_model.specs.Tasks.{Tree, life_of}
use Rattle.rtm_model.specs.World.{Beginning, Core, UnitOfWork, World, core_at, on_unit, unborn_unit, unit_at}
use Rattle.rtm_law_sound_region.proofs.Aborts.{abterm_posted, detach_posted, mother_posted}
use Rattle.rtm_law_sound_region.proofs.AllUnits.{units_subtasks}
use Rattle.rtm_law_sound_region.proofs.Cards.{IsCard, program_in, srb_in, task_in}
use Rattle.rtm_law_sound_region.proofs.Entries.{LivesBelow}
use Rattle.rtm_model.proofs.Codes.{abend_code, reason_code}
use Rattle.rtm_model.proofs.Lists.{set_kept}
use Rattle.rtm_law_sound_region.proofs.Managers.{AreManagers, managers_added, managers_filtered, managers_without}
use Rattle.rtm_law_sound_region.proofs.Owners.{AreOwners, owners_freed, owners_got}
use Rattle.rtm_law_sound_region.proofs.Worlds.{BeganWith, IsRegion, region_arrived, region_attached, region_ended, region_posted, region_purged, region_scheduled}

-- the master adds no resource manager, and attaches no task
abbrev pub AddsToTask : DeckView → ℕ → Op → Type 0
AddsToTask d u (ops.MgrAdd prog space) = u < length d.units
AddsToTask d u (ops.Attachx unit estai term) = u < length d.units
AddsToTask d u _ = Unit {0}

-- a world with other units
abbrev with_units : List UnitOfWork → World → World
with_units units w = record w { units = units }

managed_in : (d : DeckView) (u : ℕ) (space : Bool) → u < length d.units → IfSome (manager_task u space) (λ task. task < length d.units)
managed_in d u true lt = tt
managed_in d u false lt = lt

-- ATTACHX and SCHEDULE, by their return code

attached_if : (b : Bool) (d : DeckView) (n u rc unit : ℕ) (estai : Option ℕ) (term : Bool) (w : World) → (rc == 0) ≡ b → (rc ≡ 0 → IsDormant w unit) → unit < length d.units
    → IsRegion d (n + 1) w → IsRegion d (n + 1) (cond b (after_attach d n u unit estai term w) w)
attached_if true d n u rc unit estai term w e dormant lt r = region_attached d (n + 1) n u unit estai term w lt (dormant (eqb-true rc 0 e)) r
attached_if false d n u rc unit estai term w e dormant lt r = r

scheduled_if : (b : Bool) (d : DeckView) (n rc unit : ℕ) (w : World) → (rc == 0) ≡ b → (rc ≡ 0 → IsDormant w unit) → unit < length d.units
    → IsRegion d (n + 1) w → IsRegion d (n + 1) (cond b (with_unit d n unit None [] w) w)
scheduled_if true d n rc unit w e dormant lt r = region_scheduled d (n + 1) n unit w lt (dormant (eqb-true rc 0 e)) r
scheduled_if false d n rc unit w e dormant lt r = r

-- cards

attach_unit : (d : DeckView) (unit : ℕ) (estai : Option ℕ) (term : Bool) → IsTrue (is_task_in d unit && is_program_or_none d estai && (is_some estai || not term)) → unit < length d.units
attach_unit d unit estai term h = task_in d unit (both_true (is_task_in d unit) (is_program_or_none d estai) (both_true _ (is_some estai || not term) h).0).0

pub card_beyond : (d : DeckView) (n u rc : ℕ) (op : Op) (w : World) (units : List UnitOfWork) → IsCard d op → AddsToTask d u op → CanExecute w u rc op
    → AreOwners (length d.units) n w.holdings → AreManagers d n w.managers → IsRegion d (n + 1) (with_units units w) → IsRegion d (n + 1) (beyond_card d n u rc op (with_units units w))
card_beyond d n u rc (ops.Get class id) w units card adds can o g r = record {
  units = r.units;
  owners = owners_got (length d.units) n u id class w.holdings (leb-true _ _ card.fits) can o;
  managers = r.managers;
  memory_end = r.memory_end;
}
card_beyond d n u rc (ops.Free class id) w units card adds can o g r = record {
  units = r.units;
  owners = owners_freed (length d.units) (n + 1) u class id w.holdings r.owners;
  managers = r.managers;
  memory_end = r.memory_end;
}
card_beyond d n u rc (ops.Attachx unit estai term) w units card adds can o g r =
    attached_if (rc == 0) d n u rc unit estai term (with_units units w) refl can (attach_unit d unit estai term card.fits) r
card_beyond d n u rc (ops.Schedule unit) w units card adds can o g r = scheduled_if (rc == 0) d n rc unit (with_units units w) refl can (srb_in d unit card.fits) r
card_beyond d n u rc (ops.Detach unit stae) w units card adds can o g r = region_posted d n unit (detach_abort n stae) (with_units units w) (detach_posted n stae) r
card_beyond d n u rc (ops.Abterm unit code reason dump retry) w units card adds can o g r =
    let abc = both_true _ (is_reason reason) card.fits in
    let ab = both_true (is_task_in d unit) (is_abend_code code) abc.0 in
    region_posted d n unit (abterm_abort n code reason dump retry) (with_units units w)
    (abterm_posted n code reason dump retry (abend_code code ab.1) (reason_code reason abc.1)) r
card_beyond d n u rc (ops.Memterm code) w units card adds can o g r = record { units = r.units; owners = r.owners; managers = r.managers; memory_end = abend_code code card.fits }
card_beyond d n u rc (ops.MgrAdd prog space) w units card adds can o g r = record {
  units = r.units;
  owners = r.owners;
  managers = managers_added d n prog (manager_task u space) w.managers (program_in d prog card.fits) (managed_in d u space adds) can g;
  memory_end = r.memory_end;
}
card_beyond d n u rc (ops.MgrDelete prog space) w units card adds can o g r = record {
  units = r.units;
  owners = r.owners;
  managers = managers_without d (n + 1) (is_equal_manager prog (manager_task u space)) w.managers r.managers;
  memory_end = r.memory_end;
}
card_beyond d n u rc (ops.Post event) w units card adds can o g r = record { units = r.units; owners = r.owners; managers = r.managers; memory_end = r.memory_end }
card_beyond d n u rc _ w units card adds can o g r = r

-- other entries

left_if : (b : Bool) (d : DeckView) (n : ℕ) (p : Manager1 → Bool) (managers : List Manager1) → AreManagers d n managers → AreManagers d n (cond b (filter p managers) managers)
left_if true d n p managers s = managers_filtered d n p managers s
left_if false d n p managers s = s

-- what a unit that has begun to end began with
began_with : (code : Code) (begun : Option Beginning) → IsSomeAnd begun (λ b. b.code ≡ code) → IfSome begun (λ b. IsInRange b.code × IfSome b.cause IsRecord) → BeganWith code begun
began_with code None h k = absurd h
began_with code (Some begun) h k = (subst IsInRange h k.0, k.1)

-- the master adds no resource manager, in whatever it executes
abbrev pub AddsManagers : DeckView → ℕ → What → Type 0
AddsManagers d u (whats.Exec at rc) = AddsToTask d u (op_at d at.prog at.op)
AddsManagers d u _ = Unit {0}

-- the card that an entry executes may stand there
abbrev pub HasCard : DeckView → What → Type 0
HasCard d (whats.Exec at rc) = IsCard d (op_at d at.prog at.op)
HasCard d _ = Unit {0}

-- what an entry keeps of what is beyond its own unit, once its own unit is changed
pub entry_beyond : (d : DeckView) (n u : ℕ) (what : What) (w : World) → HasCard d what → AddsManagers d u what → CanMake d w u what
    → LivesBelow (length d.units) u (life_of u (Tree.lives w.tree)) → IfSome (Core.begun (core_at u w)) (λ b. IsInRange b.code × IfSome b.cause IsRecord)
    → AreOwners (length d.units) n w.holdings → AreManagers d n w.managers → IsRegion d (n + 1) (with_units (on_unit u (own_change d n w.managers what) w.units) w)
    → IsRegion d (n + 1) (beyond d n u what (with_units (on_unit u (own_change d n w.managers what) w.units) w))
entry_beyond d n u (whats.Exec at rc) w card adds can lives begun o g r = card_beyond d n u rc (op_at d at.prog at.op) w _ card adds can.1 o g r
entry_beyond d n u (whats.Leave kind reg verdict logrec dump) w card adds can lives begun o g r =
    record { units = r.units; owners = r.owners; managers = left_if (is_manager kind) d (n + 1) _ w.managers r.managers; memory_end = r.memory_end }
entry_beyond d n u (whats.Arrive cmd _) w card adds can lives begun o g r = region_arrived d n u (slice_get d.commands cmd) _ lives r
entry_beyond d n u (whats.Begin code dump) w card adds can lives begun o g r = record {
  units = units_subtasks d n _ (Tree.lives w.tree) u (mother_abort n) (mother_posted n) r.units;
  owners = r.owners;
  managers = r.managers;
  memory_end = r.memory_end;
}
entry_beyond d n u (whats.Release class id owner) w card adds can lives begun o g r =
    record { units = r.units; owners = owners_freed (length d.units) (n + 1) owner class id w.holdings r.owners; managers = r.managers; memory_end = r.memory_end }
entry_beyond d n u (whats.Done code to_task to_step) w card adds can lives begun o g r =
    let had : BeganWith code (Core.begun (core_at u w)) = began_with code (Core.begun (core_at u w)) can.1 begun in
    region_ended d n u code _ (set_kept (λ (x : UnitOfWork). BeganWith code (Core.begun x.core)) unborn_unit w.units u u (unit_at u w.units) had (λ e. had)) r
entry_beyond d n u (whats.Purge unit) w card adds can lives begun o g r = region_purged d (n + 1) unit _ can.0 can.1 r
entry_beyond d n u whats.MemEnd w card adds can lives begun o g r = record { units = r.units; owners = r.owners; managers = r.managers; memory_end = r.memory_end }
entry_beyond d n u _ w card adds can lives begun o g r = r
