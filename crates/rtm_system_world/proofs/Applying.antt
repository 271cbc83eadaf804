-- What may follow a sound world can be carried out.
use Rattle.std.proofs.Common.{◌≡◌, ℕ, ◌+◌, ◌<◌, ◌≤◌, Bool, true, false, List, length, take, Option, Some, None, refl, sym, subst, ◌∙◌, arith, get_or-set_same}
use Rattle.std.specs.Prelude.{IfSome, IsTrue, if◌then◌else◌, nat_le, not, slice_get, ◌==◌, ◌&&◌, ◌||◌}
use Rattle.std.specs.Option.{option_and_then, option_map_or}
use Rattle.std.proofs.lemmas.Bool.{eqb-true}
use Rattle.std.proofs.lemmas.List.{length-set, length-take}
use Rattle.rtm_deck_items.specs.declared.deck.Command.{Command}
use Rattle.rtm_deck_items.specs.declared.deck.Unit.{Unit as UnitCard}
use Rattle.rtm_deck_items.specs.declared.deck.UnitKind.{UnitKind}
use Rattle.rtm_deck_items.specs.declared.deck.UnitKind.TheVariants.{Srb, Task}
use Rattle.rtm_deck_items.specs.View.{DeckView}
use Rattle.rtm_deck_items.specs.Reading.{is_task_card, lines_of, op_at}
use Rattle.rtm_deck_items.specs.WellFormed.{is_related, is_unit_of, is_well_formed}
use Rattle.rtm_deck_items.proofs.FormFacts.{Conditions, Limits, conditions, limits}
use Rattle.rtm_model.specs.declared.block.Place.{Place}
use Rattle.rtm_model.specs.declared.entry.Entry.{Entry}
use Rattle.rtm_model.specs.declared.entry.Fate.{Fate}
use Rattle.rtm_model.specs.declared.entry.What.{What}
use Rattle.rtm_model.specs.declared.entry.What.TheVariants as whats
use Rattle.rtm_model.specs.Aborts.{first_abort}
use Rattle.rtm_model.specs.inner.Applies.{CanApply, CanMake, StandsAt}
use Rattle.rtm_model.specs.Arrivals.{arrival, arrival_fate, arrival_of, earlier_count, goes_on, is_cancellable, is_due, is_in_turn}
use Rattle.rtm_model.specs.OwnChange.{own_change, place_after}
use Rattle.rtm_model.specs.Legal.{MayFollow}
use Rattle.rtm_model.specs.Surroundings.{fate_in}
use Rattle.rtm_model.specs.inner.Soundness.{IsSound}
use Rattle.rtm_model.specs.World.{UnitOfWork, World, core_at, related_task, unborn_unit, unit_at}
use Rattle.rtm_model.specs.declared.entry.Class.TheVariants.{Cancel}
use Rattle.rtm_model.proofs.Lists.{at_from_list_all, below_length, both_true, length-filter-le}
use Rattle.rtm_law_sound_region.proofs.Acts.{can_act}
use Rattle.rtm_law_sound_region.proofs.Beyond.{AddsManagers}
use Rattle.rtm_law_sound_region.proofs.Region.{CanAct}
use Rattle.rtm_law_sound_region.proofs.Start.{job_step_in}
use Rattle.rtm_system_unit.specs.Applying.{CanApplyTo}
use Rattle.rtm_system_unit.proofs.Making.{can_apply}
use Rattle.rtm_law_sound_units.proofs.CanNext.{follows_applies}
use Rattle.rtm_law_sound_units.proofs.CoresKeep.{card_estais}
use Rattle.rtm_law_sound_units.proofs.Places.{card_may_stand}
use Rattle.rtm_system_world.specs.Beyond.{CanDoBeyond}
use Rattle.rtm_system_world.specs.Follows.{Follows}
use Rattle.rtm_system_world.specs.Shape.{IsShaped}
use Rattle.rtm_system_world.proofs.Carrying.{Changes, can_go_beyond, own_after}

-- ---- its own unit
applies : (d : DeckView) (n : ℕ) (w : World) (e : Entry) → IsTrue (is_well_formed d) → Follows d n w e → CanApply d w e
applies d n w e formed f = follows_applies d n w e formed f.sound f.may

pub own_there : (d : DeckView) (n : ℕ) (w : World) (e : Entry) → IsTrue (is_well_formed d) → Follows d n w e → e.unit < length w.units
own_there d n w e formed f = omega (arith, CanApply.unit (applies d n w e formed f), IsSound.units_len f.sound)

pub own_can : (d : DeckView) (n : ℕ) (w : World) (e : Entry) → IsTrue (is_well_formed d) → Follows d n w e
    → CanApplyTo d (core_at e.unit w) w.managers (first_abort (UnitOfWork.pending (unit_at e.unit w.units))) e.what
own_can d n w e formed f = can_apply d n w e.unit e.what f.sound (CanApply.what (applies d n w e formed f))

-- the world after the change of its own unit
abbrev pub own_world : DeckView → ℕ → World → Entry → World
own_world d n w e = own_after w e.unit (own_change d n w.managers e.what)

pub shape_after : (d : DeckView) (n : ℕ) (w : World) (e : Entry) → IsTrue (is_well_formed d) → Follows d n w e → IsShaped d (own_world d n w e)
shape_after d n w e formed f = record {
  units = length-set w.units e.unit (own_change d n w.managers e.what (unit_at e.unit w.units)) ∙ IsSound.units_len f.sound;
  lives = IsSound.lives_len f.sound;
  few = Limits.units (limits d formed);
}

pub owners_are : (d : DeckView) (n : ℕ) (w : World) (e : Entry) → Follows d n w e → length w.holdings ≡ length d.units + 1
owners_are d n w e f = IsSound.owners_len f.sound

pub unit_after : (d : DeckView) (n : ℕ) (w : World) (e : Entry) → IsTrue (is_well_formed d) → Follows d n w e → e.unit < length (World.units (own_world d n w e))
unit_after d n w e formed f = omega (arith, own_there d n w e formed f, length-set w.units e.unit (own_change d n w.managers e.what (unit_at e.unit w.units)))

-- ---- beyond it: the related task of an SRB
in_units : (d : DeckView) (u : ℕ) (p : UnitCard → Bool) (o : Option UnitCard) → slice_get d.units u ≡ o → IsTrue (option_map_or p o false) → u < length d.units
in_units d u p None e there = absurd cc
in_units d u p (Some card) e there = below_length d.units u card e

related_in : (d : DeckView) (kind : UnitKind) (o : Option ℕ) → IsTrue (is_related d kind o) → IfSome o (λ task. task < length d.units)
related_in d kind None h = tt
related_in d Task (Some task) h = absurd cc
related_in d Srb (Some task) h = in_units d task is_task_card (slice_get d.units task) refl h

related_by : (d : DeckView) (u : ℕ) (o : Option UnitCard) → slice_get d.units u ≡ o → IsTrue (is_well_formed d) → IfSome (option_and_then (λ unit. unit.related) o) (λ task. task < length d.units)
related_by d u None e formed = tt
related_by d u (Some card) e formed =
    related_in d card.kind card.related
    (both_true _ (is_related d card.kind card.related) (at_from_list_all (is_unit_of d) d.units u card (Conditions.units (conditions d formed)) e)).1

or_zero : (o : Option ℕ) (n : ℕ) → 0 < n → IfSome o (λ task. task < n) → option_map_or (λ task. task) o 0 < n
or_zero None n some h = some
or_zero (Some task) n some h = h

-- ---- the arrival of a command: at most 64 have arrived
few_earlier : (target cmd : ℕ) (commands : List Command) → earlier_count target cmd commands ≤ length commands
few_earlier target cmd commands =
    let a = length-filter-le (λ command. command.target == target) (take cmd commands) in
    omega (arith, a, length-take cmd commands)

arrived_if : (d : DeckView) (w : World) (target cmd : ℕ) (b : Bool) (becomes : Fate) → (b ≡ true → UnitOfWork.arrived (unit_at target w.units) ≤ length d.commands)
    → IfSome (arrival_of target cmd (if b then Some becomes else None)) (λ e. UnitOfWork.arrived (unit_at e.unit w.units) ≤ length d.commands)
arrived_if d w target cmd true becomes h = h refl
arrived_if d w target cmd false becomes h = tt

arrived_by : (d : DeckView) (n : ℕ) (w : World) (cmd : ℕ) (quiet : Bool) (o : Option Command)
    → IfSome (arrival_of (option_map_or (λ command. command.target) o 0) cmd (arrival_fate d w n quiet cmd o)) (λ e. UnitOfWork.arrived (unit_at e.unit w.units) ≤ length d.commands)
arrived_by d n w cmd quiet None = tt
arrived_by d n w cmd quiet (Some command) =
    arrived_if d w command.target cmd (is_due d w n quiet cmd command) (fate_in w command.target Cancel)
    (λ due. let ab = both_true (is_cancellable w command.target && is_in_turn d w command.target cmd) (nat_le command.at n || quiet) due in
    let turn = both_true (is_cancellable w command.target) (is_in_turn d w command.target cmd) ab.0 in
    omega (arith, few_earlier command.target cmd d.commands, eqb-true _ _ turn.1))

few_arrived : (d : DeckView) (n : ℕ) (w : World) (cmd : ℕ) (e : Entry) → IsTrue (is_well_formed d) → arrival d w n cmd ≡ Some e → UnitOfWork.arrived (unit_at e.unit w.units) < 255
few_arrived d n w cmd e formed is =
    let few = subst (λ (o : Option Entry). IfSome o (λ x. UnitOfWork.arrived (unit_at x.unit w.units) ≤ length d.commands)) is (arrived_by d n w cmd (not (goes_on d w)) (slice_get d.commands cmd)) in
    omega (arith, few, Limits.commands (limits d formed))

-- ---- any entry
exec_changes : (d : DeckView) (n : ℕ) (w : World) (e : Entry) (at : Place) (rc : ℕ) → IsTrue (is_well_formed d) → Follows d n w e → StandsAt d (core_at e.unit w) at → Changes w e.unit (own_change d n w.managers (whats.Exec at rc))
exec_changes d n w e at rc formed f here = record {
  here = own_there d n w e formed f;
  some = here.some;
  estais = card_estais n (place_after d at rc (op_at d at.prog at.op)) (op_at d at.prog at.op) (core_at e.unit w);
}

beyond_by : (d : DeckView) (n : ℕ) (w : World) (e : Entry) (what : What) → IsTrue (is_well_formed d) → Follows d n w e → MayFollow d w n e what → CanMake d w e.unit what → AddsManagers d e.unit what → e.unit ≤ length d.units
    → CanDoBeyond d n (own_after w e.unit (own_change d n w.managers what)) e.unit what
beyond_by d n w e (whats.Exec at rc) formed f may can adds le =
    can_go_beyond d n w e.unit rc (lines_of d at.prog) (own_change d n w.managers (whats.Exec at rc)) formed f.sound le
    (exec_changes d n w e at rc formed f can.0) (op_at d at.prog at.op) (card_may_stand d formed at.prog at.op) can.1 adds
beyond_by d n w e (whats.Arrive cmd becomes) formed f may can adds le =
    subst (λ (x : UnitOfWork). x.arrived < 255) (sym (get_or-set_same w.units e.unit (own_change d n w.managers (whats.Arrive cmd becomes) (unit_at e.unit w.units)) unborn_unit (own_there d n w e formed f)))
    (few_arrived d n w cmd e formed may)
beyond_by d n w e (whats.Done code to_task to_step) formed f may can adds le =
    let len = length-set w.units e.unit (own_change d n w.managers (whats.Done code to_task to_step) (unit_at e.unit w.units)) ∙ IsSound.units_len f.sound in
    let job = job_step_in d formed in
    (omega (arith, or_zero (related_task d e.unit) (length d.units) (omega (arith, job)) (related_by d e.unit (slice_get d.units e.unit) refl formed), len), omega (arith, job, len))
beyond_by d n w e (whats.Purge unit) formed f may can adds le =
    omega (arith, can.0, length-set w.units e.unit (own_change d n w.managers (whats.Purge unit) (unit_at e.unit w.units)) ∙ IsSound.units_len f.sound)
beyond_by d n w e _ formed f may can adds le = tt

pub beyond_can : (d : DeckView) (n : ℕ) (w : World) (e : Entry) → IsTrue (is_well_formed d) → Follows d n w e → CanDoBeyond d n (own_world d n w e) e.unit e.what
beyond_can d n w e formed f =
    let can = applies d n w e formed f in
    beyond_by d n w e e.what formed f f.may can.what (CanAct.adds (can_act d n w e f.sound can f.may)) can.unit
