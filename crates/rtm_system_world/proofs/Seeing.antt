-- What a glance sees of a unit is so.
use Rattle.std.proofs.Common.{◌≡◌, ℕ, Bool, true, false, Option, Some, None, refl, sym, ap, subst, ◌∙◌}
use Rattle.std.specs.Prelude.{if◌then◌else◌, is_none, is_some, not, slice_get, ◌==◌, ◌||◌}
use Rattle.std.specs.Option.{option_map}
use Rattle.std.proofs.lemmas.Option.{get_or_from_slice_get}
use Rattle.rtm_codes.specs.declared.code.Code.{Code}
use Rattle.rtm_deck_items.specs.View.{DeckView}
use Rattle.rtm_deck_items.specs.declared.op.Op.{Op}
use Rattle.rtm_deck_items.specs.declared.op.Op.TheVariants as ops
use Rattle.rtm_model.specs.declared.block.Block.{Block}
use Rattle.rtm_model.specs.declared.entry.What.{What}
use Rattle.rtm_model.specs.declared.entry.What.TheVariants.{Exec}
use Rattle.rtm_model.specs.Blocks.{newest_block}
use Rattle.rtm_model.specs.NextEntry.{next, next_of_master, next_of_unit, next_unit}
use Rattle.rtm_model.specs.Surroundings.{op_here, surroundings}
use Rattle.rtm_model.specs.Tasks.{Tree, has_ended, is_posted, life_of}
use Rattle.rtm_model.specs.World.{Core, UnitOfWork, World, core_at, lives_in, master, unborn_unit, unit_at}
use Rattle.rtm_system_unit.specs.Normal.{runs_normally}
use Rattle.rtm_system_world.specs.Needs.{waits_at}
use Rattle.rtm_system_world.specs.Seen.{IsSeen, execution_of, glance, glance_at_living, glance_by, glance_in, idle_if}
use Rattle.rtm_system_world.specs.declared.glance.Glance.{Glance}
use Rattle.rtm_system_world.specs.declared.glance.Glance.TheVariants.{Idle, Unseen}
use Rattle.rtm_system_world.proofs.Normal.{executes_branch, executes_nop, waits_for_event, waits_for_task}

-- ---- of a unit that goes on with its card

-- a unit's own next entry, where it lives
abbrev next_alive : DeckView → World → ℕ → Option What
next_alive d w u = next_unit d (core_at u w) (surroundings d w u)

seen_execution : (o : Option What) (b : Option Block) → o ≡ option_map (λ block. Exec (Block.place block) 0) b → IsSeen o (execution_of b)
seen_execution o None e = tt
seen_execution o (Some block) e = e

seen_idle : (o : Option What) (b : Bool) → (b ≡ true → o ≡ None) → IsSeen o (idle_if b)
seen_idle o true h = h refl
seen_idle o false h = tt

seen_by : (d : DeckView) (w : World) (u : ℕ) (op : Op) → runs_normally (unit_at u w.units) ≡ true → op_here d (core_at u w) ≡ op → IsSeen (next_alive d w u) (glance_by d w u op)
seen_by d w u ops.Nop n e = seen_execution (next_alive d w u) (newest_block (Core.blocks (core_at u w))) (executes_nop d w u n e)
seen_by d w u (ops.Branch label) n e = seen_execution (next_alive d w u) (newest_block (Core.blocks (core_at u w))) (executes_branch d w u label n e)
seen_by d w u (ops.Wait event) n e = seen_idle (next_alive d w u) (waits_at d u (core_at u w) (is_posted event (Tree.events w.tree))) (waits_for_event d w u event n e)
seen_by d w u (ops.WaitTask task) n e = seen_idle (next_alive d w u) (waits_at d u (core_at u w) (has_ended (life_of task (Tree.lives w.tree)))) (waits_for_task d w u task n e)
seen_by d w u _ n e = tt

pub seen_here : (d : DeckView) (w : World) (u : ℕ) (unit : UnitOfWork) (g : Glance) → unit ≡ unit_at u w.units → runs_normally unit ≡ true → g ≡ glance_by d w u (op_here d unit.core) → IsSeen (next_unit d (core_at u w) (surroundings d w u)) g
seen_here d w u unit g is n e =
    let here : g ≡ glance_by d w u (op_here d (core_at u w)) = e ∙ ap (λ (x : UnitOfWork). glance_by d w u (op_here d x.core)) is in
    subst (λ (x : Glance). IsSeen (next_alive d w u) x) (sym here) (seen_by d w u (op_here d (core_at u w)) (subst (λ (x : UnitOfWork). runs_normally x ≡ true) is n) refl)

-- ---- of any unit

seen_normal : (d : DeckView) (w : World) (u : ℕ) (unit : UnitOfWork) (b : Bool) → unit ≡ unit_at u w.units → runs_normally unit ≡ b → IsSeen (next_alive d w u) (if b then glance_by d w u (op_here d unit.core) else Unseen)
seen_normal d w u unit true is n = seen_here d w u unit (glance_by d w u (op_here d unit.core)) is n refl
seen_normal d w u unit false is n = tt

seen_in : (d : DeckView) (w : World) (u : ℕ) (o : Option UnitOfWork) → slice_get w.units u ≡ o → IsSeen (next_alive d w u) (glance_in d w u o)
seen_in d w u None e = tt
seen_in d w u (Some unit) e = seen_normal d w u unit (runs_normally unit) (sym (get_or_from_slice_get w.units u unit unborn_unit e)) refl

seen_if_lives : (lives : Bool) (o : Option What) (g : Glance) → IsSeen o g → IsSeen (if lives then o else None) (if not lives then Idle else g)
seen_if_lives true o g h = h
seen_if_lives false o g h = refl

seen_of_unit : (d : DeckView) (w : World) (u : ℕ) (code : Option Code) → IsSeen (next_of_unit d w u code) (if is_some code || not (lives_in w u) then Idle else glance_at_living d w u)
seen_of_unit d w u None = seen_if_lives (lives_in w u) (next_alive d w u) (glance_at_living d w u) (seen_in d w u (slice_get w.units u) refl)
seen_of_unit d w u (Some code) = refl

seen_of_master : (d : DeckView) (w : World) (code : Option Code) → IsSeen (next_of_master d w code) (idle_if (is_none code))
seen_of_master d w None = refl
seen_of_master d w (Some code) = tt

seen_either : (b : Bool) (o p : Option What) (g h : Glance) → IsSeen o g → IsSeen p h → IsSeen (if b then o else p) (if b then g else h)
seen_either true o p g h x y = x
seen_either false o p g h x y = y

pub glance_is_seen : (d : DeckView) (w : World) (u : ℕ) (g : Glance) → g ≡ glance d w u → IsSeen (next d w u) g
glance_is_seen d w u g e =
    subst (λ (x : Glance). IsSeen (next d w u) x) (sym e)
    (seen_either (u == master d) (next_of_master d w w.memory_end) (next_of_unit d w u w.memory_end) (idle_if (is_none w.memory_end)) (if is_some w.memory_end || not (lives_in w u) then Idle else glance_at_living d w u)
    (seen_of_master d w w.memory_end) (seen_of_unit d w u w.memory_end))
