-- What is seen at a glance of a unit's next entry (this profile).
use Rattle.std.specs.Prelude.{Bool, None, Option, Some, false, if◌then◌else◌, is_none, is_some, not, slice_get, true, ℕ, ◌==◌, ◌||◌, ◌≡◌}
use Rattle.rtm_deck_items.specs.View.{DeckView}
use Rattle.rtm_deck_items.specs.declared.op.Op.{Op}
use Rattle.rtm_deck_items.specs.declared.op.Op.TheVariants.{Abend, Abterm, Attachx, Branch, Detach, EstaexCt, EstaexOv, EstaexZero, Free, FrrAdd, FrrDelete, FrrPurge, FrrReplace, Get, IfClup, IfCode, IfPerc, Link, Memterm, MgrAdd, MgrDelete, Nop, Post, Ret15, Return, Schedule, SetRp, Wait, WaitTask, Xctl}
use Rattle.rtm_model.specs.declared.block.Block.{Block}
use Rattle.rtm_model.specs.declared.entry.What.{What}
use Rattle.rtm_model.specs.declared.entry.What.TheVariants.{Exec}
use Rattle.rtm_model.specs.Blocks.{newest_block}
use Rattle.rtm_model.specs.Surroundings.{op_here}
use Rattle.rtm_model.specs.Tasks.{Tree, has_ended, is_posted, life_of}
use Rattle.rtm_model.specs.World.{Core, UnitOfWork, World, core_at, lives_in, master}
use Rattle.rtm_system_unit.specs.Normal.{runs_normally}
use Rattle.rtm_system_world.specs.Needs.{waits_at}
use Rattle.rtm_system_world.specs.declared.glance.Glance.{Glance}
use Rattle.rtm_system_world.specs.declared.glance.Glance.TheVariants.{Executes, Idle, Unseen}

-- idle where the unit waits, and else unseen
abbrev pub idle_if : Bool → Glance
idle_if true = Idle
idle_if false = Unseen

-- the execution of the card at which that request block stands
abbrev pub execution_of : Option Block → Glance
execution_of None = Unseen
execution_of (Some block) = Executes (Block.place block)

-- what is seen of a unit that goes on with that card
abbrev pub glance_by : DeckView → World → ℕ → Op → Glance
glance_by d w u (Wait event) = idle_if (waits_at d u (core_at u w) (is_posted event (Tree.events w.tree)))
glance_by d w u (WaitTask task) = idle_if (waits_at d u (core_at u w) (has_ended (life_of task (Tree.lives w.tree))))
glance_by d w u Nop = execution_of (newest_block (Core.blocks (core_at u w)))
glance_by d w u (Get class id) = Unseen
glance_by d w u (Free class id) = Unseen
glance_by d w u (Link prog) = Unseen
glance_by d w u (Xctl prog) = Unseen
glance_by d w u Return = Unseen
glance_by d w u (Abend code reason dump step) = Unseen
glance_by d w u (EstaexCt prog term cancel xctl) = Unseen
glance_by d w u (EstaexOv prog term cancel xctl) = Unseen
glance_by d w u EstaexZero = Unseen
glance_by d w u (FrrAdd prog) = Unseen
glance_by d w u FrrDelete = Unseen
glance_by d w u (FrrReplace prog) = Unseen
glance_by d w u FrrPurge = Unseen
glance_by d w u (Attachx unit estai term) = Unseen
glance_by d w u (Detach unit stae) = Unseen
glance_by d w u (Abterm unit code reason dump retry) = Unseen
glance_by d w u (Memterm code) = Unseen
glance_by d w u (MgrAdd prog space) = Unseen
glance_by d w u (MgrDelete prog space) = Unseen
glance_by d w u (Schedule unit) = Unseen
glance_by d w u (Post event) = Unseen
glance_by d w u (SetRp setrp) = Unseen
glance_by d w u (Ret15 rc label) = Unseen
glance_by d w u (Branch label) = execution_of (newest_block (Core.blocks (core_at u w)))
glance_by d w u (IfCode code label) = Unseen
glance_by d w u (IfClup label) = Unseen
glance_by d w u (IfPerc label) = Unseen

-- of the unit in that place, if one is there: it may have more to do than to go on with its card
abbrev pub glance_in : DeckView → World → ℕ → Option UnitOfWork → Glance
glance_in d w u None = Unseen
glance_in d w u (Some unit) = if runs_normally unit then glance_by d w u (op_here d unit.core) else Unseen

-- of a unit that lives
abbrev pub glance_at_living : DeckView → World → ℕ → Glance
glance_at_living d w u = glance_in d w u (slice_get w.units u)

-- A unit is idle where memory end has begun, where it doesn't live, and where it waits; the master where memory end
-- hasn't begun.
abbrev pub glance : DeckView → World → ℕ → Glance
glance d w u =
    if u == master d then idle_if (is_none w.memory_end)
    else if is_some w.memory_end || not (lives_in w u) then Idle
    else glance_at_living d w u

-- what a glance says of the next entry
abbrev pub IsSeen : Option What → Glance → Type 0
IsSeen next Idle = next ≡ None
IsSeen next (Executes at) = next ≡ Some (Exec at 0)
IsSeen next Unseen = Unit {0}
