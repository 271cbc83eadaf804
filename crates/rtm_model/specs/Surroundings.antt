-- What a unit's next entry needs of others, as plain values (this profile).
use Rattle.std.specs.Prelude.{Bool, None, Option, Some, false, if◌then◌else◌, is_some, length, not, ℕ, ◌==◌, ◌||◌}
use Rattle.rtm_deck_items.specs.Reading.{op_at, job_step}
use Rattle.rtm_deck_items.specs.View.{DeckView}
use Rattle.rtm_deck_items.specs.declared.op.Op.{Op}
use Rattle.rtm_deck_items.specs.declared.op.Op.TheVariants.{Abend, Abterm, Attachx, Branch, Detach, EstaexCt, EstaexOv, EstaexZero, Free, FrrAdd, FrrDelete, FrrPurge, FrrReplace, Get, IfClup, IfCode, IfPerc, Link, Memterm, MgrAdd, MgrDelete, Nop, Post, Ret15, Return, Schedule, SetRp, Wait, WaitTask, Xctl}
use Rattle.rtm_model.specs.declared.surroundings.Surroundings.{Surroundings}
use Rattle.rtm_model.specs.declared.block.Place.{Place}
use Rattle.rtm_model.specs.declared.entry.Class.{Class}
use Rattle.rtm_model.specs.declared.entry.Fate.{Fate}
use Rattle.rtm_model.specs.declared.entry.Fate.TheVariants.{Late}
use Rattle.rtm_model.specs.Aborts.{fate_of, first_abort}
use Rattle.rtm_model.specs.Blocks.{place_in}
use Rattle.rtm_model.specs.Ending.{held_count, holdings_of, newest_equal, newest_manager, next_manager, next_release}
use Rattle.rtm_model.specs.Limits.{most_holdings, most_managers}
use Rattle.rtm_model.specs.Tasks.{Tree, has_ended, has_subtask, is_dormant, is_number, is_posted, life_of, mother_of}
use Rattle.rtm_model.specs.World.{Core, UnitOfWork, World, core_at, is_srb, lives_in, master, related_task, unit_at}
use Rattle.rtm_model.specs.declared.entry.Class.TheVariants as classes

-- an abort would come too late for the unit: it doesn't live, or has begun to end (this profile)
abbrev pub is_late : World → ℕ → Bool
is_late w u = not (lives_in w u) || is_some (Core.begun (core_at u w))

-- what would become of an abort of the class that is posted to the unit now
abbrev pub fate_in : World → ℕ → Class → Fate
fate_in w u class = fate_of (is_late w u) class (UnitOfWork.pending (unit_at u w.units))

-- whose managers and holdings an ending is about: a unit's own, or at the master's all
abbrev pub whose : DeckView → ℕ → Option ℕ
whose d u = if u == master d then None else Some u

-- the task of a manager that RESMGR names: the unit's own, or none for the address space (Authorized Assembler
-- Services Reference, RESMGR)
abbrev pub manager_task : ℕ → Bool → Option ℕ
manager_task u space = if space then None else Some u

-- what the card would add has no room: so many holdings of a unit and resource managers live at most (this profile)
abbrev pub is_crowded : World → ℕ → Op → Bool
is_crowded w u (Get class id) = held_count (holdings_of u w.holdings) == most_holdings
is_crowded w u (MgrAdd prog space) = length w.managers == most_managers
is_crowded w u _ = false

-- what the card takes away, waits for, or posts is there already
abbrev pub is_found : World → ℕ → Op → Bool
is_found w u (Free class id) = is_some (newest_equal u class id w.holdings)
is_found w u (MgrDelete prog space) = is_some (newest_manager prog (manager_task u space) w.managers)
is_found w u (Wait event) = is_posted event (Tree.events w.tree)
is_found w u (Post event) = is_posted event (Tree.events w.tree)
is_found w u (WaitTask unit) = has_ended (life_of unit (Tree.lives w.tree))
is_found w u Nop = false
is_found w u (Get class id) = false
is_found w u (Link prog) = false
is_found w u (Xctl prog) = false
is_found w u Return = false
is_found w u (Abend code reason dump step) = false
is_found w u (EstaexCt prog term cancel xctl) = false
is_found w u (EstaexOv prog term cancel xctl) = false
is_found w u EstaexZero = false
is_found w u (FrrAdd prog) = false
is_found w u FrrDelete = false
is_found w u (FrrReplace prog) = false
is_found w u FrrPurge = false
is_found w u (Attachx unit estai term) = false
is_found w u (Detach unit stae) = false
is_found w u (Abterm unit code reason dump retry) = false
is_found w u (Memterm code) = false
is_found w u (MgrAdd prog space) = false
is_found w u (Schedule unit) = false
is_found w u (SetRp setrp) = false
is_found w u (Ret15 rc label) = false
is_found w u (Branch label) = false
is_found w u (IfCode code label) = false
is_found w u (IfClup label) = false
is_found w u (IfPerc label) = false

-- the unit that the card would bring to life is dormant
abbrev pub is_unborn : World → Op → Bool
is_unborn w (Attachx unit estai term) = is_dormant (life_of unit (Tree.lives w.tree))
is_unborn w (Schedule unit) = is_dormant (life_of unit (Tree.lives w.tree))
is_unborn w _ = false

-- the unit has attached the task of a DETACH card (Assembler Services Reference, DETACH)
abbrev pub is_own : World → ℕ → Op → Bool
is_own w u (Detach unit stae) = is_number u (mother_of (life_of unit (Tree.lives w.tree)))
is_own w u _ = false

-- what would become of the abort that the card posts
abbrev pub card_fate : World → Op → Fate
card_fate w (Detach unit stae) = fate_in w unit classes.Detach
card_fate w (Abterm unit code reason dump retry) = fate_in w unit classes.Abterm
card_fate w _ = Late

-- what would become of the abort that an SRB's end posts to its related task, if it has one (this profile)
abbrev pub related_fate : World → Option ℕ → Option Fate
related_fate w None = None
related_fate w (Some task) = Some (fate_in w task classes.Srb)

-- what would become of the abort that a unit's end posts to the job step task, unless it is that one's own (this
-- profile)
abbrev pub step_fate : DeckView → World → ℕ → Option Fate
step_fate d w u = if u == job_step d then None else Some (fate_in w (job_step d) classes.Step)

-- what the unit's next entry needs of others, where its next card is that one
abbrev pub surroundings_at : DeckView → World → ℕ → Op → Surroundings
surroundings_at d w u op = record {
  srb = is_srb d u;
  abort = first_abort (UnitOfWork.pending (unit_at u w.units));
  subtask = has_subtask u (Tree.lives w.tree);
  manager = next_manager (whose d u) w.managers;
  holding = next_release (whose d u) w.holdings;
  crowded = is_crowded w u op;
  found = is_found w u op;
  unborn = is_unborn w op;
  own = is_own w u op;
  fate = card_fate w op;
  to_task = related_fate w (related_task d u);
  to_step = step_fate d w u;
}

-- the card at which a unit stands; where it has no request block the first card of the first program, which no entry
-- asks for
abbrev pub op_here : DeckView → Core → Op
op_here d c = op_at d (Place.prog (place_in c.blocks)) (Place.op (place_in c.blocks))

abbrev pub surroundings : DeckView → World → ℕ → Surroundings
surroundings d w u = surroundings_at d w u (op_here d (core_at u w))
