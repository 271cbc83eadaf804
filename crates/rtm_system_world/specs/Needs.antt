-- What a unit's next entry asks of others, by its case: what isn't asked is a plain constant (this profile).
use Rattle.std.specs.Prelude.{Bool, None, Option, Some, false, if◌then◌else◌, is_some, not, true, ℕ, ◌&&◌}
use Rattle.rtm_deck_items.specs.View.{DeckView}
use Rattle.rtm_deck_items.specs.declared.op.Op.{Op}
use Rattle.rtm_deck_items.specs.declared.op.Op.TheVariants.{Abend, Abterm, Attachx, Branch, Detach, EstaexCt, EstaexOv, EstaexZero, Free, FrrAdd, FrrDelete, FrrPurge, FrrReplace, Get, IfClup, IfCode, IfPerc, Link, Memterm, MgrAdd, MgrDelete, Nop, Post, Ret15, Return, Schedule, SetRp, Wait, WaitTask, Xctl}
use Rattle.rtm_model.specs.declared.surroundings.Surroundings.{Surroundings}
use Rattle.rtm_model.specs.declared.entry.Fate.{Fate}
use Rattle.rtm_model.specs.declared.entry.Fate.TheVariants.{Late}
use Rattle.rtm_model.specs.declared.holding.Holding.{Holding}
use Rattle.rtm_model.specs.declared.holding.Manager1.{Manager1}
use Rattle.rtm_model.specs.Aborts.{first_abort}
use Rattle.rtm_model.specs.Cards.{wants_task}
use Rattle.rtm_model.specs.Ending.{next_manager, next_release}
use Rattle.rtm_model.specs.NextEntry.{is_outermost}
use Rattle.rtm_model.specs.Surroundings.{card_fate, is_crowded, is_found, is_own, is_unborn, op_here, related_fate, step_fate, whose}
use Rattle.rtm_model.specs.Tasks.{Tree, has_subtask}
use Rattle.rtm_system_unit.specs.Normal.{may_wait}
use Rattle.rtm_model.specs.World.{Core, UnitOfWork, World, core_at, is_srb, master, related_task, unit_at}

abbrev pub no_needs : Surroundings
no_needs = record {
  srb = false;
  abort = None;
  subtask = false;
  manager = None;
  holding = None;
  crowded = false;
  found = false;
  unborn = false;
  own = false;
  fate = Late;
  to_task = None;
  to_step = None;
}

abbrev pub is_return : Op → Bool
is_return Return = true
is_return Nop = false
is_return (Get class id) = false
is_return (Free class id) = false
is_return (Link prog) = false
is_return (Xctl prog) = false
is_return (Abend code reason dump step) = false
is_return (EstaexCt prog term cancel xctl) = false
is_return (EstaexOv prog term cancel xctl) = false
is_return EstaexZero = false
is_return (FrrAdd prog) = false
is_return FrrDelete = false
is_return (FrrReplace prog) = false
is_return FrrPurge = false
is_return (Attachx unit estai term) = false
is_return (Detach unit stae) = false
is_return (Abterm unit code reason dump retry) = false
is_return (Memterm code) = false
is_return (MgrAdd prog space) = false
is_return (MgrDelete prog space) = false
is_return (Schedule unit) = false
is_return (Wait event) = false
is_return (WaitTask unit) = false
is_return (Post event) = false
is_return (SetRp setrp) = false
is_return (Ret15 rc label) = false
is_return (Branch label) = false
is_return (IfCode code label) = false
is_return (IfClup label) = false
is_return (IfPerc label) = false

-- what a unit asks that stands at that card: no manager, no holding, and no fate but the card's own
abbrev pub needs_of_card : DeckView → World → ℕ → Op → Surroundings
needs_of_card d w u op = record {
  srb = wants_task op && is_srb d u;
  abort = first_abort (UnitOfWork.pending (unit_at u w.units));
  subtask = is_return op && has_subtask u (Tree.lives w.tree);
  manager = None;
  holding = None;
  crowded = is_crowded w u op;
  found = is_found w u op;
  unborn = is_unborn w op;
  own = is_own w u op;
  fate = card_fate w op;
  to_task = None;
  to_step = None;
}

-- what an ending asks, one after the other: whether a subtask lives, the next manager, the next holding, and last what
-- would become of the aborts that its DONE posts
abbrev pub needs_at_end : Bool → Option Manager1 → Option Holding → Option Fate → Option Fate → Surroundings
needs_at_end true manager holding to_task to_step = record no_needs { subtask = true }
needs_at_end false (Some manager) holding to_task to_step = record no_needs { manager = Some manager }
needs_at_end false None (Some holding) to_task to_step = record no_needs { holding = Some holding }
needs_at_end false None None to_task to_step = record no_needs { to_task = to_task; to_step = to_step }

abbrev pub needs_of_end : DeckView → World → ℕ → Surroundings
needs_of_end d w u =
    needs_at_end (has_subtask u (Tree.lives w.tree)) (next_manager (whose d u) w.managers) (next_release (whose d u) w.holdings)
    (related_fate w (related_task d u)) (step_fate d w u)

-- the master at memory end has no subtask and posts no abort
abbrev pub needs_of_memory_end : World → Surroundings
needs_of_memory_end w = needs_at_end false (next_manager None w.managers) (next_release None w.holdings) None None

-- the unit has begun to end, and no inner bracket is open
abbrev pub is_ending : Core → Bool
is_ending c = is_some c.begun && is_outermost c.levels

abbrev pub needs_of_master_core : DeckView → World → Core → Surroundings
needs_of_master_core d w c =
    if is_outermost c.levels then needs_of_memory_end w else needs_of_card d w (master d) (op_here d c)

-- and the master's at memory end
abbrev pub needs_of_master : DeckView → World → Surroundings
needs_of_master d w = needs_of_master_core d w (core_at (master d) w)

-- the unit waits at a card of WAIT or WAITT: what it waits for isn't there, and the card is no error of mode
abbrev pub waits_at : DeckView → ℕ → Core → Bool → Bool
waits_at d u c found = not found && not (is_srb d u) && may_wait c
