-- What an entry changes beyond its own unit's control blocks, and what lives after a history (this profile).
use Rattle.std.specs.Prelude.{Bool, List, None, Option, Some, [], not, slice_get, true, ℕ, ◌+◌, ◌==◌, ◌∷◌, if◌then◌else◌}
use Rattle.std.specs.Option.{option_and_then}
use Rattle.rtm_codes.specs.declared.code.Code.{Code}
use Rattle.rtm_deck_items.specs.Reading.{op_at, job_step, program_of}
use Rattle.rtm_deck_items.specs.View.{DeckView}
use Rattle.rtm_deck_items.specs.declared.deck.Command.{Command}
use Rattle.rtm_deck_items.specs.declared.op.Op.{Op}
use Rattle.rtm_deck_items.specs.declared.op.Op.TheVariants.{Abend, Abterm, Attachx, Branch, Detach, EstaexCt, EstaexOv, EstaexZero, Free, FrrAdd, FrrDelete, FrrPurge, FrrReplace, Get, IfClup, IfCode, IfPerc, Link, Memterm, MgrAdd, MgrDelete, Nop, Post, Ret15, Return, Schedule, SetRp, Wait, WaitTask, Xctl}
use Rattle.rtm_model.specs.declared.entry.Entry.{Entry}
use Rattle.rtm_model.specs.declared.entry.What.{What}
use Rattle.rtm_model.specs.declared.entry.What.TheVariants.{Arrive, Begin, Done, Enter, Error, Exec, Land, Leave, MemEnd, Purge, Release}
use Rattle.rtm_model.specs.declared.error_record.ErrorRecord.{ErrorRecord}
use Rattle.rtm_model.specs.declared.holding.Manager1.{Manager1}
use Rattle.rtm_model.specs.declared.reg.Kind.{Kind}
use Rattle.rtm_model.specs.declared.reg.Reg.{Reg}
use Rattle.rtm_model.specs.Chains.{inherited_estais}
use Rattle.rtm_model.specs.Ending.{after_delete, after_free, after_get, without_manager, without_managers_of}
use Rattle.rtm_model.specs.Levels.{is_manager, outermost_alone}
use Rattle.rtm_model.specs.Surroundings.{manager_task}
use Rattle.rtm_model.specs.Tasks.{Tree, with_birth, with_end, with_event}
use Rattle.rtm_model.specs.World.{Beginning, Core, World, at_birth, core_at, on_unit, related_task, start}
use Rattle.rtm_model.specs.Births.{block_birth, new_estai}
use Rattle.rtm_model.specs.Posts.{abterm_abort, cancel_abort, detach_abort, mother_abort, post_related, post_step, post_to, post_to_subtasks}
use Rattle.rtm_model.specs.OwnChange.{own_change}

-- What an entry changes beyond its own unit's control blocks

-- a unit is born
abbrev pub with_unit : DeckView → ℕ → ℕ → Option ℕ → List Reg → World → World
with_unit d n unit mother estais w = record w {
  units = on_unit unit (at_birth (block_birth n) (program_of d unit) estais) w.units;
  tree = record w.tree { lives = with_birth mother unit (Tree.lives w.tree) };
}

-- ATTACHX: the task has the ESTAI routine that is named, then those of its mother
abbrev pub after_attach : DeckView → ℕ → ℕ → ℕ → Option ℕ → Bool → World → World
after_attach d n u unit estai term w =
    with_unit d n unit (Some u) (inherited_estais (new_estai n term estai) (Core.estais (core_at u w))) w

-- what a card that was executed with that return code changes of what units share, and of other units
abbrev pub beyond_card : DeckView → ℕ → ℕ → ℕ → Op → World → World
beyond_card d n u rc (Get class id) w =
    record w { holdings = after_get (record { born = n; class = class; id = id; owner = u }) w.holdings }
beyond_card d n u rc (Free class id) w = record w { holdings = after_free u class id w.holdings }
beyond_card d n u rc (Attachx unit estai term) w = if rc == 0 then after_attach d n u unit estai term w else w
beyond_card d n u rc (Schedule unit) w = if rc == 0 then with_unit d n unit None [] w else w
beyond_card d n u rc (Detach unit stae) w = post_to unit (detach_abort n stae) w
beyond_card d n u rc (Abterm unit code reason dump retry) w = post_to unit (abterm_abort n code reason dump retry) w
beyond_card d n u rc (Memterm code) w = record w { memory_end = Some code }
beyond_card d n u rc (MgrAdd prog space) w =
    record w { managers = record { born = n; prog = prog; task = manager_task u space } ∷ w.managers }
beyond_card d n u rc (MgrDelete prog space) w = record w { managers = after_delete prog (manager_task u space) w.managers }
beyond_card d n u rc (Post event) w =
    record w { tree = record w.tree { events = with_event event (Tree.events w.tree) } }
beyond_card d n u rc Nop w = w
beyond_card d n u rc (Link prog) w = w
beyond_card d n u rc (Xctl prog) w = w
beyond_card d n u rc Return w = w
beyond_card d n u rc (Abend code reason dump step) w = w
beyond_card d n u rc (EstaexCt prog term cancel xctl) w = w
beyond_card d n u rc (EstaexOv prog term cancel xctl) w = w
beyond_card d n u rc EstaexZero w = w
beyond_card d n u rc (FrrAdd prog) w = w
beyond_card d n u rc FrrDelete w = w
beyond_card d n u rc (FrrReplace prog) w = w
beyond_card d n u rc FrrPurge w = w
beyond_card d n u rc (Wait event) w = w
beyond_card d n u rc (WaitTask unit) w = w
beyond_card d n u rc (SetRp setrp) w = w
beyond_card d n u rc (Ret15 rc2 label) w = w
beyond_card d n u rc (Branch label) w = w
beyond_card d n u rc (IfCode code label) w = w
beyond_card d n u rc (IfClup label) w = w
beyond_card d n u rc (IfPerc label) w = w

-- a manager that was entered is gone
abbrev pub managers_left : Kind → ℕ → List Manager1 → List Manager1
managers_left kind born managers = if is_manager kind then without_manager born managers else managers

-- one more of the unit's commands has arrived
abbrev pub count_arrival : ℕ → World → World
count_arrival u w = record w { units = on_unit u (λ unit. record unit { arrived = unit.arrived + 1 }) w.units }

-- a command has arrived, and posts the cancel of its target
abbrev pub after_arrival : ℕ → ℕ → Option Command → World → World
after_arrival n u None w = w
after_arrival n u (Some command) w = count_arrival u (post_to u (cancel_abort n command.dump) w)

-- the end of the job step task begins memory end, with its code
abbrev pub memory_end_after : Bool → Code → Option Code → Option Code
memory_end_after is_job code memory_end = if is_job then Some code else memory_end

abbrev pub without_living : ℕ → Code → Bool → World → World
without_living u code is_job w = record w {
  tree = record w.tree { lives = with_end u (Tree.lives w.tree) };
  memory_end = memory_end_after is_job code w.memory_end;
}

-- a unit has ended, by the error of that record if by one
abbrev pub after_done : DeckView → ℕ → ℕ → Code → Option ErrorRecord → World → World
after_done d n u code cause w =
    post_step n (not (u == job_step d)) (job_step d) cause
    (post_related n (related_task d u) cause (without_living u code (u == job_step d) w))

-- the record of the error that led to the unit's end
abbrev pub cause_of : Option Beginning → Option ErrorRecord
cause_of begun = option_and_then (λ begun. begun.cause) begun

-- memory end takes a unit away: all that it has is gone, but for its holdings; that it was doomed and had begun to end
-- stays, and nobody reads it
abbrev pub purged_core : Core → Core
purged_core c = record c { blocks = []; levels = outermost_alone; frrs = []; estaes = []; estais = [] }

abbrev pub after_purge : ℕ → World → World
after_purge unit w = record w {
  units = on_unit unit (λ unit. record unit { core = purged_core unit.core; pending = [] }) w.units;
  tree = record w.tree { lives = with_end unit (Tree.lives w.tree) };
  managers = without_managers_of unit w.managers;
}

-- what the entry of index n, of the unit u, changes beyond the unit's own control blocks
abbrev pub beyond : DeckView → ℕ → ℕ → What → World → World
beyond d n u (Exec at rc) w = beyond_card d n u rc (op_at d at.prog at.op) w
beyond d n u (Leave kind reg verdict logrec dump) w = record w { managers = managers_left kind reg w.managers }
beyond d n u (Arrive cmd _) w = after_arrival n u (slice_get d.commands cmd) w
beyond d n u (Begin code dump) w =
    record w { units = post_to_subtasks u (mother_abort n) (Tree.lives w.tree) w.units }
beyond d n u (Release class id owner) w = record w { holdings = after_free owner class id w.holdings }
beyond d n u (Done code to_task to_step) w = after_done d n u code (cause_of (Core.begun (core_at u w))) w
beyond d n u (Purge unit) w = after_purge unit w
beyond d n u MemEnd w = record w { over = true }
beyond d n u (Error at mark) w = w
beyond d n u (Land class from mark) w = w
beyond d n u (Enter kind reg mark bare) w = w

-- what lives after the entry of index n
abbrev pub advance : DeckView → World → ℕ → Entry → World
advance d w n e =
    beyond d n e.unit e.what (record w { units = on_unit e.unit (own_change d n w.managers e.what) w.units })

-- what lives after a list of entries, of which the first has the index n
abbrev pub world_from : DeckView → World → ℕ → List Entry → World
world_from d w n [] = w
world_from d w n (e ∷ es) = world_from d (advance d w n e) (n + 1) es

-- what lives after the history
unfoldable pub world : DeckView → List Entry → World
world d history = world_from d (start d) 0 history
