-- What an entry needs so that it can be applied: that what it names is there, and room for what it makes (this
-- profile). What a unit makes next has it, by the laws of legal histories.
use Rattle.std.specs.Prelude.{Bool, IsSomeAnd, None, false, is_some, length, not, true, ℕ, ◌<◌, ◌≡◌, ◌≤◌}
use Rattle.rtm_codes.specs.Code.{IsInRange}
use Rattle.rtm_deck_items.specs.Reading.{op_at}
use Rattle.rtm_deck_items.specs.View.{DeckView}
use Rattle.rtm_deck_items.specs.declared.op.Op.{Op}
use Rattle.rtm_deck_items.specs.declared.op.Op.TheVariants.{Abend, Abterm, Attachx, Branch, Detach, EstaexCt, EstaexOv, EstaexZero, Free, FrrAdd, FrrDelete, FrrPurge, FrrReplace, Get, IfClup, IfCode, IfPerc, Link, Memterm, MgrAdd, MgrDelete, Nop, Post, Ret15, Return, Schedule, SetRp, Wait, WaitTask, Xctl}
use Rattle.rtm_model.specs.declared.block.Place.{Place}
use Rattle.rtm_model.specs.declared.entry.Class.{Class}
use Rattle.rtm_model.specs.declared.entry.Entry.{Entry}
use Rattle.rtm_model.specs.declared.entry.Verdict.{Verdict}
use Rattle.rtm_model.specs.declared.entry.Verdict.TheVariants.{Retry}
use Rattle.rtm_model.specs.declared.entry.What.{What}
use Rattle.rtm_model.specs.declared.entry.What.TheVariants.{Arrive, Begin, Done, Enter, Error, Exec, Land, Leave, MemEnd, Purge, Release}
use Rattle.rtm_model.specs.declared.mark.Mark.{Mark}
use Rattle.rtm_model.specs.declared.reg.Kind.{Kind}
use Rattle.rtm_model.specs.Aborts.{first_abort}
use Rattle.rtm_model.specs.OwnChange.{routine_named}
use Rattle.rtm_model.specs.Blocks.{has_one_block, newest_bracket, place_in}
use Rattle.rtm_model.specs.Ending.{held_count, holdings_of}
use Rattle.rtm_model.specs.Levels.{current, depth_in, error_in, is_manager}
use Rattle.rtm_model.specs.Limits.{deepest, most_blocks, most_brackets, most_estaes, most_frrs, most_holdings, most_managers}
use Rattle.rtm_model.specs.NextEntry.{landed_record}
use Rattle.rtm_model.specs.Record.{mark_of}
use Rattle.rtm_model.specs.inner.Soundness.{IsPlace, IsReason, stands}
use Rattle.rtm_model.specs.Tasks.{Tree, is_dormant, life_of}
use Rattle.rtm_model.specs.World.{Core, UnitOfWork, World, core_at, lives_in, master, unit_at}

-- the unit of that number is dormant
abbrev pub IsDormant : World → ℕ → Type 0
IsDormant w unit = is_dormant (life_of unit (Tree.lives w.tree)) ≡ true

-- a routine can be made: fewer than `most` live, and the innermost bracket isn't the last
pub record HasRoom (c : Core) (most living : ℕ) : Type 0 where
  pub few : living < most
  pub shallow : depth_in c.levels < deepest

-- what the card of a unit needs so that it can be executed with that return code
abbrev pub CanExecute : World → ℕ → ℕ → Op → Type 0
CanExecute w u rc (Link prog) = length (newest_bracket (Core.blocks (core_at u w))) < most_blocks
CanExecute w u rc Return = has_one_block (Core.blocks (core_at u w)) ≡ false
CanExecute w u rc (EstaexCt prog term cancel xctl) = HasRoom (core_at u w) most_estaes (length (Core.estaes (core_at u w)))
CanExecute w u rc (FrrAdd prog) = HasRoom (core_at u w) most_frrs (length (Core.frrs (core_at u w)))
CanExecute w u rc (Get class id) = held_count (holdings_of u w.holdings) < most_holdings
CanExecute w u rc (MgrAdd prog space) = length w.managers < most_managers
CanExecute w u rc (Attachx unit estai term) = rc ≡ 0 → IsDormant w unit
CanExecute w u rc (Schedule unit) = rc ≡ 0 → IsDormant w unit
CanExecute w u rc Nop = Unit {0}
CanExecute w u rc (Free class id) = Unit {0}
CanExecute w u rc (Xctl prog) = Unit {0}
CanExecute w u rc (Abend code reason dump step) = Unit {0}
CanExecute w u rc (EstaexOv prog term cancel xctl) = Unit {0}
CanExecute w u rc EstaexZero = Unit {0}
CanExecute w u rc FrrDelete = Unit {0}
CanExecute w u rc (FrrReplace prog) = Unit {0}
CanExecute w u rc FrrPurge = Unit {0}
CanExecute w u rc (Detach unit stae) = Unit {0}
CanExecute w u rc (Abterm unit code reason dump retry) = Unit {0}
CanExecute w u rc (Memterm code) = Unit {0}
CanExecute w u rc (MgrDelete prog space) = Unit {0}
CanExecute w u rc (Wait event) = Unit {0}
CanExecute w u rc (WaitTask unit) = Unit {0}
CanExecute w u rc (Post event) = Unit {0}
CanExecute w u rc (SetRp setrp) = Unit {0}
CanExecute w u rc (Ret15 rc2 label) = Unit {0}
CanExecute w u rc (Branch label) = Unit {0}
CanExecute w u rc (IfCode code label) = Unit {0}
CanExecute w u rc (IfClup label) = Unit {0}
CanExecute w u rc (IfPerc label) = Unit {0}

-- no error is open in the innermost bracket, whose newest request block stands at the place
pub record StandsAt (d : DeckView) (c : Core) (at : Place) : Type 0 where
  pub quiet : error_in c.levels ≡ None
  pub some : 1 ≤ length (newest_bracket c.blocks)
  pub place : at ≡ place_in c.blocks

-- the routine of that name can be entered: a recovery routine for the open error, or a resource manager where none is
pub record CanEnter (c : Core) (manager : Bool) (prog programs : ℕ) : Type 0 where
  pub shallow : length c.levels < most_brackets
  pub cause : is_some (error_in c.levels) ≡ not manager
  pub prog_in : prog < programs

-- a retry goes on at a place of the deck
abbrev pub RetriesAt : DeckView → Verdict → Type 0
RetriesAt d (Retry place) = IsPlace d place
RetriesAt d _ = Unit {0}

-- what a mark shows is in range
pub record IsMark (mark : Mark) : Type 0 where
  pub code : IsInRange mark.code
  pub reason : IsReason mark.reason

-- the routine that runs in the innermost bracket has that name
pub record CanLeave (d : DeckView) (c : Core) (kind : Kind) (born : ℕ) (verdict : Verdict) : Type 0 where
  pub inner : 2 ≤ length c.levels
  pub own : IsSomeAnd (current c.levels) (λ reg. (reg.kind ≡ kind) × (reg.born ≡ born))
  pub retries : RetriesAt d verdict

-- the abort that lands is the first that is pending
abbrev pub CanLand : World → ℕ → Class → ℕ → Mark → Type 0
CanLand w u class from mark = IsSomeAnd (first_abort (UnitOfWork.pending (unit_at u w.units)))
    (λ abort. (abort.class ≡ class) × (abort.from ≡ from) × (mark ≡ mark_of (landed_record abort)))

abbrev pub CanMake : DeckView → World → ℕ → What → Type 0
CanMake d w u (Exec at rc) =
    StandsAt d (core_at u w) at × CanExecute w u rc (op_at d at.prog at.op) × (rc < 256)
CanMake d w u (Error at mark) = StandsAt d (core_at u w) at × IsMark mark
CanMake d w u (Land class from mark) =
    (stands w u ≡ true) × (error_in (Core.levels (core_at u w)) ≡ None) × CanLand w u class from mark
CanMake d w u (Enter kind reg mark bare) = IsSomeAnd (routine_named kind reg w.managers (core_at u w))
    (λ routine. (routine.kind ≡ kind) × (routine.born ≡ reg)
    × CanEnter (core_at u w) (is_manager kind) routine.prog (length d.programs)) × IsMark mark
CanMake d w u (Leave kind reg verdict logrec dump) = CanLeave d (core_at u w) kind reg verdict
CanMake d w u (Arrive cmd _) = (stands w u ≡ true) × (cmd < length d.commands)
CanMake d w u (Begin code dump) = (stands w u ≡ true) × (depth_in (Core.levels (core_at u w)) ≡ 0) × IsInRange code
CanMake d w u (Release class id owner) = (id ≤ 999999) × (owner ≤ length d.units)
CanMake d w u (Done code to_task to_step) =
    (lives_in w u ≡ true) × IsSomeAnd (Core.begun (core_at u w)) (λ begun. begun.code ≡ code)
CanMake d w u (Purge unit) = (unit < length d.units) × (lives_in w unit ≡ true)
CanMake d w u MemEnd = Unit {0}

-- an entry of a unit, or of the master, that can be applied
pub record CanApply (d : DeckView) (w : World) (e : Entry) : Type 0 where
  pub unit : e.unit ≤ master d
  pub what : CanMake d w e.unit e.what
