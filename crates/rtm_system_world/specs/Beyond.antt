-- What an entry needs beyond its own unit's control blocks, so that it can be carried out there (this profile).
use Rattle.std.specs.Prelude.{Bool, Option, false, length, true, ℕ, ◌<◌, ◌≡◌, ◌≤◌}
use Rattle.std.specs.Option.{option_map_or}
use Rattle.rtm_deck_items.specs.Reading.{job_step, op_at}
use Rattle.rtm_deck_items.specs.View.{DeckView}
use Rattle.rtm_deck_items.specs.declared.op.Op.{Op}
use Rattle.rtm_deck_items.specs.declared.op.Op.TheVariants.{Abend, Abterm, Attachx, Branch, Detach, EstaexCt, EstaexOv, EstaexZero, Free, FrrAdd, FrrDelete, FrrPurge, FrrReplace, Get, IfClup, IfCode, IfPerc, Link, Memterm, MgrAdd, MgrDelete, Nop, Post, Ret15, Return, Schedule, SetRp, Wait, WaitTask, Xctl}
use Rattle.rtm_model.specs.declared.entry.What.{What}
use Rattle.rtm_model.specs.declared.entry.What.TheVariants.{Arrive, Begin, Done, Enter, Error, Exec, Land, Leave, MemEnd, Purge, Release}
use Rattle.rtm_model.specs.declared.reg.Reg.{Reg}
use Rattle.rtm_model.specs.Births.{new_estai}
use Rattle.rtm_model.specs.Chains.{inherited_estais}
use Rattle.rtm_model.specs.Ending.{AreHeldBefore, held_count, holdings_of}
use Rattle.rtm_model.specs.Limits.{most_estais, most_holdings, most_managers}
use Rattle.rtm_model.specs.World.{Core, UnitOfWork, World, core_at, related_task, unborn_unit, unit_at}

-- the unit can be born: it is there, and as before its birth
pub record CanBeBorn (w : World) (unit : ℕ) : Type 0 where
  pub there : unit < length w.units
  pub unborn_is : unit_at unit w.units ≡ unborn_unit

-- and by ATTACHX: another attaches it, and there is room for its ESTAI routines
pub record CanBeAttached (n : ℕ) (w : World) (mother unit : ℕ) (estai : Option Reg) : Type 0 where
  pub born : CanBeBorn w unit
  pub other : unit ≡ mother → ⊥
  pub room : length (inherited_estais estai (Core.estais (core_at mother w))) ≤ most_estais

-- there is room for one more holding of the owner, which is the newest of all
pub record CanHold (d : DeckView) (n : ℕ) (w : World) (owner : ℕ) : Type 0 where
  pub there : owner ≤ length d.units
  pub few : held_count (holdings_of owner w.holdings) < most_holdings
  pub newest : AreHeldBefore n w.holdings

abbrev pub CanGoBeyond : DeckView → ℕ → World → ℕ → ℕ → Op → Type 0
CanGoBeyond d n w u rc (Get class id) = CanHold d n w u
CanGoBeyond d n w u rc (Attachx unit estai term) =
    rc ≡ 0 → CanBeAttached n w u unit (new_estai n term estai) × (u < length d.units)
CanGoBeyond d n w u rc (Schedule unit) = rc ≡ 0 → CanBeBorn w unit
CanGoBeyond d n w u rc (Detach unit stae) = unit < length w.units
CanGoBeyond d n w u rc (Abterm unit code reason dump retry) = unit < length w.units
CanGoBeyond d n w u rc (MgrAdd prog space) = length w.managers < most_managers
CanGoBeyond d n w u rc Nop = Unit {0}
CanGoBeyond d n w u rc (Free class id) = Unit {0}
CanGoBeyond d n w u rc (Link prog) = Unit {0}
CanGoBeyond d n w u rc (Xctl prog) = Unit {0}
CanGoBeyond d n w u rc Return = Unit {0}
CanGoBeyond d n w u rc (Abend code reason dump step) = Unit {0}
CanGoBeyond d n w u rc (EstaexCt prog term cancel xctl) = Unit {0}
CanGoBeyond d n w u rc (EstaexOv prog term cancel xctl) = Unit {0}
CanGoBeyond d n w u rc EstaexZero = Unit {0}
CanGoBeyond d n w u rc (FrrAdd prog) = Unit {0}
CanGoBeyond d n w u rc FrrDelete = Unit {0}
CanGoBeyond d n w u rc (FrrReplace prog) = Unit {0}
CanGoBeyond d n w u rc FrrPurge = Unit {0}
CanGoBeyond d n w u rc (Memterm code) = Unit {0}
CanGoBeyond d n w u rc (MgrDelete prog space) = Unit {0}
CanGoBeyond d n w u rc (Wait event) = Unit {0}
CanGoBeyond d n w u rc (WaitTask unit) = Unit {0}
CanGoBeyond d n w u rc (Post event) = Unit {0}
CanGoBeyond d n w u rc (SetRp setrp) = Unit {0}
CanGoBeyond d n w u rc (Ret15 rc2 label) = Unit {0}
CanGoBeyond d n w u rc (Branch label) = Unit {0}
CanGoBeyond d n w u rc (IfCode code label) = Unit {0}
CanGoBeyond d n w u rc (IfClup label) = Unit {0}
CanGoBeyond d n w u rc (IfPerc label) = Unit {0}

-- the card makes a unit, or posts an abort to one
abbrev pub is_of_units : Op → Bool
is_of_units (Attachx unit estai term) = true
is_of_units (Schedule unit) = true
is_of_units (Detach unit stae) = true
is_of_units (Abterm unit code reason dump retry) = true
is_of_units Nop = false
is_of_units (Get class id) = false
is_of_units (Free class id) = false
is_of_units (Link prog) = false
is_of_units (Xctl prog) = false
is_of_units Return = false
is_of_units (Abend code reason dump step) = false
is_of_units (EstaexCt prog term cancel xctl) = false
is_of_units (EstaexOv prog term cancel xctl) = false
is_of_units EstaexZero = false
is_of_units (FrrAdd prog) = false
is_of_units FrrDelete = false
is_of_units (FrrReplace prog) = false
is_of_units FrrPurge = false
is_of_units (Memterm code) = false
is_of_units (MgrAdd prog space) = false
is_of_units (MgrDelete prog space) = false
is_of_units (Wait event) = false
is_of_units (WaitTask unit) = false
is_of_units (Post event) = false
is_of_units (SetRp setrp) = false
is_of_units (Ret15 rc label) = false
is_of_units (Branch label) = false
is_of_units (IfCode code label) = false
is_of_units (IfClup label) = false
is_of_units (IfPerc label) = false

-- and any entry
abbrev pub CanDoBeyond : DeckView → ℕ → World → ℕ → What → Type 0
CanDoBeyond d n w u (Exec at rc) = CanGoBeyond d n w u rc (op_at d at.prog at.op)
CanDoBeyond d n w u (Arrive cmd _) = UnitOfWork.arrived (unit_at u w.units) < 255
CanDoBeyond d n w u (Done code to_task to_step) =
    (option_map_or (λ task. task) (related_task d u) 0 < length w.units) × (job_step d < length w.units)
CanDoBeyond d n w u (Purge unit) = unit < length w.units
CanDoBeyond d n w u (Error at mark) = Unit {0}
CanDoBeyond d n w u (Land class from mark) = Unit {0}
CanDoBeyond d n w u (Enter kind reg mark bare) = Unit {0}
CanDoBeyond d n w u (Leave kind reg verdict logrec dump) = Unit {0}
CanDoBeyond d n w u (Begin code dump) = Unit {0}
CanDoBeyond d n w u (Release class id owner) = Unit {0}
CanDoBeyond d n w u MemEnd = Unit {0}
