-- What an entry needs of its own unit's control blocks, so that it can be applied to them (this profile).
use Rattle.std.specs.Prelude.{IfSome, IsSomeAnd, IsTrue, List, Option, length, ℕ, ◌<◌, ◌≡◌, ◌||◌}
use Rattle.rtm_codes.specs.Code.{IsInRange}
use Rattle.rtm_deck_items.specs.Reading.{op_at}
use Rattle.rtm_deck_items.specs.View.{DeckView}
use Rattle.rtm_deck_items.specs.declared.op.Op.{Op}
use Rattle.rtm_deck_items.specs.declared.op.Op.TheVariants.{Abend, Abterm, Attachx, Branch, Detach, EstaexCt, EstaexOv, EstaexZero, Free, FrrAdd, FrrDelete, FrrPurge, FrrReplace, Get, IfClup, IfCode, IfPerc, Link, Memterm, MgrAdd, MgrDelete, Nop, Post, Ret15, Return, Schedule, SetRp, Wait, WaitTask, Xctl}
use Rattle.rtm_deck_operands.specs.Value.{is_return_code}
use Rattle.rtm_model.specs.declared.abort.Abort.{Abort}
use Rattle.rtm_model.specs.declared.entry.Class.{Class}
use Rattle.rtm_model.specs.declared.entry.What.{What}
use Rattle.rtm_model.specs.declared.entry.What.TheVariants.{Arrive, Begin, Done, Enter, Error, Exec, Land, Leave, MemEnd, Purge, Release}
use Rattle.rtm_model.specs.declared.holding.Manager1.{Manager1}
use Rattle.rtm_model.specs.declared.reg.Reg.{Reg}
use Rattle.rtm_model.specs.OwnChange.{routine_named}
use Rattle.rtm_model.specs.Blocks.{newest_bracket}
use Rattle.rtm_model.specs.Levels.{error_here, is_manager}
use Rattle.rtm_model.specs.Limits.{most_blocks, most_brackets, most_estaes, most_frrs}
use Rattle.rtm_model.specs.SetrpCard.{is_setrp_card}
use Rattle.rtm_model.specs.inner.Soundness.{IsPlace}
use Rattle.rtm_model.specs.World.{Core}

-- there is room for what a card makes: a request block, an ESTAE routine, an FRR (this profile)
abbrev pub HasRoomFor : Core → Op → Type 0
HasRoomFor c Nop = Unit {0}
HasRoomFor c (Get class id) = Unit {0}
HasRoomFor c (Free class id) = Unit {0}
HasRoomFor c (Link prog) = length (newest_bracket c.blocks) < most_blocks
HasRoomFor c (Xctl prog) = Unit {0}
HasRoomFor c Return = Unit {0}
HasRoomFor c (Abend code reason dump step) = Unit {0}
HasRoomFor c (EstaexCt prog term cancel xctl) = length c.estaes < most_estaes
HasRoomFor c (EstaexOv prog term cancel xctl) = Unit {0}
HasRoomFor c EstaexZero = Unit {0}
HasRoomFor c (FrrAdd prog) = length c.frrs < most_frrs
HasRoomFor c FrrDelete = Unit {0}
HasRoomFor c (FrrReplace prog) = Unit {0}
HasRoomFor c FrrPurge = Unit {0}
HasRoomFor c (Attachx unit estai term) = Unit {0}
HasRoomFor c (Detach unit stae) = Unit {0}
HasRoomFor c (Abterm unit code reason dump retry) = Unit {0}
HasRoomFor c (Memterm code) = Unit {0}
HasRoomFor c (MgrAdd prog space) = Unit {0}
HasRoomFor c (MgrDelete prog space) = Unit {0}
HasRoomFor c (Schedule unit) = Unit {0}
HasRoomFor c (Wait event) = Unit {0}
HasRoomFor c (WaitTask unit) = Unit {0}
HasRoomFor c (Post event) = Unit {0}
HasRoomFor c (SetRp setrp) = Unit {0}
HasRoomFor c (Ret15 rc label) = Unit {0}
HasRoomFor c (Branch label) = Unit {0}
HasRoomFor c (IfCode code label) = Unit {0}
HasRoomFor c (IfClup label) = Unit {0}
HasRoomFor c (IfPerc label) = Unit {0}

-- a card may do what it asks: SETRP's options and RET15's return code are in range
abbrev pub IsFitting : Op → Type 0
IsFitting Nop = Unit {0}
IsFitting (Get class id) = Unit {0}
IsFitting (Free class id) = Unit {0}
IsFitting (Link prog) = Unit {0}
IsFitting (Xctl prog) = Unit {0}
IsFitting Return = Unit {0}
IsFitting (Abend code reason dump step) = Unit {0}
IsFitting (EstaexCt prog term cancel xctl) = Unit {0}
IsFitting (EstaexOv prog term cancel xctl) = Unit {0}
IsFitting EstaexZero = Unit {0}
IsFitting (FrrAdd prog) = Unit {0}
IsFitting FrrDelete = Unit {0}
IsFitting (FrrReplace prog) = Unit {0}
IsFitting FrrPurge = Unit {0}
IsFitting (Attachx unit estai term) = Unit {0}
IsFitting (Detach unit stae) = Unit {0}
IsFitting (Abterm unit code reason dump retry) = Unit {0}
IsFitting (Memterm code) = Unit {0}
IsFitting (MgrAdd prog space) = Unit {0}
IsFitting (MgrDelete prog space) = Unit {0}
IsFitting (Schedule unit) = Unit {0}
IsFitting (Wait event) = Unit {0}
IsFitting (WaitTask unit) = Unit {0}
IsFitting (Post event) = Unit {0}
IsFitting (SetRp setrp) = IsTrue (is_setrp_card setrp)
IsFitting (Ret15 rc label) = IsTrue (is_return_code rc)
IsFitting (Branch label) = Unit {0}
IsFitting (IfCode code label) = Unit {0}
IsFitting (IfClup label) = Unit {0}
IsFitting (IfPerc label) = Unit {0}

-- the routine can be entered: there is room for its bracket, and a recovery routine has an open error (this profile)
abbrev pub CanBeEntered : Core → Reg → Type 0
CanBeEntered c reg =
    (length c.blocks < most_brackets) × (length c.levels < most_brackets) × IsTrue (is_manager reg.kind || error_here c.levels)

-- an abort that lands is the first that is pending, of which the entry gives the name: its class, and the entry that
-- posted it
abbrev pub NamesFirst : Class → ℕ → Option Abort → Type 0
NamesFirst class from abort = IsSomeAnd abort (λ abort. (abort.class ≡ class) × (abort.from ≡ from) × IsInRange abort.code)

abbrev pub LandsFirst : Option Abort → What → Type 0
LandsFirst abort (Exec at rc) = Unit {0}
LandsFirst abort (Error at mark) = Unit {0}
LandsFirst abort (Land class from mark) = NamesFirst class from abort
LandsFirst abort (Enter kind reg mark bare) = Unit {0}
LandsFirst abort (Leave kind reg verdict logrec dump) = Unit {0}
LandsFirst abort (Arrive cmd _) = Unit {0}
LandsFirst abort (Begin code dump) = Unit {0}
LandsFirst abort (Release class id owner) = Unit {0}
LandsFirst abort (Done code to_task to_step) = Unit {0}
LandsFirst abort (Purge unit) = Unit {0}
LandsFirst abort MemEnd = Unit {0}

-- The entry can be applied to a unit of which that abort is the first that is pending: a card stands at a place of the
-- deck and finds room, codes are in range, the abort that lands is that one, a routine can be entered, and an inner
-- bracket is there to be left (this profile).
abbrev pub CanApplyTo : DeckView → Core → List Manager1 → Option Abort → What → Type 0
CanApplyTo d c managers abort (Exec at rc) = IsPlace d at × HasRoomFor c (op_at d at.prog at.op)
CanApplyTo d c managers abort (Error at mark) = IsInRange mark.code
CanApplyTo d c managers abort (Land class from mark) = NamesFirst class from abort
CanApplyTo d c managers abort (Enter kind reg mark bare) = IfSome (routine_named kind reg managers c) (CanBeEntered c)
CanApplyTo d c managers abort (Leave kind reg verdict logrec dump) = 1 < length c.levels
CanApplyTo d c managers abort (Arrive cmd _) = Unit {0}
CanApplyTo d c managers abort (Begin code dump) = Unit {0}
CanApplyTo d c managers abort (Release class id owner) = Unit {0}
CanApplyTo d c managers abort (Done code to_task to_step) = Unit {0}
CanApplyTo d c managers abort (Purge unit) = Unit {0}
CanApplyTo d c managers abort MemEnd = Unit {0}
