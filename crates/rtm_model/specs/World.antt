-- What lives: the control blocks of each unit, and what all units of the address space share. In each list the newest
-- stands first, but for pending aborts (the first that came) and ESTAI routines (those of the nearest attacher).
use Rattle.std.specs.Prelude.{Bool, List, None, Option, [], false, length, map, not, replicate, slice_get, slice_index_or, slice_set, ℕ, ◌++◌, ◌+◌, ◌∷◌}
use Rattle.std.specs.Option.{option_and_then, option_map_or}
use Rattle.rtm_codes.specs.declared.code.Code.{Code}
use Rattle.rtm_deck_items.specs.Reading.{is_task_card, job_step, program_of}
use Rattle.rtm_deck_items.specs.View.{DeckView}
use Rattle.rtm_model.specs.declared.abort.Abort.{Abort}
use Rattle.rtm_model.specs.declared.block.Block.{Block}
use Rattle.rtm_model.specs.declared.error_record.ErrorRecord.{ErrorRecord}
use Rattle.rtm_model.specs.declared.holding.Manager1.{Manager1}
use Rattle.rtm_model.specs.declared.reg.Reg.{Reg}
use Rattle.rtm_model.specs.Blocks.{with_bracket}
use Rattle.rtm_model.specs.Ending.{Holdings, no_holdings}
use Rattle.rtm_model.specs.Levels.{Bracket, outermost_alone}
use Rattle.rtm_model.specs.Tasks.{Tree, is_living, life_of, tree_at_start}

-- how a unit has begun to end: with which code, and the record of the error that led to it, if an error did (this
-- profile)
pub record Beginning : Type 0 where
  pub code : Code
  pub cause : Option ErrorRecord

-- What only a unit's own birth, entries and purge change: the request blocks of each bracket, and per bracket the
-- routine that runs in it and its open error; the recovery routines that it has; that an abort without retry has
-- landed in it; and how it has begun to end. A unit that lives and hasn't begun to end has request blocks for each of
-- its levels; any other has none for the outermost, so that the blocks are one list shorter. (What belongs to a unit:
-- Authorized Assembler Services Guide, "Providing recovery")
pub record Core : Type 0 where
  pub blocks : List (List Block)
  pub levels : List Bracket
  pub frrs : List Reg
  pub estaes : List Reg
  pub estais : List Reg
  pub doomed : Bool
  pub begun : Option Beginning

-- a unit of work: its own control blocks, the aborts that are pending for it, and how many of its commands have
-- arrived
pub record UnitOfWork : Type 0 where
  pub core : Core
  pub pending : List Abort
  pub arrived : ℕ

-- What lives after a history: the units by number, the master's last; who lives and which events are posted; what
-- each unit holds; the resource managers; the end code of memory end, once it has begun; and that the address space
-- has ended.
pub record World : Type 0 where
  pub units : List UnitOfWork
  pub tree : Tree
  pub holdings : List Holdings
  pub managers : List Manager1
  pub memory_end : Option Code
  pub over : Bool

-- a unit before its birth, and the master: the outermost bracket alone, without a request block (this profile)
abbrev pub unborn_unit : UnitOfWork
unborn_unit = record {
  core = record {
    blocks = [];
    levels = outermost_alone;
    frrs = [];
    estaes = [];
    estais = [];
    doomed = false;
    begun = None;
  };
  pending = [];
  arrived = 0;
}

-- a unit's control blocks at its birth: one request block at the first operation of its program, and the ESTAI
-- routines that it inherits (Authorized Assembler Services Guide, "Providing recovery")
abbrev pub born_core : ℕ → ℕ → List Reg → Core → Core
born_core born prog estais c = record c { blocks = with_bracket born prog c.blocks; estais = estais }

abbrev pub at_birth : ℕ → ℕ → List Reg → UnitOfWork → UnitOfWork
at_birth born prog estais unit = record unit { core = born_core born prog estais unit.core }

-- the master's number is the number of units (this profile)
abbrev pub master : DeckView → ℕ
master d = length d.units

-- the related task of an SRB (Authorized Assembler Services Reference, SCHEDULE; that its card names it is this
-- profile's)
abbrev pub related_task : DeckView → ℕ → Option ℕ
related_task d u = option_and_then (λ unit. unit.related) (slice_get d.units u)

-- the unit is an SRB; the master is none
abbrev pub is_srb : DeckView → ℕ → Bool
is_srb d u = option_map_or (λ unit. not (is_task_card unit)) (slice_get d.units u) false

-- the unit of that number
abbrev pub unit_at : ℕ → List UnitOfWork → UnitOfWork
unit_at u units = slice_index_or units u unborn_unit

-- the unit of that number changed
abbrev pub on_unit : ℕ → (UnitOfWork → UnitOfWork) → List UnitOfWork → List UnitOfWork
on_unit u f units = slice_set units u (f (unit_at u units))

-- its control blocks
abbrev pub core_at : ℕ → World → Core
core_at u w = UnitOfWork.core (unit_at u w.units)

-- it was born and hasn't ended; the master is not asked
abbrev pub lives_in : World → ℕ → Bool
lives_in w u = is_living (life_of u (Tree.lives w.tree))

-- before the first entry the job step task lives, at the first operation of its program; so does the master (this
-- profile)
abbrev pub units_at_start : DeckView → List UnitOfWork
units_at_start d =
    on_unit (job_step d) (at_birth 0 (program_of d (job_step d)) []) (map (λ unit. unborn_unit) d.units ++ unborn_unit ∷ [])

-- what lives before the first entry
abbrev pub start : DeckView → World
start d = record {
  units = units_at_start d;
  tree = tree_at_start d;
  holdings = replicate (length d.units + 1) no_holdings;
  managers = [];
  memory_end = None;
  over = false;
}
