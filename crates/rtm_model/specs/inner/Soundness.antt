-- What the world keeps after every legal history: counts within their limits, brackets that stand in one another, each
-- with a request block, routines that are owned, and numbers in their ranges (this profile).
use Rattle.std.specs.Prelude.{Bool, IfSome, IsSome, List, None, Option, Some, [], false, filter, find, if◌then◌else◌, is_none, is_some, length, not, slice_index_or, true, ℕ, ◌&&◌, ◌+◌, ◌-◌, ◌<◌, ◌≡◌, ◌≤◌, ◌∷◌}
use Rattle.std.specs.List.{AllByRecursion}
use Rattle.rtm_codes.specs.Code.{IsInRange}
use Rattle.rtm_deck_items.specs.Reading.{lines_of}
use Rattle.rtm_deck_items.specs.View.{DeckView}
use Rattle.rtm_deck_operands.specs.declared.value.Res.{Res}
use Rattle.rtm_deck_operands.specs.declared.value.Res.TheVariants.{Dsn, Enq, Stor, Timr}
use Rattle.rtm_model.specs.declared.abort.Abort.{Abort}
use Rattle.rtm_model.specs.declared.block.Block.{Block}
use Rattle.rtm_model.specs.declared.block.Place.{Place}
use Rattle.rtm_model.specs.declared.error_record.ErrorRecord.{ErrorRecord}
use Rattle.rtm_model.specs.declared.holding.Holding.{Holding}
use Rattle.rtm_model.specs.declared.holding.Manager1.{Manager1}
use Rattle.rtm_model.specs.declared.reg.Kind.{Kind}
use Rattle.rtm_model.specs.declared.reg.Kind.TheVariants.{Estae, Estai, Frr}
use Rattle.rtm_model.specs.declared.reg.Reg.{Reg}
use Rattle.rtm_model.specs.Aborts.{HasDistinctClasses}
use Rattle.rtm_model.specs.Blocks.{is_block_of}
use Rattle.rtm_model.specs.Ending.{Holdings, held_count, holdings_of}
use Rattle.rtm_model.specs.Levels.{Bracket, depth_in, innermost_bracket, is_manager}
use Rattle.rtm_model.specs.Limits.{deepest, most_blocks, most_brackets, most_estaes, most_frrs, most_holdings, most_managers, words}
use Rattle.rtm_model.specs.Tasks.{Life, Tree, is_dormant, life_of}
use Rattle.rtm_model.specs.World.{Core, UnitOfWork, World, core_at, lives_in, master, unborn_unit, unit_at}

-- Numbers in their ranges

-- a reason code has 32 bits (Assembler Services Reference, ABEND)
abbrev pub IsReason : Option ℕ → Type 0
IsReason reason = IfSome reason (λ n. n < words)

-- a place of the deck: an operation of a program, or the place behind its last card
pub record IsPlace (d : DeckView) (place : Place) : Type 0 where
  pub prog : place.prog < length d.programs
  pub first : 1 ≤ place.op
  pub last : place.op ≤ length (lines_of d place.prog) + 1

-- a record that shows a completion code and a reason
pub record IsRecord (r : ErrorRecord) : Type 0 where
  pub code : IsInRange r.code
  pub reason : IsReason r.reason

-- Request blocks

-- a bracket has at least one request block, and so many at most, and each stands at a place
pub record IsBracket (d : DeckView) (blocks : List Block) : Type 0 where
  pub some : 1 ≤ length blocks
  pub few : length blocks ≤ most_blocks
  pub places : AllByRecursion (λ block. IsPlace d block.place) blocks

-- the request blocks of a bracket were born before that number, each before the newer one
abbrev pub BlocksFall : ℕ → List Block → Type 0
BlocksFall n [] = Unit {0}
BlocksFall n (block ∷ older) = (block.born < n) × BlocksFall block.born older

-- the birth of a bracket's oldest request block, or that number where it has none
abbrev pub oldest_or : ℕ → List Block → ℕ
oldest_or n [] = n
oldest_or n (block ∷ older) = oldest_or block.born older

-- all request blocks of a bracket are younger than those of the brackets that enclose it
abbrev pub BracketsFall : ℕ → List (List Block) → Type 0
BracketsFall n [] = Unit {0}
BracketsFall n (blocks ∷ outer) = BlocksFall n blocks × BracketsFall (oldest_or n blocks) outer

-- Levels

-- The outermost bracket has no routine. Every other one has: a recovery routine, and then the error that it was
-- entered for is open in the enclosing bracket; or a resource manager, and then none is open there.
abbrev pub StandsIn : Option Reg → Option Bracket → Type 0
StandsIn None None = Unit {0}
StandsIn None (Some outer) = ⊥
StandsIn (Some reg) None = ⊥
StandsIn (Some reg) (Some outer) = is_some outer.error ≡ not (is_manager reg.kind)

-- each bracket stands so in the next
abbrev pub AreNested : List Bracket → Type 0
AreNested [] = Unit {0}
AreNested (l ∷ ls) = StandsIn l.routine (innermost_bracket ls) × AreNested ls

-- no error is open in the outermost bracket
abbrev pub OutermostQuiet : List Bracket → Type 0
OutermostQuiet [] = Unit {0}
OutermostQuiet (l ∷ []) = l.error ≡ None
OutermostQuiet (l ∷ outer ∷ ls) = OutermostQuiet (outer ∷ ls)

-- Recovery routines

-- a recovery routine of that kind, of a program of the deck, made in any bracket but the last
pub record IsRoutine (d : DeckView) (kind : Kind) (reg : Reg) : Type 0 where
  pub kind_is : reg.kind ≡ kind
  pub prog : reg.prog < length d.programs
  pub depth : reg.depth < deepest

-- each routine was born before that number, in a bracket no deeper than that; and each older one before the newer one,
-- in a bracket no deeper than its
abbrev pub RoutinesFall : ℕ → ℕ → List Reg → Type 0
RoutinesFall n depth [] = Unit {0}
RoutinesFall n depth (reg ∷ older) = (reg.born < n) × (reg.depth ≤ depth) × RoutinesFall reg.born reg.depth older

-- the request blocks of the bracket of that depth, of a unit whose innermost bracket has the depth `innermost`
abbrev pub bracket_at : ℕ → ℕ → List (List Block) → List Block
bracket_at innermost depth blocks = slice_index_or blocks (innermost - depth) []

-- the routine that runs in a bracket was born before that entry
abbrev pub RunsSince : ℕ → Bracket → Type 0
RunsSince n l = IfSome l.routine (λ reg. reg.born < n)

-- the request block that made the routine lives, in the routine's bracket
abbrev pub HasOwner : ℕ → List (List Block) → Reg → Type 0
HasOwner innermost blocks reg = IsSome (find (is_block_of reg.owner) (bracket_at innermost reg.depth blocks))

-- A unit's own control blocks after n entries

pub record IsCoreSound (d : DeckView) (n : ℕ) (c : Core) : Type 0 where
  pub levels_some : 1 ≤ length c.levels
  pub levels_few : length c.levels ≤ most_brackets
  pub nested : AreNested c.levels
  pub routines : AllByRecursion (RunsSince n) c.levels
  pub records : AllByRecursion (λ (l : Bracket). IfSome l.error IsRecord) c.levels
  pub brackets : AllByRecursion (IsBracket d) c.blocks
  pub births : BracketsFall (n + 1) c.blocks
  pub frrs_few : length c.frrs ≤ most_frrs
  pub frrs : AllByRecursion (IsRoutine d Frr) c.frrs
  pub frrs_fall : RoutinesFall n (depth_in c.levels) c.frrs
  pub estaes_few : length c.estaes ≤ most_estaes
  pub estaes : AllByRecursion (IsRoutine d Estae) c.estaes
  pub estaes_fall : RoutinesFall n (depth_in c.levels) c.estaes
  pub owned : AllByRecursion (HasOwner (depth_in c.levels) c.blocks) c.estaes
  pub estais : AllByRecursion (IsRoutine d Estai) c.estais
  pub estais_fall : RoutinesFall n 0 c.estais
  pub begun : IfSome c.begun (λ b. IsInRange b.code × IfSome b.cause IsRecord)
  pub ending_quiet : IsSome c.begun → OutermostQuiet c.levels

-- Pending aborts after n entries

pub record IsAbort (n : ℕ) (abort : Abort) : Type 0 where
  pub code : IsInRange abort.code
  pub reason : IsReason abort.reason
  pub from : abort.from < n

-- each was posted no earlier than the one before it, the first no earlier than at that entry
abbrev pub ComeInOrder : ℕ → List Abort → Type 0
ComeInOrder n [] = Unit {0}
ComeInOrder n (abort ∷ later) = (n ≤ abort.from) × ComeInOrder abort.from later

pub record ArePending (n : ℕ) (aborts : List Abort) : Type 0 where
  pub distinct : HasDistinctClasses aborts
  pub each : AllByRecursion (IsAbort n) aborts
  pub order : ComeInOrder 0 aborts

-- Holdings and managers after n entries

-- a holding of that owner and class
pub record IsHolding (owner : ℕ) (class : Res) (holding : Holding) : Type 0 where
  pub owner_is : holding.owner ≡ owner
  pub class_is : holding.class ≡ class
  pub id : holding.id ≤ 999999

-- each was got before that entry, and each older one before the newer one
abbrev pub HoldingsFall : ℕ → List Holding → Type 0
HoldingsFall n [] = Unit {0}
HoldingsFall n (holding ∷ older) = (holding.born < n) × HoldingsFall holding.born older

pub record AreHeld (n owner : ℕ) (class : Res) (held : List Holding) : Type 0 where
  pub each : AllByRecursion (IsHolding owner class) held
  pub fall : HoldingsFall n held

pub record AreHoldings (n owner : ℕ) (held : Holdings) : Type 0 where
  pub few : held_count held ≤ most_holdings
  pub enq : AreHeld n owner Enq held.enq
  pub stor : AreHeld n owner Stor held.stor
  pub dsn : AreHeld n owner Dsn held.dsn
  pub timr : AreHeld n owner Timr held.timr

-- a manager's program and task are the deck's
pub record IsManager (d : DeckView) (manager : Manager1) : Type 0 where
  pub prog : manager.prog < length d.programs
  pub task : IfSome manager.task (λ task. task < length d.units)

-- each was added before that entry, and each older one before the newer one
abbrev pub ManagersFall : ℕ → List Manager1 → Type 0
ManagersFall n [] = Unit {0}
ManagersFall n (manager ∷ older) = (manager.born < n) × ManagersFall manager.born older

-- Units among each other

-- the unit lives, and hasn't begun to end
abbrev pub stands : World → ℕ → Bool
stands w u = lives_in w u && is_none (Core.begun (core_at u w))

-- how many units were born so far
abbrev pub born_units : List Life → ℕ
born_units lives = length (filter (λ life. not (is_dormant life)) lives)

-- The world after n entries of a legal history

pub record IsSound (d : DeckView) (n : ℕ) (w : World) : Type 0 where
  pub units_len : length w.units ≡ length d.units + 1
  pub lives_len : length (Tree.lives w.tree) ≡ length d.units
  pub owners_len : length w.holdings ≡ length d.units + 1
  pub cores : (u : ℕ) → IsCoreSound d n (core_at u w)
  -- a unit that stands has request blocks in each bracket, any other in all but the outermost
  pub blocks : (u : ℕ) → length (Core.blocks (core_at u w)) + (if stands w u then 0 else 1) ≡ length (Core.levels (core_at u w))
  pub master_quiet : OutermostQuiet (Core.levels (core_at (master d) w))
  -- a unit that wasn't born yet is as it was at the start
  pub dormant : (u : ℕ) → u < length d.units → is_dormant (life_of u (Tree.lives w.tree)) ≡ true → unit_at u w.units ≡ unborn_unit
  -- each unit has fewer ESTAI routines than units were born so far
  pub estais : (u : ℕ) → length (Core.estais (core_at u w)) < born_units (Tree.lives w.tree)
  pub pending : (u : ℕ) → ArePending n (UnitOfWork.pending (unit_at u w.units))
  -- no abort is pending for a unit that doesn't stand
  pub quiet : (u : ℕ) → stands w u ≡ false → UnitOfWork.pending (unit_at u w.units) ≡ []
  pub holdings : (u : ℕ) → AreHoldings n u (holdings_of u w.holdings)
  pub managers_few : length w.managers ≤ most_managers
  pub managers : AllByRecursion (IsManager d) w.managers
  pub managers_fall : ManagersFall n w.managers
  pub memory_end : IfSome w.memory_end IsInRange
