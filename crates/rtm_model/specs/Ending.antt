-- Holdings and resource managers, and which comes next when a unit or the address space ends (this profile; what a
-- resource manager is for: Authorized Assembler Services Guide, "Using resource managers").
use Rattle.std.specs.Prelude.{ℕ, ◌+◌, ◌<◌, Bool, true, false, not, ◌&&◌, ◌==◌, nat_lt, if◌then◌else◌, List, [], ◌∷◌, length, map, filter, find, fold, slice_get, slice_index_or, slice_set, Option, Some, None}
use Rattle.std.specs.Option.{option_or}
use Rattle.std.specs.List.{AllByRecursion}
use Rattle.rtm_deck_operands.specs.declared.value.Res.{Res}
use Rattle.rtm_deck_operands.specs.declared.value.Res.TheVariants.{Enq, Stor, Dsn, Timr}
use Rattle.rtm_model.specs.declared.holding.Holding.{Holding}
use Rattle.rtm_model.specs.declared.holding.Manager1.{Manager1}
use Rattle.rtm_model.specs.Chains.{without_first}

-- Holdings

-- what an owner holds: a list for each class, each newest first
pub record Holdings : Type 0 where
  pub enq : List Holding
  pub stor : List Holding
  pub dsn : List Holding
  pub timr : List Holding

-- an owner that holds nothing
abbrev pub no_holdings : Holdings
no_holdings = record { enq = []; stor = []; dsn = []; timr = [] }

-- its holdings of a class
abbrev pub of_class : Res → Holdings → List Holding
of_class Enq held = held.enq
of_class Stor held = held.stor
of_class Dsn held = held.dsn
of_class Timr held = held.timr

-- its holdings of a class changed
abbrev pub on_class : Res → (List Holding → List Holding) → Holdings → Holdings
on_class Enq f held = record held { enq = f held.enq }
on_class Stor f held = record held { stor = f held.stor }
on_class Dsn f held = record held { dsn = f held.dsn }
on_class Timr f held = record held { timr = f held.timr }

-- how many holdings it has, of all classes; at most 256 (this profile)
abbrev pub held_count : Holdings → ℕ
held_count held = length held.enq + length held.stor + length held.dsn + length held.timr

-- what the owner of that number holds; in a list of owners the master comes last
abbrev pub holdings_of : ℕ → List Holdings → Holdings
holdings_of owner owners = slice_index_or owners owner no_holdings

-- what the owner of that number holds, changed
abbrev pub on_owner : ℕ → (Holdings → Holdings) → List Holdings → List Holdings
on_owner owner f owners = slice_set owners owner (f (holdings_of owner owners))

-- what GET leaves: one more holding, the newest of its owner and class
abbrev pub after_get : Holding → List Holdings → List Holdings
after_get holding owners = on_owner holding.owner (on_class holding.class (λ held. holding ∷ held)) owners

-- the holding is of the resource of that number
abbrev pub is_of_id : ℕ → Holding → Bool
is_of_id id holding = holding.id == id

-- the holding that FREE speaks of: the newest of that owner, class and number
abbrev pub newest_equal : ℕ → Res → ℕ → List Holdings → Option Holding
newest_equal owner class id owners = find (is_of_id id) (of_class class (holdings_of owner owners))

-- what FREE leaves: that holding is gone
abbrev pub after_free : ℕ → Res → ℕ → List Holdings → List Holdings
after_free owner class id owners = on_owner owner (on_class class (without_first (is_of_id id))) owners

-- the first that is there, in the order of classes
abbrev pub first_by_class : (Res → Option Holding) → Option Holding
first_by_class of = option_or (of Enq) (option_or (of Stor) (option_or (of Dsn) (of Timr)))

-- the owner's newest holding of a class
abbrev pub newest_held : Res → Holdings → Option Holding
newest_held class held = slice_get (of_class class held) 0

-- the newer of two holdings, by their births
abbrev pub newer_holding : Option Holding → Option Holding → Option Holding
newer_holding None b = b
newer_holding (Some a) None = Some a
newer_holding (Some a) (Some b) = if nat_lt a.born b.born then Some b else Some a

-- the newest holding of a class, of all owners
abbrev pub newest_of_all : Res → List Holdings → Option Holding
newest_of_all class owners = fold newer_holding None (map (newest_held class) owners)

-- the holding that is released next when the owner of that number ends, or, with no number, when the address space
-- ends: the first by class, then the newest (this profile)
abbrev pub next_release : Option ℕ → List Holdings → Option Holding
next_release (Some owner) owners = first_by_class (λ class. newest_held class (holdings_of owner owners))
next_release None owners = first_by_class (λ class. newest_of_all class owners)

-- without the holding that was born at that entry
abbrev pub without_holding : ℕ → List Holding → List Holding
without_holding born held = filter (λ holding. not (holding.born == born)) held

-- an owner without the holding that was born at that entry
abbrev pub owner_after_release : ℕ → Holdings → Holdings
owner_after_release born held = record {
  enq = without_holding born held.enq;
  stor = without_holding born held.stor;
  dsn = without_holding born held.dsn;
  timr = without_holding born held.timr;
}

-- what a release leaves: the holding that was born at that entry is gone, whoever had it. (The machine says the same
-- step by owner, class and number: after_free.)
abbrev pub after_release : ℕ → List Holdings → List Holdings
after_release born owners = map (owner_after_release born) owners

-- each holding of the list was born before that entry
abbrev pub AreBornBefore : ℕ → List Holding → Type 0
AreBornBefore born held = AllByRecursion (λ holding. holding.born < born) held

-- each holding of the owner was born before that entry
pub record IsHeldBefore (born : ℕ) (held : Holdings) : Type 0 where
  pub enq : AreBornBefore born held.enq
  pub stor : AreBornBefore born held.stor
  pub dsn : AreBornBefore born held.dsn
  pub timr : AreBornBefore born held.timr

-- each holding of each owner was born before that entry
abbrev pub AreHeldBefore : ℕ → List Holdings → Type 0
AreHeldBefore born owners = AllByRecursion (IsHeldBefore born) owners

-- Resource managers, in one list for all tasks and the address space, newest first; at most 64 (this profile)

-- the same task, or the address space both times
abbrev pub is_same_task : Option ℕ → Option ℕ → Bool
is_same_task None None = true
is_same_task None (Some other) = false
is_same_task (Some task) None = false
is_same_task (Some task) (Some other) = task == other

-- the manager is of that task, or with none of the address space
abbrev pub is_of_task : Option ℕ → Manager1 → Bool
is_of_task task manager = is_same_task manager.task task

-- the manager is of that task, or the address space, and runs that program
abbrev pub is_equal_manager : ℕ → Option ℕ → Manager1 → Bool
is_equal_manager prog task manager = (manager.prog == prog) && is_of_task task manager

-- the manager that RESMGR DELETE speaks of: the newest of that program and task
abbrev pub newest_manager : ℕ → Option ℕ → List Manager1 → Option Manager1
newest_manager prog task managers = find (is_equal_manager prog task) managers

-- what RESMGR DELETE leaves: that manager is gone
abbrev pub after_delete : ℕ → Option ℕ → List Manager1 → List Manager1
after_delete prog task managers = without_first (is_equal_manager prog task) managers

-- the manager that gets control next when that task, or the address space, ends: the newest
abbrev pub next_manager : Option ℕ → List Manager1 → Option Manager1
next_manager task managers = find (is_of_task task) managers

-- without the manager that was born at that entry
abbrev pub without_manager : ℕ → List Manager1 → List Manager1
without_manager born managers = filter (λ manager. not (manager.born == born)) managers

-- without the managers of a task that is purged
abbrev pub without_managers_of : ℕ → List Manager1 → List Manager1
without_managers_of task managers = filter (λ manager. not (is_of_task (Some task) manager)) managers
