-- What a system answers to a step, and to a command that is to arrive (this profile).
use Rattle.std.specs.Prelude.{Bool, List, None, Option, Some, [], false, if◌then◌else◌, is_some, length, nat_le, true, ℕ, ◌||◌, ◌∷◌}
use Rattle.rtm_deck_items.specs.View.{DeckView}
use Rattle.rtm_model.specs.declared.entry.End.{End}
use Rattle.rtm_model.specs.declared.entry.End.TheVariants.{Ended, Limit, Stalled}
use Rattle.rtm_model.specs.declared.entry.Entry.{Entry}
use Rattle.rtm_model.specs.declared.entry.What.{What}
use Rattle.rtm_model.specs.Arrivals.{arrival, target_of}
use Rattle.rtm_model.specs.Advance.{world}
use Rattle.rtm_model.specs.Legal.{end_in}
use Rattle.rtm_model.specs.NextEntry.{next}
use Rattle.rtm_model.specs.Tasks.{Tree, has_ended, life_of}
use Rattle.rtm_model.specs.Turns.{entry_of}
use Rattle.rtm_model.specs.World.{Core, World, core_at}
use Rattle.rtm_system.specs.declared.arrived.Arrived.{Arrived}
use Rattle.rtm_system.specs.declared.arrived.Arrived.TheVariants as arrivals
use Rattle.rtm_system.specs.declared.stepped.Stepped.{Stepped}
use Rattle.rtm_system.specs.declared.stepped.Stepped.TheVariants.{AtLimit, IsOver, Made, NotReady}

-- nothing can be added: the address space has ended, or nobody goes on
abbrev pub stops : Option End → Bool
stops (Some Ended) = true
stops (Some Stalled) = true
stops (Some Limit) = false
stops None = false

-- the unit's next entry is made
abbrev pub step_answer_by : ℕ → Option What → Stepped
step_answer_by u None = NotReady
step_answer_by u (Some what) = Made (entry_of u what)

-- the answer after n entries, after which w lives
abbrev pub step_answer_in : DeckView → World → ℕ → ℕ → Stepped
step_answer_in d w n u =
    if stops (end_in d w n) then IsOver else if nat_le d.limit n then AtLimit else step_answer_by u (next d w u)

-- the answer to a step of the unit after the trace
abbrev pub step_answer : DeckView → List Entry → ℕ → Stepped
step_answer d trace u = step_answer_in d (world d trace) (length trace) u

-- the entries that the step adds
abbrev pub entries_of : Stepped → List Entry
entries_of (Made e) = e ∷ []
entries_of NotReady = []
entries_of AtLimit = []
entries_of IsOver = []

-- the command never arrives any more: its target has begun to end, has ended or was purged, or memory end has begun
abbrev pub is_gone : DeckView → World → ℕ → Bool
is_gone d w cmd =
    has_ended (life_of (target_of d cmd) (Tree.lives w.tree)) || is_some (Core.begun (core_at (target_of d cmd) w)) || is_some w.memory_end

-- it arrives
abbrev pub arrives : Option Entry → Arrived
arrives None = arrivals.NotYet
arrives (Some e) = arrivals.Made e

abbrev pub arrival_answer_in : DeckView → World → ℕ → ℕ → Arrived
arrival_answer_in d w n cmd =
    if is_gone d w cmd then arrivals.Gone else if nat_le d.limit n then arrivals.NotYet else arrives (arrival d w n cmd)

-- the answer to the command of that number after the trace
abbrev pub arrival_answer : DeckView → List Entry → ℕ → Arrived
arrival_answer d trace cmd = arrival_answer_in d (world d trace) (length trace) cmd

abbrev pub entries_arrived : Arrived → List Entry
entries_arrived (arrivals.Made e) = e ∷ []
entries_arrived arrivals.NotYet = []
entries_arrived arrivals.Gone = []
