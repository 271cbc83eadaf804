-- Which of the operator's commands may arrive (this profile).
use Rattle.std.specs.Prelude.{Bool, List, None, Option, Some, [], false, filter, if◌then◌else◌, is_none, is_some, length, nat_le, not, slice_get, suc, take, zero, ℕ, ◌&&◌, ◌+◌, ◌==◌, ◌||◌, ◌∷◌}
use Rattle.std.specs.Option.{option_map, option_map_or, option_or}
use Rattle.rtm_deck_items.specs.View.{DeckView}
use Rattle.rtm_deck_items.specs.declared.deck.Command.{Command}
use Rattle.rtm_model.specs.declared.entry.Entry.{Entry}
use Rattle.rtm_model.specs.declared.entry.Fate.{Fate}
use Rattle.rtm_model.specs.declared.entry.What.TheVariants.{Arrive}
use Rattle.rtm_model.specs.NextEntry.{next}
use Rattle.rtm_model.specs.Surroundings.{fate_in, is_late}
use Rattle.rtm_model.specs.World.{UnitOfWork, World, master, unit_at}
use Rattle.rtm_model.specs.declared.entry.Class.TheVariants as classes

-- some unit below that number has a next entry
abbrev pub goes_on_below : DeckView → World → ℕ → Bool
goes_on_below d w zero = false
goes_on_below d w (suc u) = goes_on_below d w u || is_some (next d w u)

-- some unit has a next entry, the master among them
abbrev pub goes_on : DeckView → World → Bool
goes_on d w = goes_on_below d w (suc (master d))

-- how many commands before that one have the same target
abbrev pub earlier_count : ℕ → ℕ → List Command → ℕ
earlier_count target cmd commands = length (filter (λ command. command.target == target) (take cmd commands))

-- the target can be cancelled: it lives, hasn't begun to end, and memory end hasn't begun
abbrev pub is_cancellable : World → ℕ → Bool
is_cancellable w target = not (is_late w target) && is_none w.memory_end

-- the target's earlier commands have arrived, and this one hasn't
abbrev pub is_in_turn : DeckView → World → ℕ → ℕ → Bool
is_in_turn d w target cmd = earlier_count target cmd d.commands == UnitOfWork.arrived (unit_at target w.units)

-- the command may arrive after n entries; `quiet` says that no unit has a next entry
abbrev pub is_due : DeckView → World → ℕ → Bool → ℕ → Command → Bool
is_due d w n quiet cmd command =
    is_cancellable w command.target && is_in_turn d w command.target cmd && (nat_le command.at n || quiet)

-- what becomes of the cancel that it posts, where it may arrive
abbrev pub arrival_fate : DeckView → World → ℕ → Bool → ℕ → Option Command → Option Fate
arrival_fate d w n quiet cmd None = None
arrival_fate d w n quiet cmd (Some command) =
    if is_due d w n quiet cmd command then Some (fate_in w command.target classes.Cancel) else None

abbrev pub may_arrive : DeckView → World → ℕ → ℕ → Option Fate
may_arrive d w n cmd = arrival_fate d w n (not (goes_on d w)) cmd (slice_get d.commands cmd)

-- the entry of its arrival, which is its target's
abbrev pub arrival_entry : ℕ → ℕ → Fate → Entry
arrival_entry target cmd fate = record { unit = target; what = Arrive cmd fate }

abbrev pub arrival_of : ℕ → ℕ → Option Fate → Option Entry
arrival_of target cmd fate = option_map (arrival_entry target cmd) fate

-- the target of that command
abbrev pub target_of : DeckView → ℕ → ℕ
target_of d cmd = option_map_or (λ command. command.target) (slice_get d.commands cmd) 0

abbrev pub arrival : DeckView → World → ℕ → ℕ → Option Entry
arrival d w n cmd = arrival_of (target_of d cmd) cmd (may_arrive d w n cmd)

-- the arrival of the first command that may arrive, of these, of which the first has that number
abbrev pub first_arrival_in : DeckView → World → ℕ → Bool → ℕ → List Command → Option Entry
first_arrival_in d w n quiet cmd [] = None
first_arrival_in d w n quiet cmd (command ∷ commands) =
    option_or (arrival_of command.target cmd (arrival_fate d w n quiet cmd (Some command)))
    (first_arrival_in d w n quiet (cmd + 1) commands)

-- the arrival of the first command, in the order of the deck, that may arrive
abbrev pub first_arrival : DeckView → World → ℕ → Bool → Option Entry
first_arrival d w n quiet = first_arrival_in d w n quiet 0 d.commands
