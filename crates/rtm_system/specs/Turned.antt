-- What a system answers to those who run or judge a trace (this profile).
use Rattle.std.specs.Prelude.{List, None, Option, Some, if◌then◌else◌, is_some, length, nat_le, ℕ, ◌<◌}
use Rattle.std.specs.Option.{option_map}
use Rattle.rtm_deck_items.specs.View.{DeckView}
use Rattle.rtm_model.specs.declared.entry.Entry.{Entry}
use Rattle.rtm_model.specs.declared.entry.What.{What}
use Rattle.rtm_model.specs.declared.entry.What.TheVariants.{Arrive}
use Rattle.rtm_model.specs.Advance.{world}
use Rattle.rtm_model.specs.Legal.{MayFollow, end_in}
use Rattle.rtm_model.specs.NextEntry.{next}
use Rattle.rtm_model.specs.Turns.{entry_of, seq_step}
use Rattle.rtm_model.specs.World.{World}

-- the entry that a single thread makes after n entries, where the turn is at u; none where the history has an end
abbrev pub turn_in : DeckView → World → ℕ → ℕ → Option Entry
turn_in d w n u = if is_some (end_in d w n) then None else seq_step d w n u

abbrev pub turn_of : DeckView → List Entry → ℕ → Option Entry
turn_of d trace u = turn_in d (world d trace) (length trace) u

-- the entry that the machine gives a unit after the trace; none where the trace has as many entries as it may have
abbrev pub wanted_entry : DeckView → List Entry → ℕ → Option Entry
wanted_entry d trace u = if nat_le d.limit (length trace) then None else option_map (entry_of u) (next d (world d trace) u)

-- the entry may stand after the trace: there is room, and it is the arrival of a command or its unit's next entry
pub record IsNext (d : DeckView) (trace : List Entry) (e : Entry) : Type 0 where
  pub room : length trace < d.limit
  pub may : MayFollow d (world d trace) (length trace) e e.what

-- the command whose arrival the entry is, if it is one
abbrev pub arriving_command : What → Option ℕ
arriving_command (Arrive cmd _) = Some cmd
arriving_command _ = None
