-- The history that a single thread makes: the units in turns, and arrivals first (this profile).
use Rattle.std.specs.Prelude.{List, None, Option, Some, [], if◌then◌else◌, not, suc, zero, ℕ, ◌+◌, ◌==◌, ◌∷◌}
use Rattle.std.specs.Option.{option_map, option_or}
use Rattle.rtm_deck_items.specs.View.{DeckView}
use Rattle.rtm_model.specs.declared.entry.End.{End}
use Rattle.rtm_model.specs.declared.entry.Entry.{Entry}
use Rattle.rtm_model.specs.declared.entry.What.{What}
use Rattle.rtm_model.specs.declared.entry.What.TheVariants.{Arrive}
use Rattle.rtm_model.specs.Arrivals.{first_arrival, goes_on}
use Rattle.rtm_model.specs.Advance.{advance}
use Rattle.rtm_model.specs.Legal.{end_in}
use Rattle.rtm_model.specs.NextEntry.{next}
use Rattle.rtm_model.specs.World.{World, master, start}

-- the number after that of a unit, round past the master
abbrev pub after : DeckView → ℕ → ℕ
after d u = if u == master d then 0 else u + 1

abbrev pub entry_of : ℕ → What → Entry
entry_of u what = record { unit = u; what = what }

-- the entry of the first of so many units, from u on, that has one
abbrev pub turn : DeckView → World → ℕ → ℕ → Option Entry
turn d w u zero = None
turn d w u (suc units) = option_or (option_map (entry_of u) (next d w u)) (turn d w (after d u) units)

-- the entry that is made where the turn is at u: the first arrival, else the first unit's that has one
abbrev pub seq_step : DeckView → World → ℕ → ℕ → Option Entry
seq_step d w n u = option_or (first_arrival d w n (not (goes_on d w))) (turn d w u (suc (master d)))

-- whose turn comes after an entry; an arrival leaves it where it is
abbrev pub turn_after : DeckView → ℕ → ℕ → What → ℕ
turn_after d u unit (Arrive cmd _) = u
turn_after d u unit what = after d unit

-- whose turn it is after a history: that of the unit behind the last entry that isn't an arrival
abbrev pub turn_from : DeckView → ℕ → List Entry → ℕ
turn_from d u [] = u
turn_from d u (e ∷ es) = turn_from d (turn_after d u e.unit e.what) es

-- no end yet, and an entry: it is made, and the rest follows
abbrev pub seq_more : Option End → Option Entry → (Entry → List Entry) → List Entry
seq_more None (Some e) rest = e ∷ rest e
seq_more None None rest = []
seq_more (Some end) e rest = []

-- what a single thread makes in at most so many entries, where the turn is at u
abbrev pub seq_from : DeckView → World → ℕ → ℕ → ℕ → List Entry
seq_from d w n u zero = []
seq_from d w n u (suc more) =
    seq_more (end_in d w n) (seq_step d w n u)
    (λ e. seq_from d (advance d w n e) (n + 1) (turn_after d u e.unit e.what) more)

-- the history that a single thread makes until it ends
unfoldable pub seq : DeckView → List Entry
seq d = seq_from d (start d) 0 0 d.limit
