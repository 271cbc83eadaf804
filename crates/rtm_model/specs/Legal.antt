-- Which histories are legal, and how one ends (this profile).
use Rattle.std.specs.Prelude.{Bool, List, None, Option, Some, [], if◌then◌else◌, is_none, length, nat_le, not, ℕ, ◌&&◌, ◌+◌, ◌<◌, ◌∷◌, ◌≡◌}
use Rattle.rtm_deck_items.specs.View.{DeckView}
use Rattle.rtm_model.specs.declared.entry.End.{End}
use Rattle.rtm_model.specs.declared.entry.End.TheVariants.{Ended, Limit, Stalled}
use Rattle.rtm_model.specs.declared.entry.Entry.{Entry}
use Rattle.rtm_model.specs.declared.entry.What.{What}
use Rattle.rtm_model.specs.declared.entry.What.TheVariants.{Arrive}
use Rattle.rtm_model.specs.Arrivals.{arrival, first_arrival, goes_on}
use Rattle.rtm_model.specs.Advance.{advance, world}
use Rattle.rtm_model.specs.NextEntry.{next}
use Rattle.rtm_model.specs.World.{World, start}

-- the entry may stand after n entries, after which w lives: it is the arrival of a command, or its unit's next entry
abbrev pub MayFollow : DeckView → World → ℕ → Entry → What → Type 0
MayFollow d w n e (Arrive cmd _) = arrival d w n cmd ≡ Some e
MayFollow d w n e what = next d w e.unit ≡ Some what

-- each entry may follow those before it, and stands below the limit
abbrev pub LegalFrom : DeckView → World → ℕ → List Entry → Type 0
LegalFrom d w n [] = Unit {0}
LegalFrom d w n (e ∷ es) = (n < d.limit) × MayFollow d w n e e.what × LegalFrom d (advance d w n e) (n + 1) es

-- the history is one that the machine may make
unfoldable pub Legal : DeckView → List Entry → Type 0
Legal d history = LegalFrom d (start d) 0 history

-- nobody goes on, where `quiet` says that no unit has a next entry
abbrev pub is_stalled : DeckView → World → ℕ → Bool → Bool
is_stalled d w n quiet = quiet && is_none (first_arrival d w n quiet)

-- how a history of n entries, after which w lives, ends; none where it goes on
abbrev pub end_in : DeckView → World → ℕ → Option End
end_in d w n =
    if w.over then Some Ended
    else if is_stalled d w n (not (goes_on d w)) then Some Stalled
    else if nat_le d.limit n then Some Limit
    else None

abbrev pub end_of : DeckView → List Entry → Option End
end_of d history = end_in d (world d history) (length history)
