-- How a history that somebody else made is judged (this profile).
use Rattle.std.specs.Prelude.{IfSome, List, Option, Some, slice_get, take, ℕ, ◌≡◌}
use Rattle.rtm_deck_items.specs.View.{DeckView}
use Rattle.rtm_model.specs.declared.entry.End.{End}
use Rattle.rtm_model.specs.declared.entry.Entry.{Entry}
use Rattle.rtm_model.specs.Fits.{Fits}
use Rattle.rtm_model.specs.Legal.{Legal, end_of}
use Rattle.rtm_system.specs.Turned.{IsNext, wanted_entry}
use Rattle.rtm_trace_judge.specs.declared.judging.JudgeFault.{JudgeFault}
use Rattle.rtm_trace_judge.specs.declared.judging.JudgeFault.TheVariants.{Memory, NotLegal, WrongEnd}

-- the entries are a legal history, and it ends so
pub record IsJudged (d : DeckView) (entries : List Entry) (end : End) : Type 0 where
  pub legal : Legal d entries
  pub ends : end_of d entries ≡ Some end

-- The entry of that index is the first that may not stand where it does: those before it are a legal history, and it
-- may not follow them. Wanted is the entry that the machine gives its unit there.
pub record IsFirstIllegal (d : DeckView) (entries : List Entry) (index : ℕ) (want : Option Entry) : Type 0 where
  pub before : Legal d (take index entries)
  pub entry : Entry
  pub there : slice_get entries index ≡ Some entry
  pub illegal : IsNext d (take index entries) entry → ⊥
  pub wanted_is : want ≡ wanted_entry d (take index entries) entry.unit

-- the entries are a legal history, which doesn't end as stated; found is how it ends
pub record IsWrongEnd (d : DeckView) (entries : List Entry) (end stated : End) (found : Option End) : Type 0 where
  pub legal : Legal d entries
  pub stated_is : stated ≡ end
  pub found_is : found ≡ end_of d entries
  pub other : found ≡ Some stated → ⊥

-- the fault is the first illegal entry
abbrev pub IsIllegal : DeckView → List Entry → JudgeFault → Type 0
IsIllegal d entries (NotLegal index want) = IsFirstIllegal d entries index want
IsIllegal d entries _ = ⊥

-- the fault is another end than the stated one
abbrev pub IsOtherEnd : DeckView → List Entry → End → JudgeFault → Type 0
IsOtherEnd d entries end (WrongEnd claimed found) = IsWrongEnd d entries end claimed found
IsOtherEnd d entries end _ = ⊥

-- why the entries, with that end, aren't accepted
abbrev pub IsFault : DeckView → List Entry → End → JudgeFault → Type 0
IsFault d entries end Memory = Unit {0}
IsFault d entries end (NotLegal index want) = IsFirstIllegal d entries index want
IsFault d entries end (WrongEnd claimed found) = IsWrongEnd d entries end claimed found

-- the entry that was wanted, if one was, fits the deck, so that it has a text
abbrev pub WantedFits : DeckView → JudgeFault → Type 0
WantedFits d (NotLegal index want) = IfSome want (Fits d)
WantedFits d _ = Unit {0}
