-- What is written of a deck that is run (this profile). Which of its histories a run makes is the runner's.
use Rattle.std.specs.Prelude.{List, Some, [], ℕ, ◌≡◌, ◌⊎◌}
use Rattle.rtm_deck_items.specs.Spelling.{DeckText}
use Rattle.rtm_deck_items.specs.View.{DeckView}
use Rattle.rtm_desk.specs.Told.{Row, told_by}
use Rattle.rtm_model.specs.declared.entry.End.{End}
use Rattle.rtm_model.specs.declared.entry.Entry.{Entry}
use Rattle.rtm_model.specs.Legal.{Legal, end_of}
use Rattle.rtm_trace.specs.Text.{trace_text}
use Rattle.rtm_top_answers.specs.Refusal.{IsRefusalOf}
use Rattle.rtm_top_answers.specs.Status.{status_of}
use Rattle.rtm_top_answers.specs.View.{AnswerView}

-- the answer that is the trace of a history with that end
abbrev pub traced_answer : DeckView → List Entry → End → AnswerView
traced_answer d history end = record { text = trace_text d history end; status = status_of end }

-- The history is legal, the answer is its trace, to its end, and the managers were told exactly of its releases.
pub record IsRunBy (d : DeckView) (history : List Entry) (answer : AnswerView) (told : List Row) : Type 0 where
  pub legal : Legal d history
  pub end : End
  pub ends : end_of d history ≡ Some end
  pub is : answer ≡ traced_answer d history end
  pub managers : told ≡ told_by history

-- The answer is that of a run of the deck, whose history is one of those.
pub record IsRunIn (makes : DeckView → List Entry → Type 0) (d : DeckView) (answer : AnswerView) (told : List Row) : Type 0 where
  pub history : List Entry
  pub made : makes d history
  pub run : IsRunBy d history answer told

-- The bytes spell a deck, and the answer is that of a run of it.
pub record IsRunOf (makes : DeckView → List Entry → Type 0) (bytes : List ℕ) (answer : AnswerView) (told : List Row) : Type 0 where
  pub deck : DeckView
  pub spelled : DeckText bytes deck
  pub run : IsRunIn makes deck answer told

-- the answer names the first fault of the bytes, and the managers were told nothing
abbrev pub IsRefused : List ℕ → AnswerView → List Row → Type 0
IsRefused bytes answer told = IsRefusalOf bytes answer × (told ≡ told_by [])

-- what is to be written of the bytes that were read where a deck is run, and what the managers were told
abbrev pub IsRunAnswer : (DeckView → List Entry → Type 0) → List ℕ → AnswerView → List Row → Type 0
IsRunAnswer makes bytes answer told = IsRefused bytes answer told ⊎ IsRunOf makes bytes answer told

-- The managers were told of the releases of a run of the deck, to its end.
pub record AreToldOfRunIn (makes : DeckView → List Entry → Type 0) (d : DeckView) (told : List Row) : Type 0 where
  pub history : List Entry
  pub made : makes d history
  pub legal : Legal d history
  pub end : End
  pub ends : end_of d history ≡ Some end
  pub managers : told ≡ told_by history

-- The bytes spell a deck, and the managers were told of the releases of a run of it.
pub record AreToldOfRunOf (makes : DeckView → List Entry → Type 0) (bytes : List ℕ) (told : List Row) : Type 0 where
  pub deck : DeckView
  pub spelled : DeckText bytes deck
  pub run : AreToldOfRunIn makes deck told

-- what the managers were told where memory is wanting: nothing, as long as no entry was made; else all of the run
abbrev pub AreToldOfRunOrNothing : (DeckView → List Entry → Type 0) → List ℕ → List Row → Type 0
AreToldOfRunOrNothing makes bytes told = (told ≡ told_by []) ⊎ AreToldOfRunOf makes bytes told
