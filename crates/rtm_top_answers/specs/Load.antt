-- What is written of a load: a deck that is made of so many tasks, and run (this profile).
use Rattle.std.specs.Prelude.{Bool, List, Some, codes, count_by, decimal, false, length, true, ℕ, ◌++◌, ◌≡◌}
use Rattle.rtm_deck_load.specs.Deck.{load_deck}
use Rattle.rtm_model.specs.declared.entry.End.{End}
use Rattle.rtm_model.specs.declared.entry.Entry.{Entry}
use Rattle.rtm_model.specs.declared.entry.What.{What}
use Rattle.rtm_model.specs.declared.entry.What.TheVariants.{Release}
use Rattle.rtm_model.specs.Legal.{Legal, end_of}
use Rattle.rtm_model.specs.Turns.{seq}
use Rattle.rtm_trace.specs.Text.{end_text}
use Rattle.rtm_top_answers.specs.Status.{status_of}
use Rattle.rtm_top_answers.specs.View.{AnswerView}

abbrev pub is_release : What → Bool
is_release (Release class id owner) = true
is_release _ = false

-- how many holdings were released
abbrev pub release_count : List Entry → ℕ
release_count entries = count_by (λ e. is_release e.what) entries

-- the line of so many tasks, with the numbers of entries and of releases, and the end
abbrev pub load_line : ℕ → List Entry → End → List ℕ
load_line tasks entries end =
    codes "LOAD " ++ decimal tasks ++ codes " ENTRIES " ++ decimal (length entries) ++ codes " RELEASES "
    ++ decimal (release_count entries) ++ codes " " ++ end_text end ++ codes "\n"

-- the answer that is that line
abbrev pub counted_answer : ℕ → List Entry → End → AnswerView
counted_answer tasks entries end = record { text = load_line tasks entries end; status = status_of end }

-- The answer counts the one history that a single thread makes of the deck that is made of so many tasks.
pub record IsLoadOf (tasks : ℕ) (answer : AnswerView) : Type 0 where
  pub legal : Legal (load_deck tasks) (seq (load_deck tasks))
  pub end : End
  pub ends : end_of (load_deck tasks) (seq (load_deck tasks)) ≡ Some end
  pub is : answer ≡ counted_answer tasks (seq (load_deck tasks)) end
