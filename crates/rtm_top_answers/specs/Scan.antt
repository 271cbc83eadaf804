-- What is written under `scan` (this profile).
use Rattle.std.specs.Prelude.{List, ℕ, ◌≡◌, ◌⊎◌}
use Rattle.rtm_deck_items.specs.Canon.{canon}
use Rattle.rtm_deck_items.specs.Spelling.{DeckText}
use Rattle.rtm_deck_items.specs.View.{DeckView}
use Rattle.rtm_top_answers.specs.Refusal.{IsRefusalOf}
use Rattle.rtm_top_answers.specs.declared.status.Status.TheVariants as status
use Rattle.rtm_top_answers.specs.View.{AnswerView}

-- the answer that is the canonical text of a deck
abbrev pub canonical : DeckView → AnswerView
canonical d = record { text = canon d; status = status.Fine }

-- The bytes spell a deck, and the answer is its canonical text.
pub record IsCanonOf (bytes : List ℕ) (answer : AnswerView) : Type 0 where
  pub deck : DeckView
  pub spelled : DeckText bytes deck
  pub is : answer ≡ canonical deck

-- what is to be written of the bytes that were read
abbrev pub IsScanAnswer : List ℕ → AnswerView → Type 0
IsScanAnswer bytes answer = IsRefusalOf bytes answer ⊎ IsCanonOf bytes answer
