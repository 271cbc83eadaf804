-- What is written of an input whose deck has a first fault (this profile).
use Rattle.std.specs.Prelude.{List, codes, decimal, ℕ, ◌++◌, ◌≡◌}
use Rattle.rtm_deck_items.specs.Faults.{IsFirstFault}
use Rattle.rtm_deck_items.specs.declared.why.Why.{Why}
use Rattle.rtm_deck_items.specs.declared.why.Why.TheVariants as whys
use Rattle.rtm_top_answers.specs.declared.status.Status.TheVariants as status
use Rattle.rtm_top_answers.specs.View.{AnswerView}

-- the name of a fault
abbrev pub why_text : Why → List ℕ
why_text whys.TooLong = codes "TooLong"
why_text whys.BadByte = codes "BadByte"
why_text whys.BadCard = codes "BadCard"
why_text whys.UnknownOp = codes "UnknownOp"
why_text whys.BadOperand = codes "BadOperand"
why_text whys.DuplicateName = codes "DuplicateName"
why_text whys.UnknownName = codes "UnknownName"
why_text whys.UnknownLabel = codes "UnknownLabel"
why_text whys.WrongPlace = codes "WrongPlace"
why_text whys.NoJobStep = codes "NoJobStep"
why_text whys.NoEnd = codes "NoEnd"
why_text whys.OverLimit = codes "OverLimit"

-- the card and its fault
abbrev pub refusal_text : ℕ → Why → List ℕ
refusal_text card why = codes "DECK " ++ decimal card ++ codes " " ++ why_text why ++ codes "\n"

-- the answer that names a fault
abbrev pub refusal : ℕ → Why → AnswerView
refusal card why = record { text = refusal_text card why; status = status.Deck }

-- The answer names the first fault of the bytes.
pub record IsRefusalOf (bytes : List ℕ) (answer : AnswerView) : Type 0 where
  pub card : ℕ
  pub why : Why
  pub fault : IsFirstFault bytes card why
  pub is : answer ≡ refusal card why
