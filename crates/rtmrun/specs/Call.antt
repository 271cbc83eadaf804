-- A call of the program (this profile).
use Rattle.std.specs.Prelude.{List, ℕ}
use Rattle.rtm_desk.specs.Told.{Row}
use Rattle.rtm_top.specs.Answer.{Call}
use Rattle.rtm_top.specs.Due.{AnswersWords}
use Rattle.rtm_top_answers.specs.declared.status.Status.{Status}

-- what the status says of a call with these words, whose managers were told what it says and are dropped
abbrev pub IsCall : List (List ℕ) → (List Row → Call) → Status → Type 0
IsCall words call s = (told : List Row) × AnswersWords words (call told) s
