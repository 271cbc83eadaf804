-- An answer as plain data: what contracts see of it.
use Rattle.std.specs.Prelude.{List, ℕ}
use Rattle.rtm_top_answers.specs.declared.status.Status.{Status}

-- the text that is to be written, and the status with which the program ends once it is
pub record AnswerView : Type 0 where
  pub text : List ℕ
  pub status : Status
