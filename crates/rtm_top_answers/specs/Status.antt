-- The statuses of the program as numbers, and that of a run by its end (this profile).
use Rattle.std.specs.Prelude.{ℕ}
use Rattle.rtm_model.specs.declared.entry.End.{End}
use Rattle.rtm_model.specs.declared.entry.End.TheVariants.{Ended, Limit, Stalled}
use Rattle.rtm_top_answers.specs.declared.status.Status.{Status}
use Rattle.rtm_top_answers.specs.declared.status.Status.TheVariants as status

-- the number with which the program ends
abbrev pub status_number : Status → ℕ
status_number status.Fine = 0
status_number status.Stalled = 4
status_number status.AtLimit = 6
status_number status.Deck = 8
status_number status.Line = 9
status_number status.NotLegal = 10
status_number status.WrongEnd = 11
status_number status.Memory = 12
status_number status.Read = 16
status_number status.Write = 17
status_number status.Words = 20

-- the status of a history, by its end
abbrev pub status_of : End → Status
status_of Ended = status.Fine
status_of Stalled = status.Stalled
status_of Limit = status.AtLimit
