-- What a call of the program says by its status (this profile).
use Rattle.std.specs.Prelude.{IfSome, List, Option, [], ℕ, ◌≡◌, ◌⊎◌}
use Rattle.rtm_desk.specs.Told.{Row, told_by}
use Rattle.rtm_io.specs.Faults.{HasRisen}
use Rattle.rtm_io.specs.Stream.{Appends, AppendsPrefix}
use Rattle.rtm_top_answers.specs.Load.{IsLoadOf}
use Rattle.rtm_crew.specs.Histories.{in_any_order, in_turns}
use Rattle.rtm_top_answers.specs.Run.{AreToldOfRunOrNothing, IsRunAnswer}
use Rattle.rtm_top_answers.specs.Scan.{IsScanAnswer}
use Rattle.rtm_top_answers.specs.Verify.{IsVerifyAnswer}
use Rattle.rtm_top_answers.specs.View.{AnswerView}
use Rattle.rtm_top_answers.specs.declared.status.Status.{Status}
use Rattle.rtm_top_answers.specs.declared.status.Status.TheVariants as status
use Rattle.rtm_top.specs.declared.request.Request.{Request}
use Rattle.rtm_top.specs.declared.request.Request.TheVariants as requests

-- What is to be written of the bytes that were read; a load is made of its number alone. The managers handed in are told
-- of the run of `seq` or `run`, and of nothing else. Under `seq` its history is the one of a single thread, and under
-- `run` any that is legal.
abbrev pub IsAnswer : Request → List ℕ → AnswerView → List Row → Type 0
IsAnswer requests.Scan bytes answer told = IsScanAnswer bytes answer × (told ≡ told_by [])
IsAnswer requests.Seq bytes answer told = IsRunAnswer in_turns bytes answer told
IsAnswer requests.Run bytes answer told = IsRunAnswer in_any_order bytes answer told
IsAnswer requests.Verify bytes answer told = IsVerifyAnswer bytes answer × (told ≡ told_by [])
IsAnswer (requests.Load tasks) bytes answer told = IsLoadOf tasks answer × (told ≡ told_by [])

-- the same of all bytes that the source had left; of a source that tells none, of some bytes
abbrev pub IsDue : Request → Option (List ℕ) → AnswerView → List Row → Type 0
IsDue request left answer told =
    (bytes : List ℕ) × IfSome left (λ read. bytes ≡ read) × IsAnswer request bytes answer told

-- what the managers were told where memory is wanting: nothing, but for a run, whose text may be what it is wanting for
abbrev pub AreToldUnanswered : Request → List ℕ → List Row → Type 0
AreToldUnanswered requests.Scan bytes told = told ≡ told_by []
AreToldUnanswered requests.Seq bytes told = AreToldOfRunOrNothing in_turns bytes told
AreToldUnanswered requests.Run bytes told = AreToldOfRunOrNothing in_any_order bytes told
AreToldUnanswered requests.Verify bytes told = told ≡ told_by []
AreToldUnanswered (requests.Load tasks) bytes told = told ≡ told_by []

-- the same of all bytes that the source had left
abbrev pub AreToldWithoutMemory : Request → Option (List ℕ) → List Row → Type 0
AreToldWithoutMemory request left told =
    (bytes : List ℕ) × IfSome left (λ read. bytes ≡ read) × AreToldUnanswered request bytes told

-- a call of the program: what the source had left, the faults that source and sink had counted before and have now,
-- what was written before and is now, and what the managers that come back were told
pub record Call : Type 0 where
  pub left : Option (List ℕ)
  pub source_before : ℕ
  pub source_now : ℕ
  pub sink_before : ℕ
  pub sink_now : ℕ
  pub written_before : Option (List ℕ)
  pub written_now : Option (List ℕ)
  pub told : List Row

-- The answer that is due was written, all of it, and the status is its own; the managers were told of the run that it is
-- the trace of, where there is one. No fault was counted.
pub record HasAnswered (request : Request) (call : Call) (s : Status) : Type 0 where
  pub answer : AnswerView
  pub due : IsDue request call.left answer call.told
  pub its_status : s ≡ answer.status
  pub written : Appends call.written_before call.written_now answer.text
  pub source : call.source_now ≡ call.source_before
  pub sink : call.sink_now ≡ call.sink_before

-- The sink failed: a prefix of the answer that is due stands written, and the managers were told of the whole run. The
-- source counted no fault.
pub record HasFailedToWrite (request : Request) (call : Call) (s : Status) : Type 0 where
  pub is_write : s ≡ status.Write
  pub answer : AnswerView
  pub due : IsDue request call.left answer call.told
  pub written : AppendsPrefix call.written_before call.written_now answer.text
  pub source : call.source_now ≡ call.source_before
  pub sink : HasRisen call.sink_before call.sink_now

-- The source failed: nothing was written, no manager was told anything, and the sink counted no fault.
pub record HasFailedToRead (call : Call) (s : Status) : Type 0 where
  pub is_read : s ≡ status.Read
  pub written : call.written_now ≡ call.written_before
  pub source : HasRisen call.source_before call.source_now
  pub sink : call.sink_now ≡ call.sink_before
  pub managers : call.told ≡ told_by []

-- Memory is wanting: nothing was written, and no fault was counted.
pub record WantsMemory (request : Request) (call : Call) (s : Status) : Type 0 where
  pub is_memory : s ≡ status.Memory
  pub managers : AreToldWithoutMemory request call.left call.told
  pub written : call.written_now ≡ call.written_before
  pub source : call.source_now ≡ call.source_before
  pub sink : call.sink_now ≡ call.sink_before

-- what the status says of a call with that request
abbrev pub Says : Request → Call → Status → Type 0
Says request call s =
    HasAnswered request call s ⊎ (HasFailedToWrite request call s ⊎ (HasFailedToRead call s ⊎ WantsMemory request call s))

-- why nothing is to be written, and what the managers were told; the numbers are the source's faults before and now
abbrev pub IsUnmade : Request → Option (List ℕ) → List Row → ℕ → ℕ → Status → Type 0
IsUnmade request left told before now s =
    ((s ≡ status.Read) × HasRisen before now × (told ≡ told_by []))
    ⊎ ((s ≡ status.Memory) × (now ≡ before) × AreToldWithoutMemory request left told)

-- How the writing of an answer went: all of it is written and the status is its own, or the sink failed and a prefix
-- is. The numbers are the sink's faults before and now.
abbrev pub IsSent : AnswerView → ℕ → ℕ → Option (List ℕ) → Option (List ℕ) → Status → Type 0
IsSent answer before now written_before written_now s =
    ((s ≡ answer.status) × Appends written_before written_now answer.text × (now ≡ before))
    ⊎ ((s ≡ status.Write) × AppendsPrefix written_before written_now answer.text × HasRisen before now)
