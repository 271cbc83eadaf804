-- What each SDWA keeps (this profile).
use Rattle.std.specs.Prelude.{◌≡◌, ◌<◌, ◌^◌, IfSome, IsTrue, is_some}
use Rattle.rtm_codes.specs.Code.{IsInRange}
use Rattle.rtm_deck_operands.specs.Name.{is_padded_name}
use Rattle.rtm_model.specs.declared.error_record.ErrorRecord.{ErrorRecord}
use Rattle.rtm_model.specs.declared.entry.Verdict.{Verdict}
use Rattle.rtm_model.specs.declared.entry.Verdict.TheVariants.{Fail, Over}
use Rattle.rtm_deck_operands.specs.Value.{is_return_code}

-- both codes are in range, the return code is one that SETRP can ask for, and the flag REASON stands where there is a
-- reason
pub record IsKept (r : ErrorRecord) : Type 0 where
  pub code : IsInRange r.code
  pub first : IsInRange r.first
  pub rc : IsTrue (is_return_code r.rc)
  pub reason : r.flags.reason ≡ is_some r.reason

-- the record is one that an SDWA may hold: besides, the reason is of 32 bits and the label is a name
pub record IsSdwa (r : ErrorRecord) : Type 0 where
  pub kept : IsKept r
  pub reason : IfSome r.reason (λ reason. reason < 2 ^ 32)
  pub label : IfSome r.retaddr (λ label. IsTrue (is_padded_name label))

-- the verdict is one on a record: Retry, Perc, Stop or Bad
abbrev pub IsOnRecord : Verdict → Type 0
IsOnRecord Fail = ⊥
IsOnRecord Over = ⊥
IsOnRecord _ = Unit {0}
