-- The codes and reasons of records and cards stay in range.
use Rattle.std.proofs.Common.{ℕ, Bool, true, false, ◌&&◌, List, Option, Some, None}
use Rattle.std.specs.Prelude.{IfSome, IsTrue, not, if◌then◌else◌}
use Rattle.std.specs.Option.{option_map, unwrap_or}
use Rattle.rtm_codes.specs.declared.code.Code.{Code}
use Rattle.rtm_codes.specs.Code.{IsInRange}
use Rattle.rtm_deck_items.specs.declared.op.Setrp.{Setrp}
use Rattle.rtm_deck_items.specs.View.{DeckView}
use Rattle.rtm_deck_items.specs.WellFormed.{gives_some, is_reason, is_setrp, is_setrp_code}
use Rattle.rtm_model.specs.declared.abort.Abort.{Abort}
use Rattle.rtm_model.specs.declared.entry.Verdict.{Verdict}
use Rattle.rtm_model.specs.declared.entry.Verdict.TheVariants as verdicts
use Rattle.rtm_model.specs.declared.error_record.ErrorRecord.{ErrorRecord}
use Rattle.rtm_model.specs.Levels.{Bracket, after_inner_failure, after_verdict}
use Rattle.rtm_model.specs.NextEntry.{card_record, landed_record}
use Rattle.rtm_model.specs.Record.{after_failure, after_percolation, after_takeover, ret15_in, setrp_in, value_or}
use Rattle.rtm_model.specs.inner.Soundness.{IsReason, IsRecord}
use Rattle.rtm_model.proofs.Lists.{both_true}
use Rattle.rtm_model.proofs.Codes.{abend_code, reason_code}

given_code : (o : Option Code) (code : Code) → IsTrue (is_setrp_code o) → IsInRange code → IsInRange (unwrap_or o code)
given_code None code h g = g
given_code (Some x) code h g = abend_code x h

given_reason : (o old : Option ℕ) → IsTrue (is_reason o) → IsReason old → IsReason (value_or o old)
given_reason None old h g = g
given_reason (Some n) old h g = reason_code (Some n) h

-- SETRP
pub setrp_record : (d : DeckView) (s : Setrp) → IsTrue (is_setrp d s) → (r : ErrorRecord) → IsRecord r → IsRecord (setrp_in s r)
setrp_record d s h r k =
    let abcd = both_true _ (gives_some s) h in
    let abc = both_true _ (is_reason s.reason) abcd.0 in
    let ab = both_true _ (is_setrp_code s.compcod) abc.0 in
    record { code = given_code s.compcod r.code ab.1 k.code; reason = given_reason s.reason r.reason abc.1 k.reason }

-- RET15
pub ret15_record : (rc : ℕ) (label : Option (List ℕ)) (r : ErrorRecord) → IsRecord r → IsRecord (ret15_in rc label r)
ret15_record rc label r k = record { code = k.code; reason = k.reason }

-- a routine has percolated, or failed
pub percolated_record : (r : ErrorRecord) → IsRecord r → IsRecord (after_percolation r)
percolated_record r k = record { code = k.code; reason = k.reason }

failure_if : (b : Bool) (inner outer : ErrorRecord) → IsRecord inner → IsRecord outer → IsRecord (if b then after_takeover inner (after_failure outer) else after_failure outer)
failure_if true inner outer i o = record { code = i.code; reason = i.reason }
failure_if false inner outer i o = record { code = o.code; reason = o.reason }

failed_record : (inner : Option ErrorRecord) → IfSome inner IsRecord → (outer : ErrorRecord) → IsRecord outer → IsRecord (after_inner_failure inner outer)
failed_record None i outer o = o
failed_record (Some inner) i outer o = failure_if (inner.flags.clup && not outer.flags.clup) inner outer i o

mapped : (f : ErrorRecord → ErrorRecord) → ((r : ErrorRecord) → IsRecord r → IsRecord (f r)) → (o : Option ErrorRecord) → IfSome o IsRecord → IfSome (option_map f o) IsRecord
mapped f k None h = tt
mapped f k (Some r) h = k r h

-- a change of a bracket's open error
pub changed_record : (f : ErrorRecord → ErrorRecord) → ((r : ErrorRecord) → IsRecord r → IsRecord (f r)) → (l : Bracket) → IfSome l.error IsRecord → IfSome (option_map f l.error) IsRecord
changed_record f k l h = mapped f k l.error h

pub verdict_record : (v : Verdict) (inner : Option ErrorRecord) → IfSome inner IsRecord → (l : Bracket) → IfSome l.error IsRecord → IfSome (Bracket.error (after_verdict v inner l)) IsRecord
verdict_record (verdicts.Retry place) inner i l h = tt
verdict_record verdicts.Perc inner i l h = mapped after_percolation percolated_record l.error h
verdict_record verdicts.Stop inner i l h = mapped after_percolation percolated_record l.error h
verdict_record verdicts.Bad inner i l h = mapped after_percolation percolated_record l.error h
verdict_record verdicts.Fail inner i l h = mapped (after_inner_failure inner) (failed_record inner i) l.error h
verdict_record verdicts.Over inner i l h = h

-- a card's error, and a landed abort
pub card_error : (doomed : Bool) (code : Code) (reason : Option ℕ) (dump step : Bool) → IsInRange code → IsReason reason → IsRecord (card_record doomed code reason dump step)
card_error doomed code reason dump step h i = record { code = h; reason = i }

pub landed_error : (abort : Abort) → IsInRange abort.code → IsReason abort.reason → IsRecord (landed_record abort)
landed_error abort h i = record { code = h; reason = i }
