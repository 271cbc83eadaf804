-- The record of an error, and what changes it (Authorized Assembler Services Guide, "Providing recovery"; the effects
-- of the options of SETRP are those of the Assembler Services Reference, as this profile takes them).
use Rattle.std.specs.Prelude.{ℕ, List, Bool, true, false, not, ◌&&◌, ◌==◌, if◌then◌else◌, Option, Some, None, is_some}
use Rattle.std.specs.Option.{unwrap_or, option_map, option_and_then}
use Rattle.rtm_codes.specs.declared.code.Code.{Code}
use Rattle.rtm_deck_items.specs.declared.op.Setrp.{Setrp}
use Rattle.rtm_deck_operands.specs.declared.value.Three.{Three}
use Rattle.rtm_deck_operands.specs.declared.value.Three.TheVariants.{Yes, No, Ignore}
use Rattle.rtm_deck_items.specs.View.{DeckView}
use Rattle.rtm_deck_items.specs.Reading.{label_at}
use Rattle.rtm_model.specs.declared.block.Place.{Place}
use Rattle.rtm_model.specs.declared.entry.Verdict.{Verdict}
use Rattle.rtm_model.specs.declared.entry.Verdict.TheVariants.{Retry, Perc, Stop, Bad}
use Rattle.rtm_model.specs.declared.error_record.ErrorRecord.{ErrorRecord}
use Rattle.rtm_model.specs.declared.error_record.RecordFlags.{RecordFlags}
use Rattle.rtm_model.specs.declared.mark.Mark.{Mark}
use Rattle.rtm_model.specs.declared.reg.Kind.{Kind}
use Rattle.rtm_model.specs.declared.reg.Kind.TheVariants.{Estai}

-- no flag stands
abbrev pub no_flags : RecordFlags
no_flags = record { clup = false; perc = false; staf = false; step = false; reason = false; term_only = false; dump = false; remrec = false; logrec = false; fresdwa = false }

-- the record of an error that has just come
abbrev pub fresh : Code → Option ℕ → RecordFlags → ErrorRecord
fresh code reason flags = record { code = code; first = code; reason = reason; flags = record flags { reason = is_some reason }; rc = 0; retaddr = None }

-- what an entry shows of it
abbrev pub mark_of : ErrorRecord → Mark
mark_of r = record { code = r.code; reason = r.reason; clup = r.flags.clup; perc = r.flags.perc; staf = r.flags.staf }

-- YES sets a flag, NO clears it, IGNORE and no option leave it
abbrev pub set_by : Option Three → Bool → Bool
set_by None flag = flag
set_by (Some Yes) flag = true
set_by (Some No) flag = false
set_by (Some Ignore) flag = flag

-- the option's value, or what was there
abbrev pub value_or : {A : Type 0} → Option A → Option A → Option A
value_or (Some x) old = Some x
value_or None old = old

-- SETRP: what its options name is changed, and nothing else
abbrev pub setrp_in : Setrp → ErrorRecord → ErrorRecord
setrp_in s r = record {
  code = unwrap_or s.compcod r.code;
  first = r.first;
  reason = value_or s.reason r.reason;
  flags = record {
    clup = r.flags.clup;
    perc = r.flags.perc;
    staf = r.flags.staf;
    step = r.flags.step;
    reason = is_some (value_or s.reason r.reason);
    term_only = r.flags.term_only;
    dump = set_by s.dump r.flags.dump;
    remrec = unwrap_or s.remrec r.flags.remrec;
    logrec = set_by s.logrec r.flags.logrec;
    fresdwa = unwrap_or s.fresdwa r.flags.fresdwa;
  };
  rc = unwrap_or s.rc r.rc;
  retaddr = value_or s.retaddr r.retaddr;
}

-- RET15: the return code is stored, and the label of the retry where it is given, as SETRP stores them (this profile)
abbrev pub ret15_in : ℕ → Option (List ℕ) → ErrorRecord → ErrorRecord
ret15_in rc label r = record r { rc = rc; retaddr = value_or label r.retaddr }

-- what a routine asked for is forgotten
abbrev pub without_requests : RecordFlags → RecordFlags
without_requests f = record f { remrec = false; logrec = false; fresdwa = false }

-- the routine has percolated
abbrev pub after_percolation : ErrorRecord → ErrorRecord
after_percolation r = record r { flags = record (without_requests r.flags) { perc = true }; rc = 0; retaddr = None }

-- the routine has failed: as after a percolation, with STAF in the place of PERC, which stays as it was (this profile)
abbrev pub after_failure : ErrorRecord → ErrorRecord
after_failure r = record r { flags = record (without_requests r.flags) { staf = true }; rc = 0; retaddr = None }

-- An outer record takes over from the record of the error by which its routine failed: code, reason, the dump request,
-- which routines are eligible, and that nothing is retried. The first code and STEP stay (this profile).
abbrev pub after_takeover : ErrorRecord → ErrorRecord → ErrorRecord
after_takeover inner outer = record outer {
  code = inner.code;
  reason = inner.reason;
  flags = record outer.flags { clup = true; reason = is_some inner.reason; term_only = inner.flags.term_only; dump = inner.flags.dump };
}

-- The routine has failed by an error that has the record `inner`: that it forbids a retry is handed on to the record of
-- the error that the routine was entered for, which else keeps its own (this profile).
abbrev pub inner_failed : ErrorRecord → ErrorRecord → ErrorRecord
inner_failed inner outer =
    if inner.flags.clup && not outer.flags.clup then after_takeover inner (after_failure outer) else after_failure outer

-- where the error would be retried: RC=4 asks for it, nothing forbids it, and the label stands in the program of the
-- request block
abbrev pub retry_place : DeckView → ℕ → ErrorRecord → Option Place
retry_place d prog r =
    if (r.rc == 4) && not r.flags.clup
    then option_and_then (λ label. option_map (λ op. record { prog = prog; op = op }) (label_at d prog label)) r.retaddr
    else None

abbrev pub is_estai : Kind → Bool
is_estai Estai = true
is_estai _ = false

-- what a routine's end means: a retry where there is a place for it, else by the return code that SETRP set; 16 of
-- another kind than an ESTAI routine is bad (this profile)
abbrev pub verdict_by : Kind → ℕ → Option Place → Verdict
verdict_by kind rc (Some place) = Retry place
verdict_by kind rc None = if (rc == 16) && is_estai kind then Stop else if rc == 0 then Perc else Bad

abbrev pub verdict : DeckView → Kind → ℕ → ErrorRecord → Verdict
verdict d kind prog r = verdict_by kind r.rc (retry_place d prog r)
