-- Aborts that entries post to units (codes: MVS System Codes; every use of 13E and 33E, retry, TERM-only and merging
-- are this profile's).
use Rattle.std.specs.Prelude.{Bool, List, None, Option, Some, [], false, is_some, not, true, ℕ, ◌&&◌, ◌∷◌, if◌then◌else◌}
use Rattle.rtm_codes.specs.declared.code.Code.{Code}
use Rattle.rtm_codes.specs.declared.code.Code.TheVariants.{Sys}
use Rattle.rtm_model.specs.declared.abort.Abort.{Abort}
use Rattle.rtm_model.specs.declared.error_record.ErrorRecord.{ErrorRecord}
use Rattle.rtm_model.specs.Aborts.{with_abort}
use Rattle.rtm_model.specs.Surroundings.{is_late}
use Rattle.rtm_model.specs.Tasks.{Life, is_subtask_of}
use Rattle.rtm_model.specs.World.{Core, UnitOfWork, World, on_unit}
use Rattle.rtm_model.specs.declared.entry.Class.TheVariants as classes

-- The aborts (codes: MVS System Codes; every use of 13E and 33E, retry, TERM-only and merging are this profile's)

-- the operator's CANCEL: 222, or 122 with a dump
abbrev pub cancel_abort : ℕ → Bool → Abort
cancel_abort n dump = record {
  class = classes.Cancel;
  from = n;
  code = Sys (if dump then 0x122 else 0x222);
  reason = None;
  dump = dump;
  retry = false;
  term_only = true;
}

-- DETACH: 13E, or 33E with STAE=YES
abbrev pub detach_abort : ℕ → Bool → Abort
detach_abort n stae = record {
  class = classes.Detach;
  from = n;
  code = Sys (if stae then 0x33E else 0x13E);
  reason = None;
  dump = false;
  retry = false;
  term_only = not stae;
}

-- the mother begins to end
abbrev pub mother_abort : ℕ → Abort
mother_abort n = record {
  class = classes.Mother;
  from = n;
  code = Sys 0x13E;
  reason = None;
  dump = false;
  retry = false;
  term_only = true;
}

-- the job step is to end, by the record of the error that ended another unit
abbrev pub step_abort : ℕ → ErrorRecord → Abort
step_abort n r = record {
  class = classes.Step;
  from = n;
  code = r.code;
  reason = r.reason;
  dump = false;
  retry = false;
  term_only = true;
}

-- CALLRTM TYPE=ABTERM (Authorized Assembler Services Reference, CALLRTM)
abbrev pub abterm_abort : ℕ → Code → Option ℕ → Bool → Bool → Abort
abterm_abort n code reason dump retry = record {
  class = classes.Abterm;
  from = n;
  code = code;
  reason = reason;
  dump = dump;
  retry = retry;
  term_only = false;
}

-- an SRB's error is percolated to its related task
abbrev pub srb_abort : ℕ → ErrorRecord → Abort
srb_abort n r = record {
  class = classes.Srb;
  from = n;
  code = r.code;
  reason = r.reason;
  dump = false;
  retry = true;
  term_only = false;
}

-- it is posted to a unit
abbrev pub with_posted : Bool → Abort → UnitOfWork → UnitOfWork
with_posted late abort unit = record unit { pending = with_abort late abort unit.pending }

abbrev pub post_to : ℕ → Abort → World → World
post_to u abort w = record w { units = on_unit u (with_posted (is_late w u) abort) w.units }

-- an abort is posted to each living subtask of a task, by number
abbrev pub post_to_subtasks : ℕ → Abort → List Life → List UnitOfWork → List UnitOfWork
post_to_subtasks u abort [] units = units
post_to_subtasks u abort (life ∷ lives) [] = []
post_to_subtasks u abort (life ∷ lives) (unit ∷ units) =
    (if is_subtask_of u life then with_posted (is_some (Core.begun unit.core)) abort unit else unit)
    ∷ post_to_subtasks u abort lives units

-- the aborts that a unit's end posts
abbrev pub post_related : ℕ → Option ℕ → Option ErrorRecord → World → World
post_related n (Some task) (Some r) w = post_to task (srb_abort n r) w
post_related n _ _ w = w

abbrev pub post_step : ℕ → Bool → ℕ → Option ErrorRecord → World → World
post_step n is_other job (Some r) w = if is_other && r.flags.step then post_to job (step_abort n r) w else w
post_step n is_other job None w = w
