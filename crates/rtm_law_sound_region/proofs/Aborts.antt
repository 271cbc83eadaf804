-- The aborts that an entry posts.
use Rattle.std.proofs.Common.{ℕ, Bool, true, false, Option, refl, arith}
use Rattle.rtm_codes.specs.declared.code.Code.{Code}
use Rattle.rtm_codes.specs.Code.{IsInRange}
use Rattle.rtm_model.specs.declared.error_record.ErrorRecord.{ErrorRecord}
use Rattle.rtm_model.specs.Posts.{abterm_abort, cancel_abort, detach_abort, mother_abort, srb_abort, step_abort}
use Rattle.rtm_model.specs.inner.Soundness.{IsReason, IsRecord}
use Rattle.rtm_law_sound_region.proofs.Posted.{IsPosted}

pub cancel_posted : (n : ℕ) (dump : Bool) → IsPosted n (cancel_abort n dump)
cancel_posted n true = record { sound = record { code = omega arith; reason = tt; from = omega arith }; from = refl }
cancel_posted n false = record { sound = record { code = omega arith; reason = tt; from = omega arith }; from = refl }

pub detach_posted : (n : ℕ) (stae : Bool) → IsPosted n (detach_abort n stae)
detach_posted n true = record { sound = record { code = omega arith; reason = tt; from = omega arith }; from = refl }
detach_posted n false = record { sound = record { code = omega arith; reason = tt; from = omega arith }; from = refl }

pub mother_posted : (n : ℕ) → IsPosted n (mother_abort n)
mother_posted n = record { sound = record { code = omega arith; reason = tt; from = omega arith }; from = refl }

pub abterm_posted : (n : ℕ) (code : Code) (reason : Option ℕ) (dump retry : Bool) → IsInRange code → IsReason reason → IsPosted n (abterm_abort n code reason dump retry)
abterm_posted n code reason dump retry h k = record { sound = record { code = h; reason = k; from = omega arith }; from = refl }

pub step_posted : (n : ℕ) (r : ErrorRecord) → IsRecord r → IsPosted n (step_abort n r)
step_posted n r s = record { sound = record { code = s.code; reason = s.reason; from = omega arith }; from = refl }

pub srb_posted : (n : ℕ) (r : ErrorRecord) → IsRecord r → IsPosted n (srb_abort n r)
srb_posted n r s = record { sound = record { code = s.code; reason = s.reason; from = omega arith }; from = refl }
