-- The codes and reasons of a well formed deck's cards are in range.
use Rattle.std.proofs.Common.{ℕ, Option, Some, None}
use Rattle.std.specs.Prelude.{IsTrue, nat_le}
use Rattle.std.proofs.lemmas.Bool.{and_parts, leb-true, ltb-true}
use Rattle.rtm_codes.specs.declared.code.Code.{Code}
use Rattle.rtm_codes.specs.declared.code.Code.TheVariants.{Sys, User}
use Rattle.rtm_codes.specs.Code.{IsInRange}
use Rattle.rtm_deck_items.specs.WellFormed.{is_abend_code, is_reason}
use Rattle.rtm_model.specs.inner.Soundness.{IsReason}

pub abend_code : (code : Code) → IsTrue (is_abend_code code) → IsInRange code
abend_code (Sys n) h = leb-true _ _ (and_parts (nat_le 1 n) (nat_le n 4095) h).1
abend_code (User n) h = leb-true _ _ h

pub reason_code : (reason : Option ℕ) → IsTrue (is_reason reason) → IsReason reason
reason_code None h = tt
reason_code (Some n) h = ltb-true _ _ h
