-- Codes are told apart by the test on them and by their words.
use Rattle.std.proofs.Common.{◌≡◌, ◌^◌, ◌<◌, true, refl, ap, arith}
use Rattle.std.proofs.lemmas.Bool.{eqb-true, eq-eqb}
use Rattle.rtm_codes.specs.declared.code.Code.{Code}
use Rattle.rtm_codes.specs.declared.code.Code.TheVariants.{Sys, User}
use Rattle.rtm_codes.specs.Code.{IsInRange, same_code, packed_of}

-- codes that pass the test are equal
pub same_code-true : (c d : Code) → same_code c d ≡ true → c ≡ d
same_code-true (Sys m) (Sys n) e = ap Sys (eqb-true m n e)
same_code-true (Sys m) (User n) e = absurd cc
same_code-true (User m) (Sys n) e = absurd cc
same_code-true (User m) (User n) e = ap User (eqb-true m n e)

-- a code passes the test with itself
pub same_code-refl : (c : Code) → same_code c c ≡ true
same_code-refl (Sys n) = eq-eqb n n refl
same_code-refl (User n) = eq-eqb n n refl

-- two codes in range with one word are the same
pub packed_of-one : (c d : Code) → IsInRange c → IsInRange d → packed_of c ≡ packed_of d → c ≡ d
packed_of-one (Sys m) (Sys n) hc hd e = ap Sys (omega arith)
packed_of-one (Sys m) (User n) hc hd e = absurd (omega arith)
packed_of-one (User m) (Sys n) hc hd e = absurd (omega arith)
packed_of-one (User m) (User n) hc hd e = ap User (omega arith)

-- the word of a code in range has 32 bits
pub packed_of-lt : (code : Code) → IsInRange code → packed_of code < 2 ^ 32
packed_of-lt (Sys n) h = omega arith
packed_of-lt (User n) h = omega arith
