use Rattle.std.proofs.Common.{arith}
use Rattle.std.proofs.Math.Nat.{mul-le-mul_left}
use Rattle.rtm_text.proofs.DigitLaws.{room}
use Rattle.rtm_text.proofs.digits.number_in.Goals as goal

pub overflow_mul-number : goal.overflow_mul-number
overflow_mul-number c =
    let r = room c.loop-byte.number c.loop-byte.byte-index c.loop-byte.invariant.bound (omega arith) in
    omega (arith, r, mul-le-mul_left c.loop-byte.number c.requires.small_base)

pub overflow_add-number : goal.overflow_add-number
overflow_add-number c =
    let r = room c.loop-byte.number c.loop-byte.byte-index c.loop-byte.invariant.bound (omega arith) in
    omega (arith, r, mul-le-mul_left c.loop-byte.number c.requires.small_base, c.in_ok-number.ensures.below_base)
