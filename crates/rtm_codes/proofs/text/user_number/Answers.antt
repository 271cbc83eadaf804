use Rattle.std.proofs.Common.{◌≡◌, ◌≤◌, ◌<◌, ◌^◌, ℕ, Option, Some, None, IfSome, arith}
use Rattle.std.proofs.Math.Nat.{pow-le-pow_right}
use Rattle.rtm_codes.proofs.text.user_number.Goals as goal

-- a number of at most four digits has 16 bits
few_bits : (k : ℕ) (o : Option ℕ) → k ≤ 4 → IfSome o (λ n. n < 16 ^ k) → IfSome o (λ n. n < 65536)
few_bits k None few h = tt
few_bits k (Some n) few h = let le : 16 ^ k ≤ 16 ^ 4 = pow-le-pow_right {n = 16} (omega arith) {i = k} {j = 4} few in omega (arith, h, le)

pub narrow-requires : goal.narrow-requires
narrow-requires c = few_bits _ c.number_in.result (omega (arith, c.if-digits-gt4.false)) c.number_in.ensures.bound
