-- Which commands are in a set, as the set changes.
use Rattle.std.proofs.Common.{◌≡◌, ◌≢◌, ℕ, zero, suc, ◌+◌, ◌-◌, ◌*◌, ◌/◌, ◌%◌, ◌^◌, ◌<◌, ◌≤◌, min, max, Bool, true, false, not, ◌&&◌, ◌||◌, List, [], ◌∷◌, length, drop, ap, ◌∙◌, arith}
use Rattle.std.specs.Prelude.{◌==◌, nat_lt, slice_index, bit_and, if◌then◌else◌}
use Rattle.std.specs.Int.{w64, bit_at, trailing_zeros}
use Rattle.std.proofs.lemmas.Bool.Decides.{nat_tests}
use Rattle.std.proofs.lemmas.Nat.{pow_below}
use Rattle.std.proofs.lemmas.Nat.Bits.{bit_at_lowest, bit_at-suc, bit_at-zero, shr_and_one, bit_at_and, bit_at_or, bit_at-pow_same, bit_at-pow_other, bit_at_not, bit_at-trailing_zeros, bit_at-lt, same_from_bits, bit_at_above}
use Rattle.std.proofs.lemmas.List.{length-drop, drop_more}
use Rattle.std.proofs.Math.Nat.{pow-succ', pow-le-pow_right}
use Rattle.rtm_board.specs.Commands.{no_commands, has, with_one, without_one, union_of, IsLeast}
use Rattle.rtm_board.specs.View.{commands_for, all_of}

-- no command is in the empty set
pub has_none : (c : ℕ) → has c no_commands ≡ false
unfolding has
has_none c = ap (λ (n : ℕ). n == 1) (bit_at-zero c)

or_step : (x y c d : ℕ) → x < 2 → (c ≡ d → y ≡ 1) → (c ≢ d → y ≡ 0) → (max x y == 1) ≡ ((c == d) || (x == 1))
or_step x y c d bit same other = grind (arith, nat_tests)

-- one more command
pub has_with : (c d s : ℕ) → has c (with_one d s) ≡ ((c == d) || has c s)
unfolding has
has_with c d s =
    let same : c ≡ d → bit_at (2 ^ d) c ≡ 1 = λ e. ap (λ (n : ℕ). bit_at (2 ^ d) n) e ∙ bit_at-pow_same d in
    ap (λ (n : ℕ). n == 1) (bit_at_or s (2 ^ d) c) ∙ or_step (bit_at s c) (bit_at (2 ^ d) c) c d (bit_at-lt s c) same (bit_at-pow_other d c)

and_step : (x y c d : ℕ) → x < 2 → (c ≡ d → y ≡ 0) → (c ≢ d → y ≡ 1) → (min x y == 1) ≡ (not (c == d) && (x == 1))
and_step x y c d bit same other = grind (arith, nat_tests)

-- one less: of commands that have a bit
pub has_without : (c d s : ℕ) → c < 64 → d < 64 → has c (without_one d s) ≡ (not (c == d) && has c s)
unfolding has
has_without c d s c_below d_below =
    let rest = bit_at_not w64 (2 ^ d) c (pow_below d 64 d_below) c_below in
    let same : c ≡ d → bit_at (2 ^ 64 - 1 - 2 ^ d) c ≡ 0 = λ e. rest ∙ ap (λ (n : ℕ). 1 - n) (ap (λ (n : ℕ). bit_at (2 ^ d) n) e ∙ bit_at-pow_same d) in
    let other : c ≢ d → bit_at (2 ^ 64 - 1 - 2 ^ d) c ≡ 1 = λ ne. rest ∙ ap (λ (n : ℕ). 1 - n) (bit_at-pow_other d c ne) in
    ap (λ (n : ℕ). n == 1) (bit_at_and s (2 ^ 64 - 1 - 2 ^ d) c) ∙ and_step (bit_at s c) (bit_at (2 ^ 64 - 1 - 2 ^ d) c) c d (bit_at-lt s c) same other

join_step : (x y : ℕ) → x < 2 → y < 2 → (max x y == 1) ≡ ((x == 1) || (y == 1))
join_step x y bit bit' = grind (arith, nat_tests)

-- the commands of two sets
pub has_joined : (c a b : ℕ) → has c (union_of a b) ≡ (has c a || has c b)
unfolding has
has_joined c a b = ap (λ (n : ℕ). n == 1) (bit_at_or a b c) ∙ join_step (bit_at a c) (bit_at b c) (bit_at-lt a c) (bit_at-lt b c)

-- a word has no command past the 63rd
pub has_above : (c s : ℕ) → s < 2 ^ 64 → 64 ≤ c → has c s ≡ false
unfolding has
has_above c s fits above = ap (λ (n : ℕ). n == 1) (bit_at_above s 64 c fits above)

-- how the code tests it
pub has_by_shift : (c s : ℕ) → (bit_and (s / 2 ^ c) 1 == 1) ≡ has c s
unfolding has
has_by_shift c s = ap (λ (n : ℕ). n == 1) (shr_and_one s c)

bit_from : (x y : ℕ) → x < 2 → y < 2 → (x == 1) ≡ (y == 1) → x ≡ y
bit_from x y bit bit' e = grind (arith, nat_tests)

-- two sets with the same commands are equal
pub same_sets : (a b : ℕ) → ((c : ℕ) → has c a ≡ has c b) → a ≡ b
unfolding has
same_sets a b h = same_from_bits a b (λ c. bit_from (bit_at a c) (bit_at b c) (bit_at-lt a c) (bit_at-lt b c) (h c))

is_one : (x : ℕ) → x ≡ 1 → (x == 1) ≡ true
is_one x e = grind (arith, nat_tests)

is_none : (x : ℕ) → x ≡ 0 → (x == 1) ≡ false
is_none x e = grind (arith, nat_tests)

-- the least command of a set
pub least : (s : ℕ) → 0 < s → s < 2 ^ 64 → IsLeast s (trailing_zeros w64 s)
unfolding has
least s some fits =
    let facts = bit_at-trailing_zeros w64 s some fits in
    record { here = is_one (bit_at s (trailing_zeros w64 s)) facts.1; none_before = λ c below. is_none (bit_at s c) (facts.2 c below) }

pub least_below : (s : ℕ) → 0 < s → s < 2 ^ 64 → trailing_zeros w64 s < 64
least_below s some fits = (bit_at-trailing_zeros w64 s some fits).0

-- The commands for a unit

lowest : (b n : ℕ) → b ≤ 1 → (b + 2 * n) % 2 ≡ b
lowest b n bit = omega arith

others : (b n : ℕ) → b ≤ 1 → (b + 2 * n) / 2 ≡ n
others b n bit = omega arith

one_or_none : (t u : ℕ) → (if t == u then 1 else 0) ≤ 1
one_or_none t u = grind (arith, nat_tests)

test_bit : (t u n : ℕ) → ((if t == u then 1 else 0) == 1) ≡ (nat_lt 0 (suc n) && (t == u))
test_bit t u n = grind (arith, nat_tests)

shorter_by_one : (i n : ℕ) → nat_lt i n ≡ nat_lt (suc i) (suc n)
shorter_by_one i n = grind (arith, nat_tests)

pub has_commands_for : (u c : ℕ) (targets : List ℕ) → has c (commands_for u targets) ≡ (nat_lt c (length targets) && (slice_index targets c == u))
unfolding has
has_commands_for u c [] = ap (λ (n : ℕ). n == 1) (bit_at-zero c) ∙ grind (arith, nat_tests)
has_commands_for u zero (t ∷ ts) =
    ap (λ (n : ℕ). n == 1) (bit_at_lowest (commands_for u (t ∷ ts)) ∙ lowest (if t == u then 1 else 0) (commands_for u ts) (one_or_none t u)) ∙ test_bit t u (length ts)
has_commands_for u (suc c) (t ∷ ts) =
    ap (λ (n : ℕ). n == 1) (bit_at-suc (commands_for u (t ∷ ts)) c ∙ ap (λ (n : ℕ). bit_at n c) (others (if t == u then 1 else 0) (commands_for u ts) (one_or_none t u)))
    ∙ has_commands_for u c ts
    ∙ ap (λ (b : Bool). b && (slice_index ts c == u)) (shorter_by_one c (length ts))

-- each command is for its own unit alone
pub own_command : (u c : ℕ) (targets : List ℕ) → c < length targets → slice_index targets c ≡ u → has c (commands_for u targets) ≡ true
own_command u c targets within e =
    has_commands_for u c targets ∙ (let t = slice_index targets c in let n = length targets in own_step c n t u within e)
  where
    own_step : (c n t u : ℕ) → c < n → t ≡ u → (nat_lt c n && (t == u)) ≡ true
    own_step c n t u within e = grind (arith, nat_tests)

pub other_command : (u c : ℕ) (targets : List ℕ) → slice_index targets c ≢ u → has c (commands_for u targets) ≡ false
other_command u c targets ne =
    has_commands_for u c targets ∙ other_step c (length targets) (slice_index targets c) u ne
  where
    other_step : (c n t u : ℕ) → t ≢ u → (nat_lt c n && (t == u)) ≡ false
    other_step c n t u ne = grind (arith, nat_tests)

-- the commands for a unit fit in as many bits as there are commands
twice_below : (b n k : ℕ) → b ≤ 1 → n < k → b + 2 * n < 2 * k
twice_below b n k bit below = omega arith

pub commands_fit_bits : (u : ℕ) (targets : List ℕ) → commands_for u targets < 2 ^ length targets
commands_fit_bits u [] = omega arith
commands_fit_bits u (t ∷ ts) =
    rw pow-succ' (twice_below (if t == u then 1 else 0) (commands_for u ts) (2 ^ length ts) (one_or_none t u) (commands_fit_bits u ts))

-- so one more fits, while a command is left
pub doubled_fits : (u : ℕ) (targets : List ℕ) (left : ℕ) → length targets ≤ 64 → 0 < left → 2 * commands_for u (drop left targets) + 1 < 2 ^ 64
doubled_fits u targets left few some =
    let bits : length (drop left targets) ≤ 63 = omega (arith, length-drop left targets) in
    let most : 2 ^ length (drop left targets) ≤ 2 ^ 63 = pow-le-pow_right (omega arith) bits in
    twice_fits (commands_for u (drop left targets)) (2 ^ length (drop left targets)) (commands_fit_bits u (drop left targets)) most
  where
    twice_fits : (n k : ℕ) → n < k → k ≤ 2 ^ 63 → 2 * n + 1 < 2 ^ 64
    twice_fits n k below most = omega arith

-- the list from one command before
pub one_more : (u : ℕ) (targets : List ℕ) (i : ℕ) → i < length targets → commands_for u (drop i targets) ≡ (if slice_index targets i == u then 1 else 0) + 2 * commands_for u (drop (i + 1) targets)
one_more u targets i within = ap (commands_for u) (drop_more targets i 0 within)

pub one_more_word : (words : List ℕ) (i : ℕ) → i < length words → all_of (drop i words) ≡ union_of (slice_index words i) (all_of (drop (i + 1) words))
one_more_word words i within = ap all_of (drop_more words i 0 within)
