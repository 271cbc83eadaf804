-- A number without leading zeros spells that number, in digits, and no spelling of it is shorter.
use Rattle.std.proofs.Common.{◌≡◌, ℕ, zero, suc, ◌+◌, ◌-◌, ◌*◌, ◌/◌, ◌%◌, ◌^◌, ◌<◌, ◌≤◌, Bool, true, false, not, cond, ◌&&◌, eqb, leb, ltb, List, [], ◌∷◌, ◌++◌, length, refl, ap, sym, subst, ◌∙◌, length-append, append_assoc, append-nil, inl, inr, arith}
use Rattle.std.specs.Prelude.{decimal}
use Rattle.std.specs.Fmt.{digit_glyph, digits, digits_onto}
use Rattle.std.proofs.lemmas.Bool.{cases_lt, lt-ltb, le-ltb, ne_eqb}
use Rattle.std.proofs.lemmas.Nat.{div-add-mod'}
use Rattle.std.proofs.Math.Nat.{pow-zero, pow-succ', mod-eq_of_lt, mod-lt, div-lt_iff_lt-mul}
use Rattle.rtm_text.specs.Digits.{digit_char, IsDigit, SpellsNumber}
use Rattle.rtm_text.specs.Numeral.{decimal_of, numeral}
use Rattle.rtm_text.proofs.DigitLaws.{SpellsNumber-lt}

-- what one more digit behind adds
shifted : (base digit power rest last : ℕ) → (digit * power + rest) * base + last ≡ digit * (base * power) + (rest * base + last)
shifted base digit power rest last = omega arith

length-snoc : (bytes : List ℕ) (b : ℕ) → length (bytes ++ b ∷ []) ≡ suc (length bytes)
length-snoc bytes b = length-append bytes (b ∷ []) ∙ (let e : length bytes + 1 ≡ suc (length bytes) = omega arith in e)

-- one more digit behind digits
SpellsNumber-snoc : (base m d : ℕ) (bytes : List ℕ) → SpellsNumber base bytes m → d < base → SpellsNumber base (bytes ++ digit_char d ∷ []) (m * base + d)
SpellsNumber-snoc base m d [] s small =
    let none : m * base ≡ 0 = rw s (omega arith) in
    let power : base ^ 0 ≡ 1 = pow-zero base in
    (d, 0, (small, refl), refl, rw power (omega (arith, none)))
SpellsNumber-snoc base m d (byte ∷ bytes) s small =
    let rest = SpellsNumber-snoc base s.1 d bytes s.3 small in
    let size : base ^ length (bytes ++ digit_char d ∷ []) ≡ base * base ^ length bytes = ap (λ (k : ℕ). base ^ k) (length-snoc bytes (digit_char d)) ∙ pow-succ' base (length bytes) in
    (s.0, s.1 * base + d, s.2, rest, rw (size, s.4) (shifted base s.0 (base ^ length bytes) s.1 d))

-- the number without its last digit has one digit less
fewer : (base n j : ℕ) → 0 < base → n < base ^ suc j → n / base < base ^ j
fewer base n j some h =
    let e : base ^ suc j ≡ base ^ j * base = pow-succ' base j ∙ (let c : base * base ^ j ≡ base ^ j * base = omega arith in c) in
    let bound : n < base ^ j * base = rw e at h in
    (div-lt_iff_lt-mul {k = base} {x = n} {y = base ^ j} some).1 bound

one_power : (base : ℕ) → base ^ 1 ≡ base
one_power base = pow-succ' base 0 ∙ rw pow-zero (omega arith)

one_digit : (base n : ℕ) → n < base → SpellsNumber base (digit_char (n % base) ∷ []) n
one_digit base n small =
    let same : n % base ≡ n = mod-eq_of_lt {n = n} {m = base} small in
    rw same (n, 0, (small, refl), refl, rw pow-zero (omega arith))

pub numeral-spells : (base others n : ℕ) → 0 < base → n < base ^ suc others → SpellsNumber base (numeral base others n) n
numeral-spells base zero n some h =
    let small : n < base = rw (one_power base) at h in one_digit base n small
numeral-spells base (suc others) n some h =
    elim (cases_lt n base) [
      | inl small ↦ rw (lt-ltb n base small) (one_digit base n small)
      | inr big ↦ rw (le-ltb n base big)
          (let before = numeral-spells base others (n / base) some (fewer base n (suc others) some h) in
          let all = SpellsNumber-snoc base (n / base) (n % base) (numeral base others (n / base)) before (mod-lt n {m = base} some) in
          subst (λ (k : ℕ). SpellsNumber base (numeral base others (n / base) ++ digit_char (n % base) ∷ []) k) (div-add-mod' n base) all)
    ]

pub numeral-some : (base others n : ℕ) → 1 ≤ length (numeral base others n)
numeral-some base zero n = omega arith
numeral-some base (suc others) n =
    let e = length-snoc (cond (ltb n base) [] (numeral base others (n / base))) (digit_char (n % base)) in omega (arith, e)

pub numeral-few : (base others n : ℕ) → length (numeral base others n) ≤ suc others
numeral-few base zero n = omega arith
numeral-few base (suc others) n =
    elim (cases_lt n base) [
      | inl small ↦ rw (lt-ltb n base small) (omega arith)
      | inr big ↦ rw (le-ltb n base big)
          (let e = length-snoc (numeral base others (n / base)) (digit_char (n % base)) in
          let before = numeral-few base others (n / base) in omega (arith, e, before))
    ]

-- digits that suffice are no fewer
pub numeral-short : (base others n j : ℕ) → 0 < base → n < base ^ suc j → length (numeral base others n) ≤ suc j
numeral-short base zero n j some h = omega arith
numeral-short base (suc others) n j some h =
    elim (cases_lt n base) [
      | inl small ↦ rw (lt-ltb n base small) (omega arith)
      | inr big ↦ rw (le-ltb n base big) (go j h big (numeral-short base others (n / base)))
    ]
  where
    go : (i : ℕ) → n < base ^ suc i → base ≤ n → ((k : ℕ) → 0 < base → n / base < base ^ suc k → length (numeral base others (n / base)) ≤ suc k) →
        length (numeral base others (n / base) ++ digit_char (n % base) ∷ []) ≤ suc i
    go zero f big before = let small : n < base = rw (one_power base) at f in absurd (omega arith)
    go (suc i) f big before =
        let e = length-snoc (numeral base others (n / base)) (digit_char (n % base)) in
        let few = before i some (fewer base n (suc i) some f) in
        omega (arith, e, few)

-- no digits that spell a number are fewer than those without leading zeros
pub numeral-shortest : (base others n : ℕ) (text : List ℕ) → 0 < base → 1 ≤ length text → SpellsNumber base text n → length (numeral base others n) ≤ length text
numeral-shortest base others n [] some there s = absurd (omega arith)
numeral-shortest base others n (byte ∷ bytes) some there s = numeral-short base others n (length bytes) some (SpellsNumber-lt base n (byte ∷ bytes) s)

-- the digits before the last one, where there are some
pub numeral_more : (base others number : ℕ) → 0 < others → base ≤ number →
    numeral base others number ≡ numeral base (others - 1) (number / base) ++ digit_char (number % base) ∷ []
numeral_more base zero number some big = absurd (omega arith)
numeral_more base (suc others) number some big =
    let one_less : suc others - 1 ≡ others = omega arith in
    rw (le-ltb number base big, one_less) refl

-- the last digit alone
pub numeral_last : (base others number : ℕ) → (0 < others → number < base) → numeral base others number ≡ digit_char (number % base) ∷ []
numeral_last base zero number small = refl
numeral_last base (suc others) number small =
    let less = small (omega arith) in rw (lt-ltb number base less) refl

-- what std writes in decimal digits is the same numeral
glyph : (d : ℕ) → d < 10 → digit_glyph false d ≡ digit_char d
glyph d small = rw (lt-ltb d 10 small) refl

digits_onto-numeral : (k others n : ℕ) (acc : List ℕ) → others < k → n < 10 ^ suc others →
    digits_onto k 10 false n acc ≡ numeral 10 others n ++ acc
digits_onto-numeral zero others n acc few h = absurd (omega arith)
digits_onto-numeral (suc k) zero n acc few h =
    let small : n < 10 = rw (one_power 10) at h in
    let none : n / 10 ≡ 0 = omega arith in
    let last : n % 10 < 10 = omega arith in
    rw (none, glyph (n % 10) last) refl
digits_onto-numeral (suc k) (suc others) n acc few h =
    let last : n % 10 < 10 = omega arith in
    elim (cases_lt n 10) [
      | inl small ↦ (let none : n / 10 ≡ 0 = omega arith in rw (none, lt-ltb n 10 small, glyph (n % 10) last) refl)
      | inr big ↦ (let some : (n / 10 ≡ 0) → ⊥ = λ e. omega arith in
          rw (ne_eqb (n / 10) 0 some, le-ltb n 10 big, glyph (n % 10) last)
          (digits_onto-numeral k others (n / 10) (digit_char (n % 10) ∷ acc) (omega arith) (fewer 10 n (suc others) (omega arith) h)
          ∙ sym (append_assoc (numeral 10 others (n / 10)) (digit_char (n % 10) ∷ []) acc)))
    ]

pub decimal-numeral : (n : ℕ) → n < 10 ^ 10 → decimal n ≡ numeral 10 9 n
unfolding digits
decimal-numeral n h = digits_onto-numeral 64 9 n [] (omega arith) h ∙ append-nil (numeral 10 9 n)

pub decimal_of_ten : (n : ℕ) → n < 10 ^ 10 → decimal n ≡ decimal_of n
unfolding decimal_of
decimal_of_ten n h = decimal-numeral n h
