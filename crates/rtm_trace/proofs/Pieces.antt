-- Pieces of text, and the digits of a number that is counted up.
use Rattle.std.proofs.Common.{◌≡◌, ℕ, ◌+◌, ◌-◌, ◌/◌, ◌%◌, ◌^◌, ◌<◌, ◌≤◌, List, [], ◌∷◌, ◌++◌, length, take, ap, sym, ◌∙◌, length-append, inl, inr, arith}
use Rattle.std.specs.Prelude.{codes, decimal, slice_set}
use Rattle.std.proofs.Math.Seq.{take-append-add, take-append_seam}
use Rattle.std.proofs.lemmas.Bool.{cases_lt}
use Rattle.std.proofs.lemmas.Fmt.{decimal_digit, decimal_step, decimal_nonempty, length-decimal-le}
use Rattle.std.proofs.lemmas.Grind.{take-set_at}
use Rattle.std.proofs.lemmas.List.{take-take, length-take-le}
use Rattle.rtm_deck_operands.specs.Name.{trimmed_text}
use Rattle.rtm_trace.proofs.Front.{take_front}

-- a text behind another, of which so much is kept
pub put_whole : (out bytes : List ℕ) (len : ℕ) → take (length out + len) (out ++ bytes) ≡ out ++ take len bytes
put_whole out bytes len = take-append-add out bytes len

-- a text of which the last byte is another
pub last_set : (bytes : List ℕ) (len byte : ℕ) → len ≤ length bytes → 0 < length (take len bytes) → take len (slice_set bytes (len - 1) byte) ≡ take (length (take len bytes) - 1) (take len bytes) ++ byte ∷ []
last_set bytes len byte within some =
    let size = length-take-le len bytes within in
    let one : len ≡ (len - 1) + 1 = omega (arith, some, size) in
    let inside : len - 1 < length bytes = omega (arith, within, some, size) in
    let less : len - 1 ≤ len = omega arith in
    take-set_at bytes (len - 1) len byte one inside
    ∙ ap (λ (t : List ℕ). t ++ byte ∷ []) (sym (take-take (len - 1) len bytes less))
    ∙ ap (λ (k : ℕ). take (k - 1) (take len bytes) ++ byte ∷ []) (sym size)

-- the digits of numbers
pub decimal_zero : codes "0" ≡ decimal 0
decimal_zero = sym (decimal_digit 0 (omega arith))

pub one_digit : (n : ℕ) → n < 10 → decimal n ≡ (48 + n) ∷ []
one_digit n h = decimal_digit n h

pub two_digits : (n : ℕ) → 10 ≤ n → n < 100 → decimal n ≡ (48 + n / 10) ∷ (48 + n % 10) ∷ []
two_digits n more less =
    let first : n / 10 < 10 = omega arith in
    decimal_step n more (omega arith) ∙ ap (λ (t : List ℕ). t ++ (48 + n % 10) ∷ []) (decimal_digit (n / 10) first)

pub few_digits : (n : ℕ) → n < 2 ^ 64 → length (decimal n) ≤ 20
few_digits n h = length-decimal-le 20 n (omega arith) (omega arith) h

-- all but the last byte
but_last : (front : List ℕ) (x : ℕ) → take (length (front ++ x ∷ []) - 1) (front ++ x ∷ []) ≡ front
but_last front x =
    let size = length-append front (x ∷ []) in
    let less : length (front ++ x ∷ []) - 1 ≡ length front = omega (arith, size) in
    ap (λ (k : ℕ). take k (front ++ x ∷ [])) less ∙ take-append_seam front (x ∷ [])

-- all but the last digit of a number
front_digits : (n : ℕ) (front : List ℕ) (x : ℕ) → decimal n ≡ front ++ x ∷ [] → take (length (decimal n) - 1) (decimal n) ≡ front
front_digits n front x e = ap (λ (t : List ℕ). take (length t - 1) t) e ∙ but_last front x

-- the next number has the same digits but the last, where that one isn't 0
pub next_digits : (n last : ℕ) → n + 1 < 2 ^ 64 → last ≡ (n + 1) % 10 → 0 < last → decimal (n + 1) ≡ take (length (decimal n) - 1) (decimal n) ++ (48 + last) ∷ []
next_digits n last wide is some = elim (cases_lt (n + 1) 10) [
  | inl less ↦
      let front = front_digits n [] (48 + n) (decimal_digit n (omega arith)) in
      let same : n + 1 ≡ last = omega (arith, is) in
      decimal_digit (n + 1) less ∙ ap (λ (k : ℕ). (48 + k) ∷ []) same ∙ ap (λ (t : List ℕ). t ++ (48 + last) ∷ []) (sym front)
  | inr more ↦
      let ten : 10 ≤ n = omega (arith, is, some, more) in
      let front = front_digits n (decimal (n / 10)) (48 + n % 10) (decimal_step n ten (omega (arith, wide))) in
      let same : (n + 1) / 10 ≡ n / 10 = omega (arith, is, some) in
      decimal_step (n + 1) more wide
      ∙ ap (λ (k : ℕ). decimal k ++ (48 + (n + 1) % 10) ∷ []) same
      ∙ ap (λ (k : ℕ). decimal (n / 10) ++ (48 + k) ∷ []) (sym is)
      ∙ ap (λ (t : List ℕ). t ++ (48 + last) ∷ []) (sym front)
]

pub some_digits : (n : ℕ) → n < 2 ^ 64 → 0 < length (decimal n)
some_digits n h = decimal_nonempty n h

-- a name behind a text, without its padding
pub name_whole : (out field : List ℕ) → take (length out + length (trimmed_text field)) (out ++ field) ≡ out ++ trimmed_text field
name_whole out field = take-append-add out field (length (trimmed_text field)) ∙ ap (λ (t : List ℕ). out ++ t) (take_front _ field)
