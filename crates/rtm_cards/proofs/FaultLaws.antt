-- Each input has no fault, or one first fault.
use Rattle.std.proofs.Common.{◌≡◌, ℕ, zero, suc, ◌<◌, ◌≤◌, ◌↔◌, Bool, true, false, Option, Some, None, List, length, refl, sym, ap, ◌∙◌, inl, inr, arith}
use Rattle.std.specs.Prelude.{◌⊎◌, if◌then◌else◌}
use Rattle.std.proofs.lemmas.Bool.{cases_lt, cases_order}
use Rattle.rtm_cards.specs.declared.fault.CutWhy.{CutWhy}
use Rattle.rtm_cards.specs.declared.fault.CutWhy.TheVariants.{TooLong, OverLimit, BadByte, BadCard}
use Rattle.rtm_cards.specs.declared.fault.CutFault.{CutFault}
use Rattle.rtm_cards.specs.Limits.{most_bytes}
use Rattle.rtm_cards.specs.Lines.{lines_of, line_at, number_at}
use Rattle.rtm_cards.specs.Rules.{fault_of}
use Rattle.rtm_cards.specs.Faults.{FirstCutFault, HasNoFault, IsFirstFault}

-- no fault up to a card, or a first one
abbrev UpTo : List (List ℕ) → ℕ → Type 0
UpTo lines n = ((m : ℕ) → 0 < m → m ≤ n → fault_of m (line_at lines m) ≡ None) ⊎ ((number : ℕ) × (why : CutWhy) × FirstCutFault lines number why)

-- a card more
one_more : (lines : List (List ℕ)) (n : ℕ) → suc n ≤ length lines → ((m : ℕ) → 0 < m → m ≤ n → fault_of m (line_at lines m) ≡ None)
    → (o : Option CutWhy) → fault_of (suc n) (line_at lines (suc n)) ≡ o → UpTo lines (suc n)
one_more lines n there h None e = inl (λ m p q. elim (cases_lt n m) [
  | inl more ↦ let same : m ≡ suc n = omega arith in rw same e
  | inr le ↦ h m p le
])
one_more lines n there h (Some why) e = inr (
  suc n,
  why,
  record {
    counted = omega arith;
    there = there;
    broken = e;
    least = λ m p q. h m p (omega arith);
  },
)

up_to : (lines : List (List ℕ)) (n : ℕ) → n ≤ length lines → UpTo lines n
up_to lines zero there = inl (λ m p q. absurd (omega arith))
up_to lines (suc n) there = elim (up_to lines n (omega arith)) [
  | inl h ↦ one_more lines n there h (fault_of (suc n) (line_at lines (suc n))) refl
  | inr f ↦ inr f
]

-- an input has no fault, or a first one, and never both
pub fault_or_none : (bytes : List ℕ) → HasNoFault bytes ⊎ ((fault : CutFault) × IsFirstFault bytes fault)
fault_or_none bytes = elim (cases_lt most_bytes (length bytes)) [
  | inl over ↦ inr (record { card = number_at bytes most_bytes; why = TooLong }, record { by_size = λ _. (refl, refl); by_card = λ few. absurd (omega (arith, over, few)) })
  | inr few ↦ elim (up_to (lines_of bytes) (length (lines_of bytes)) (omega arith)) [
    | inl none ↦ inl (record { size = few; cards = none })
    | inr f ↦ inr (record { card = f.0; why = f.1 }, record { by_size = λ over. absurd (omega (arith, over, few)); by_card = λ _. f.2 })
  ]
]

pub never_both : (bytes : List ℕ) (fault : CutFault) → HasNoFault bytes → IsFirstFault bytes fault → ⊥
never_both bytes fault none f =
    let first = f.by_card none.size in
    let good = none.cards fault.card first.counted first.there in
    let broken = first.broken in
    cc

same_fault : (a b : CutFault) → a.card ≡ b.card → a.why ≡ b.why → a ≡ b
same_fault a b e f =
    let made : ℕ → CutWhy → CutFault = λ n w. record { card = n; why = w } in
    ap (λ (n : ℕ). made n a.why) e ∙ ap (λ (w : CutWhy). made b.card w) f

-- a card before the first fault has none
not_before : (lines : List (List ℕ)) (m n : ℕ) (v w : CutWhy) → FirstCutFault lines m v → FirstCutFault lines n w → m < n → ⊥
not_before lines m n v w a b h =
    let good = b.least m a.counted h in
    let broken = a.broken in
    cc

-- two first faults are one
same_card : (lines : List (List ℕ)) (m n : ℕ) (v w : CutWhy) → FirstCutFault lines m v → FirstCutFault lines n w → m ≡ n
same_card lines m n v w a b = elim (cases_order m n) [
  | inl same ↦ same
  | inr other ↦ elim other [
    | inl lt ↦ absurd (not_before lines m n v w a b lt)
    | inr gt ↦ absurd (not_before lines n m w v b a gt)
  ]
]

same_why : (lines : List (List ℕ)) (m n : ℕ) (v w : CutWhy) → FirstCutFault lines m v → FirstCutFault lines n w → v ≡ w
same_why lines m n v w a b =
    let same = same_card lines m n v w a b in
    let first = a.broken in
    let second : fault_of m (line_at lines m) ≡ Some w = rw same b.broken in
    cc

pub only_one : (bytes : List ℕ) (a b : CutFault) → IsFirstFault bytes a → IsFirstFault bytes b → a ≡ b
only_one bytes a b f g = elim (cases_lt most_bytes (length bytes)) [
  | inl over ↦ same_fault a b ((f.by_size over).0 ∙ sym (g.by_size over).0) ((f.by_size over).1 ∙ sym (g.by_size over).1)
  | inr few ↦ same_fault a b (same_card _ _ _ _ _ (f.by_card few) (g.by_card few)) (same_why _ _ _ _ _ (f.by_card few) (g.by_card few))
]

-- an answer by three tests is none of size
by_tests : (a b c : Bool) → (if a then Some OverLimit else (if b then Some BadByte else (if c then Some BadCard else None))) ≡ Some TooLong → ⊥
by_tests true b c e = cc
by_tests false true c e = cc
by_tests false false true e = cc
by_tests false false false e = cc

-- no card is too long an input
never_too_long : (number : ℕ) (card : List ℕ) → fault_of number card ≡ Some TooLong → ⊥
unfolding fault_of
never_too_long number card e = by_tests _ _ _ e

-- an input is too long by its size alone
pub too_long_by_size : (bytes : List ℕ) (fault : CutFault) → IsFirstFault bytes fault → (fault.why ≡ TooLong) ↔ (most_bytes < length bytes)
too_long_by_size bytes fault f = (forth, λ over. (f.by_size over).1)
  where
    forth : fault.why ≡ TooLong → most_bytes < length bytes
    forth e = elim (cases_lt most_bytes (length bytes)) [
      | inl over ↦ over
      | inr few ↦ absurd (never_too_long fault.card (line_at (lines_of bytes) fault.card) ((f.by_card few).broken ∙ ap (λ (w : CutWhy). Some w) e))
    ]
