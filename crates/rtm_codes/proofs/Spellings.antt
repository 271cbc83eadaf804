-- A text is read as a code exactly where it spells that code, and it spells one code at most.
use Rattle.std.proofs.Common.{◌≡◌, ℕ, ◌+◌, ◌*◌, ◌^◌, ◌<◌, ◌≤◌, Bool, true, false, cond, ◌&&◌, eqb, leb, List, [], ◌∷◌, length, Option, Some, None, option_map, option_and_then, IfSome, IfNone, refl, sym, ap, subst, ◌∙◌, arith}
use Rattle.std.proofs.lemmas.Bool.{le-leb, eqb-true}
use Rattle.std.proofs.lemmas.Bool.Decides.{nat_tests}
use Rattle.std.proofs.lemmas.Nat.{mul-add-lt}
use Rattle.std.proofs.lemmas.Option.{option_and_then_some, same_Some}
use Rattle.std.proofs.Math.Nat.{pow-zero, pow-succ'}
use Rattle.rtm_codes.specs.declared.code.Code.{Code}
use Rattle.rtm_codes.specs.declared.code.Code.TheVariants.{Sys, User}
use Rattle.rtm_codes.specs.Code.{IsInRange, SpellsNumber, Spells}
use Rattle.rtm_codes.specs.Reading.{below, number_after, system_number_in, user_number_in, code_in}
use Rattle.rtm_text.proofs.DigitLaws.{below-Some, below-lt, number_after-whole, whole-number_after, SpellsNumber-lt}

-- a text that spells a code is read as that code
pub code_in-spelled : (text : List ℕ) (code : Code) → Spells text code → code_in text ≡ Some code
code_in-spelled [] code s = absurd s
code_in-spelled (letter ∷ digits) (Sys n) s =
    let read = number_after-whole 16 n digits (omega arith) s.2 in
    rw (s.0, s.1, read) refl
code_in-spelled (letter ∷ digits) (User n) s =
    let read = number_after-whole 10 n digits (omega arith) s.3 in
    let some = le-leb 1 (length digits) s.1 in
    let few = le-leb (length digits) 4 s.2 in
    let small = below-lt 4096 n (omega (arith, s.4)) in
    rw (s.0, some, few, read, small) refl

-- a value that was chosen, and not None
if_Some : {A : Type 0} (b : Bool) (o : Option A) (y : A) → cond b o None ≡ Some y → (b ≡ true) × (o ≡ Some y)
if_Some true o y e = (refl, e)
if_Some false o y e = absurd cc

-- what a value is the image of
record IsMapped {A B : Type 0} (f : A → B) (o : Option A) (y : B) : Type 0 where
  from : A
  is : o ≡ Some from
  to : f from ≡ y

option_map-Some : {A B : Type 0} (f : A → B) (o : Option A) (y : B) → option_map f o ≡ Some y → IsMapped f o y
option_map-Some f None y e = absurd cc
option_map-Some f (Some x) y e = record { from = x; is = refl; to = same_Some (f x) y e }

within : (size : ℕ) → (leb 1 size && leb size 4) ≡ true → (1 ≤ size) × (size ≤ 4)
within size e = grind (arith, nat_tests)

system_spelled : (digits : List ℕ) (code : Code) →
    option_map Sys (system_number_in digits) ≡ Some code → Spells (83 ∷ digits) code
system_spelled digits code e =
    let m = option_map-Some Sys (system_number_in digits) code e in
    let r = if_Some (eqb (length digits) 3) (number_after 16 0 digits) m.from m.is in
    subst (λ (c : Code). Spells (83 ∷ digits) c) m.to
    (refl, eqb-true (length digits) 3 r.0, whole-number_after 16 m.from digits r.1)

user_spelled : (digits : List ℕ) (code : Code) →
    option_map User (user_number_in digits) ≡ Some code → Spells (85 ∷ digits) code
user_spelled digits code e =
    let m = option_map-Some User (user_number_in digits) code e in
    let fits = leb 1 (length digits) && leb (length digits) 4 in
    let read = option_and_then (below 4096) (number_after 10 0 digits) in
    let r = if_Some fits read m.from m.is in
    let size = within (length digits) r.0 in
    option_and_then_some (below 4096) (number_after 10 0 digits) m.from r.1
    (λ n is small.
    let b = below-Some 4096 n m.from small in
    let spelled = subst (λ (k : ℕ). SpellsNumber 10 digits k) b.1 (whole-number_after 10 n digits is) in
    subst (λ (c : Code). Spells (85 ∷ digits) c) m.to
    (refl, size.0, size.1, spelled, omega (arith, b.0, b.1)))

-- the letter chooses between two ways, and is known then
by_letter : (letter : ℕ) (digits : List ℕ) (code : Code) (s u : Bool) →
    eqb letter 83 ≡ s → eqb letter 85 ≡ u →
    cond s (option_map Sys (system_number_in digits))
    (cond u (option_map User (user_number_in digits)) None) ≡ Some code →
    Spells (letter ∷ digits) code
by_letter letter digits code true u is_s is_u e = rw (eqb-true letter 83 is_s) (system_spelled digits code e)
by_letter letter digits code false true is_s is_u e = rw (eqb-true letter 85 is_u) (user_spelled digits code e)
by_letter letter digits code false false is_s is_u e = absurd cc

-- what is read as a code spells it
pub Spells-code_in : (text : List ℕ) (code : Code) → code_in text ≡ Some code → Spells text code
Spells-code_in [] code e = absurd cc
Spells-code_in (letter ∷ digits) code e = by_letter letter digits code (eqb letter 83) (eqb letter 85) refl refl e

-- a text spells one code at most
pub Spells-one : (text : List ℕ) (c d : Code) → Spells text c → Spells text d → c ≡ d
Spells-one text c d s t = same_Some c d (sym (code_in-spelled text c s) ∙ code_in-spelled text d t)

-- a code that is spelled is in range
pub Spells-in_range : (text : List ℕ) (code : Code) → Spells text code → IsInRange code
Spells-in_range [] code s = absurd s
Spells-in_range (letter ∷ digits) (Sys n) s =
    let bound = rw s.1 at (SpellsNumber-lt 16 n digits s.2) in omega (arith, bound)
Spells-in_range (letter ∷ digits) (User n) s = s.4

-- what is read is spelled by the text
pub read-found : (text : List ℕ) (r : Option Code) → r ≡ code_in text → IfSome r (λ code. Spells text code)
read-found text None e = tt
read-found text (Some code) e = Spells-code_in text code (sym e)

-- a text from which nothing is read spells no code
pub read-none : (text : List ℕ) (r : Option Code) → r ≡ code_in text → IfNone r ((code : Code) → Spells text code → ⊥)
read-none text None e = λ code s. let read = code_in-spelled text code s in cc
read-none text (Some code) e = tt

-- what is read is in range
pub read-in_range : (text : List ℕ) (r : Option Code) → r ≡ code_in text → IfSome r IsInRange
read-in_range text None e = tt
read-in_range text (Some code) e = Spells-in_range text code (Spells-code_in text code (sym e))
