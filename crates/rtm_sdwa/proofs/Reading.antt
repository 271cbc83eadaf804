-- The bytes of a record give its parts back.
use Rattle.std.proofs.Common.{◌≡◌, ℕ, ◌+◌, ◌^◌, ◌<◌, Bool, true, false, List, [], ◌∷◌, ◌++◌, length, take, drop, Option, Some, None, refl, ap, subst, ◌∙◌, arith}
use Rattle.std.specs.Prelude.{IfSome, IsTrue, is_some, slice_index, replicate, ◌==◌, ◌&&◌, if◌then◌else◌}
use Rattle.std.specs.Option.{unwrap_or}
use Rattle.std.specs.Int.{w16, w32, from_be_bytes}
use Rattle.std.proofs.lemmas.Nat.{from_be_bytes-to_be_bytes_2, from_be_bytes-to_be_bytes_4}
use Rattle.std.proofs.lemmas.List.{take_at}
use Rattle.std.proofs.lemmas.Bool.Decides.{nat_tests}
use Rattle.rtm_codes.specs.declared.code.Code.{Code}
use Rattle.rtm_codes.specs.declared.code.Code.TheVariants.{Sys, User}
use Rattle.rtm_codes.specs.Code.{IsInRange, packed_of}
use Rattle.rtm_deck_operands.specs.Name.{is_padded_name}
use Rattle.rtm_model.specs.declared.error_record.ErrorRecord.{ErrorRecord}
use Rattle.rtm_sdwa.specs.Flags.{flags_of, word_of}
use Rattle.rtm_sdwa.specs.Bytes.{bytes_of, label_field}
use Rattle.rtm_sdwa.specs.Sdwa.{IsSdwa}
use Rattle.rtm_sdwa.proofs.Words.{flags_again, word_of-lt}

-- the word of a code in range has 32 bits
packed-lt : (code : Code) → IsInRange code → packed_of code < 2 ^ 32
packed-lt (Sys n) h = omega arith
packed-lt (User n) h = omega arith

reason-lt : (reason : Option ℕ) → IfSome reason (λ n. n < 2 ^ 32) → unwrap_or reason 0 < 2 ^ 32
reason-lt None h = omega arith
reason-lt (Some n) h = h

-- the number of the four bytes from there on, and of the two bytes of the flags
abbrev word_in : ℕ → List ℕ → ℕ
word_in at bytes = from_be_bytes w32 (slice_index bytes at ∷ slice_index bytes (at + 1) ∷ slice_index bytes (at + 2) ∷ slice_index bytes (at + 3) ∷ [])

abbrev flags_in : List ℕ → ℕ
flags_in bytes = from_be_bytes w16 (slice_index bytes 16 ∷ slice_index bytes 17 ∷ [])

-- what stands at the front, of as many as there are
front : (n : ℕ) (xs ys : List ℕ) → length xs ≡ n → take n (xs ++ ys) ≡ xs
front n xs ys e = take_at xs ys n e

-- the first of two tests, and the branch that a test takes
first_holds : (a b : Bool) → IsTrue (a && b) → IsTrue a
first_holds true b h = refl
first_holds false b h = absurd cc

if_true : {A : Type 0} (test : Bool) (x y : A) → IsTrue test → (if test then x else y) ≡ x
if_true true x y h = refl
if_true false x y h = absurd cc

is_eight : (n : ℕ) → IsTrue (n == 8) → n ≡ 8
is_eight n h = grind (arith, nat_tests)

-- a name and its padding have eight bytes
named : (label : List ℕ) → IsTrue (is_padded_name label) → length label ≡ 8
named label h = is_eight (length label) (first_holds _ _ (first_holds _ _ h))

field-length : (label : Option (List ℕ)) → IfSome label (λ l. IsTrue (is_padded_name l)) → length (label_field label) ≡ 8
field-length None h = refl
field-length (Some label) h = named label h

-- the label that stands in a field
pub field_again : (label : Option (List ℕ)) → IfSome label (λ l. IsTrue (is_padded_name l)) →
    (if is_padded_name (label_field label) then Some (label_field label) else None) ≡ label
field_again None h = refl
field_again (Some label) h = if_true (is_padded_name label) (Some label) None h

-- the reason, of which the flag says that it is there
pub reason_again : (reason : Option ℕ) (stands : Bool) → stands ≡ is_some reason → (if stands then Some (unwrap_or reason 0) else None) ≡ reason
reason_again None true e = absurd cc
reason_again None false e = refl
reason_again (Some n) true e = refl
reason_again (Some n) false e = absurd cc

module _ (r : ErrorRecord) (s : IsSdwa r) (bytes : List ℕ) (e : bytes_of r ≡ bytes) where
  pub code_there : word_in 4 bytes ≡ packed_of r.code
  code_there = subst (λ (b : List ℕ). word_in 4 b ≡ packed_of r.code) e (from_be_bytes-to_be_bytes_4 (packed_of r.code) (packed-lt r.code s.kept.code))

  pub first_there : word_in 8 bytes ≡ packed_of r.first
  first_there = subst (λ (b : List ℕ). word_in 8 b ≡ packed_of r.first) e (from_be_bytes-to_be_bytes_4 (packed_of r.first) (packed-lt r.first s.kept.first))

  pub reason_there : word_in 12 bytes ≡ unwrap_or r.reason 0
  reason_there = subst (λ (b : List ℕ). word_in 12 b ≡ unwrap_or r.reason 0) e (from_be_bytes-to_be_bytes_4 (unwrap_or r.reason 0) (reason-lt r.reason s.reason))

  word_there : flags_in bytes ≡ word_of r.flags
  word_there = subst (λ (b : List ℕ). flags_in b ≡ word_of r.flags) e (from_be_bytes-to_be_bytes_2 (word_of r.flags) (word_of-lt r.flags))

  pub flags_there : flags_of (flags_in bytes) ≡ r.flags
  flags_there = ap flags_of word_there ∙ flags_again r.flags

  pub rc_there : slice_index bytes 18 ≡ r.rc
  rc_there = subst (λ (b : List ℕ). slice_index b 18 ≡ r.rc) e refl

  pub label_there : take 8 (drop 20 bytes) ≡ label_field r.retaddr
  label_there = subst (λ (b : List ℕ). take 8 (drop 20 b) ≡ label_field r.retaddr) e (front 8 (label_field r.retaddr) (replicate 20 0) (field-length r.retaddr s.label))
