-- The word of ten flags gives the flags back.
use Rattle.std.proofs.Common.{◌≡◌, ℕ, ◌+◌, ◌*◌, ◌/◌, ◌%◌, ◌^◌, ◌<◌, ◌≤◌, Bool, true, false, refl, ap, ◌∙◌, arith}
use Rattle.std.specs.Prelude.{◌==◌, bit_and}
use Rattle.std.proofs.lemmas.Nat.Bits.{and_pow}
use Rattle.rtm_model.specs.declared.error_record.RecordFlags.{RecordFlags}
use Rattle.rtm_sdwa.specs.Flags.{has, flags_of, bit_where, word_of, HasFlagsAlone}

-- a flag as a digit
abbrev digit : Bool → ℕ
digit true = 1
digit false = 0

digit-le : (flag : Bool) → digit flag ≤ 1
digit-le true = omega arith
digit-le false = omega arith

-- what a flag adds to the word
worth : (bit : ℕ) (flag : Bool) → bit_where bit flag ≡ digit flag * bit
worth bit true = omega arith
worth bit false = omega arith

-- the test of a bit, where the flag's digit stands at its place
stands : (x bit : ℕ) (flag : Bool) → x ≡ digit flag * bit → (1 * bit == bit) ≡ true → (0 * bit == bit) ≡ false → (x == bit) ≡ flag
stands x bit true e there absent = rw e there
stands x bit false e there absent = rw e absent

module _ (a b c d e f g h i j : ℕ) (le_a : a ≤ 1) (le_b : b ≤ 1) (le_c : c ≤ 1) (le_d : d ≤ 1) (le_e : e ≤ 1) (le_f : f ≤ 1) (le_g : g ≤ 1) (le_h : h ≤ 1) (le_i : i ≤ 1) (le_j : j ≤ 1) where
  -- the sum of the digits, each at its place
  abbrev digits : ℕ
  digits = a * 32768 + b * 16384 + c * 8192 + d * 4096 + e * 2048 + f * 1024 + g * 512 + h * 256 + i * 128 + j * 64

  digit_of_clup : digits / 32768 % 2 ≡ a
  digit_of_clup = omega arith

  digit_of_perc : digits / 16384 % 2 ≡ b
  digit_of_perc = omega arith

  digit_of_staf : digits / 8192 % 2 ≡ c
  digit_of_staf = omega arith

  digit_of_step : digits / 4096 % 2 ≡ d
  digit_of_step = omega arith

  digit_of_reason : digits / 2048 % 2 ≡ e
  digit_of_reason = omega arith

  digit_of_term_only : digits / 1024 % 2 ≡ f
  digit_of_term_only = omega arith

  digit_of_dump : digits / 512 % 2 ≡ g
  digit_of_dump = omega arith

  digit_of_remrec : digits / 256 % 2 ≡ h
  digit_of_remrec = omega arith

  digit_of_logrec : digits / 128 % 2 ≡ i
  digit_of_logrec = omega arith

  digit_of_fresdwa : digits / 64 % 2 ≡ j
  digit_of_fresdwa = omega arith

module _ (f : RecordFlags) where
  spelled : word_of f ≡ digits (digit f.clup) (digit f.perc) (digit f.staf) (digit f.step) (digit f.reason) (digit f.term_only) (digit f.dump) (digit f.remrec) (digit f.logrec) (digit f.fresdwa) (digit-le f.clup) (digit-le f.perc) (digit-le f.staf) (digit-le f.step) (digit-le f.reason) (digit-le f.term_only) (digit-le f.dump) (digit-le f.remrec) (digit-le f.logrec) (digit-le f.fresdwa)
  spelled = omega (arith, worth 32768 f.clup, worth 16384 f.perc, worth 8192 f.staf, worth 4096 f.step, worth 2048 f.reason, worth 1024 f.term_only, worth 512 f.dump, worth 256 f.remrec, worth 128 f.logrec, worth 64 f.fresdwa)

  clup_again : has (word_of f) 32768 ≡ f.clup
  clup_again = stands (bit_and (word_of f) 32768) 32768 f.clup (and_pow (word_of f) 15 ∙ ap (λ w. w / 32768 % 2 * 32768) spelled ∙ ap (λ w. w * 32768) (digit_of_clup (digit f.clup) (digit f.perc) (digit f.staf) (digit f.step) (digit f.reason) (digit f.term_only) (digit f.dump) (digit f.remrec) (digit f.logrec) (digit f.fresdwa) (digit-le f.clup) (digit-le f.perc) (digit-le f.staf) (digit-le f.step) (digit-le f.reason) (digit-le f.term_only) (digit-le f.dump) (digit-le f.remrec) (digit-le f.logrec) (digit-le f.fresdwa))) refl refl

  perc_again : has (word_of f) 16384 ≡ f.perc
  perc_again = stands (bit_and (word_of f) 16384) 16384 f.perc (and_pow (word_of f) 14 ∙ ap (λ w. w / 16384 % 2 * 16384) spelled ∙ ap (λ w. w * 16384) (digit_of_perc (digit f.clup) (digit f.perc) (digit f.staf) (digit f.step) (digit f.reason) (digit f.term_only) (digit f.dump) (digit f.remrec) (digit f.logrec) (digit f.fresdwa) (digit-le f.clup) (digit-le f.perc) (digit-le f.staf) (digit-le f.step) (digit-le f.reason) (digit-le f.term_only) (digit-le f.dump) (digit-le f.remrec) (digit-le f.logrec) (digit-le f.fresdwa))) refl refl

  staf_again : has (word_of f) 8192 ≡ f.staf
  staf_again = stands (bit_and (word_of f) 8192) 8192 f.staf (and_pow (word_of f) 13 ∙ ap (λ w. w / 8192 % 2 * 8192) spelled ∙ ap (λ w. w * 8192) (digit_of_staf (digit f.clup) (digit f.perc) (digit f.staf) (digit f.step) (digit f.reason) (digit f.term_only) (digit f.dump) (digit f.remrec) (digit f.logrec) (digit f.fresdwa) (digit-le f.clup) (digit-le f.perc) (digit-le f.staf) (digit-le f.step) (digit-le f.reason) (digit-le f.term_only) (digit-le f.dump) (digit-le f.remrec) (digit-le f.logrec) (digit-le f.fresdwa))) refl refl

  step_again : has (word_of f) 4096 ≡ f.step
  step_again = stands (bit_and (word_of f) 4096) 4096 f.step (and_pow (word_of f) 12 ∙ ap (λ w. w / 4096 % 2 * 4096) spelled ∙ ap (λ w. w * 4096) (digit_of_step (digit f.clup) (digit f.perc) (digit f.staf) (digit f.step) (digit f.reason) (digit f.term_only) (digit f.dump) (digit f.remrec) (digit f.logrec) (digit f.fresdwa) (digit-le f.clup) (digit-le f.perc) (digit-le f.staf) (digit-le f.step) (digit-le f.reason) (digit-le f.term_only) (digit-le f.dump) (digit-le f.remrec) (digit-le f.logrec) (digit-le f.fresdwa))) refl refl

  reason_again : has (word_of f) 2048 ≡ f.reason
  reason_again = stands (bit_and (word_of f) 2048) 2048 f.reason (and_pow (word_of f) 11 ∙ ap (λ w. w / 2048 % 2 * 2048) spelled ∙ ap (λ w. w * 2048) (digit_of_reason (digit f.clup) (digit f.perc) (digit f.staf) (digit f.step) (digit f.reason) (digit f.term_only) (digit f.dump) (digit f.remrec) (digit f.logrec) (digit f.fresdwa) (digit-le f.clup) (digit-le f.perc) (digit-le f.staf) (digit-le f.step) (digit-le f.reason) (digit-le f.term_only) (digit-le f.dump) (digit-le f.remrec) (digit-le f.logrec) (digit-le f.fresdwa))) refl refl

  term_only_again : has (word_of f) 1024 ≡ f.term_only
  term_only_again = stands (bit_and (word_of f) 1024) 1024 f.term_only (and_pow (word_of f) 10 ∙ ap (λ w. w / 1024 % 2 * 1024) spelled ∙ ap (λ w. w * 1024) (digit_of_term_only (digit f.clup) (digit f.perc) (digit f.staf) (digit f.step) (digit f.reason) (digit f.term_only) (digit f.dump) (digit f.remrec) (digit f.logrec) (digit f.fresdwa) (digit-le f.clup) (digit-le f.perc) (digit-le f.staf) (digit-le f.step) (digit-le f.reason) (digit-le f.term_only) (digit-le f.dump) (digit-le f.remrec) (digit-le f.logrec) (digit-le f.fresdwa))) refl refl

  dump_again : has (word_of f) 512 ≡ f.dump
  dump_again = stands (bit_and (word_of f) 512) 512 f.dump (and_pow (word_of f) 9 ∙ ap (λ w. w / 512 % 2 * 512) spelled ∙ ap (λ w. w * 512) (digit_of_dump (digit f.clup) (digit f.perc) (digit f.staf) (digit f.step) (digit f.reason) (digit f.term_only) (digit f.dump) (digit f.remrec) (digit f.logrec) (digit f.fresdwa) (digit-le f.clup) (digit-le f.perc) (digit-le f.staf) (digit-le f.step) (digit-le f.reason) (digit-le f.term_only) (digit-le f.dump) (digit-le f.remrec) (digit-le f.logrec) (digit-le f.fresdwa))) refl refl

  remrec_again : has (word_of f) 256 ≡ f.remrec
  remrec_again = stands (bit_and (word_of f) 256) 256 f.remrec (and_pow (word_of f) 8 ∙ ap (λ w. w / 256 % 2 * 256) spelled ∙ ap (λ w. w * 256) (digit_of_remrec (digit f.clup) (digit f.perc) (digit f.staf) (digit f.step) (digit f.reason) (digit f.term_only) (digit f.dump) (digit f.remrec) (digit f.logrec) (digit f.fresdwa) (digit-le f.clup) (digit-le f.perc) (digit-le f.staf) (digit-le f.step) (digit-le f.reason) (digit-le f.term_only) (digit-le f.dump) (digit-le f.remrec) (digit-le f.logrec) (digit-le f.fresdwa))) refl refl

  logrec_again : has (word_of f) 128 ≡ f.logrec
  logrec_again = stands (bit_and (word_of f) 128) 128 f.logrec (and_pow (word_of f) 7 ∙ ap (λ w. w / 128 % 2 * 128) spelled ∙ ap (λ w. w * 128) (digit_of_logrec (digit f.clup) (digit f.perc) (digit f.staf) (digit f.step) (digit f.reason) (digit f.term_only) (digit f.dump) (digit f.remrec) (digit f.logrec) (digit f.fresdwa) (digit-le f.clup) (digit-le f.perc) (digit-le f.staf) (digit-le f.step) (digit-le f.reason) (digit-le f.term_only) (digit-le f.dump) (digit-le f.remrec) (digit-le f.logrec) (digit-le f.fresdwa))) refl refl

  fresdwa_again : has (word_of f) 64 ≡ f.fresdwa
  fresdwa_again = stands (bit_and (word_of f) 64) 64 f.fresdwa (and_pow (word_of f) 6 ∙ ap (λ w. w / 64 % 2 * 64) spelled ∙ ap (λ w. w * 64) (digit_of_fresdwa (digit f.clup) (digit f.perc) (digit f.staf) (digit f.step) (digit f.reason) (digit f.term_only) (digit f.dump) (digit f.remrec) (digit f.logrec) (digit f.fresdwa) (digit-le f.clup) (digit-le f.perc) (digit-le f.staf) (digit-le f.step) (digit-le f.reason) (digit-le f.term_only) (digit-le f.dump) (digit-le f.remrec) (digit-le f.logrec) (digit-le f.fresdwa))) refl refl

  -- which flags stand in their word
  pub flags_again : flags_of (word_of f) ≡ f
  flags_again = λ i. record { clup = clup_again i; perc = perc_again i; staf = staf_again i; step = step_again i; reason = reason_again i; term_only = term_only_again i; dump = dump_again i; remrec = remrec_again i; logrec = logrec_again i; fresdwa = fresdwa_again i }

  pub word_again : HasFlagsAlone (word_of f)
  word_again = ap word_of flags_again

  pub word_of-lt : word_of f < 2 ^ 16
  word_of-lt = omega (arith, spelled, digit-le f.clup, digit-le f.perc, digit-le f.staf, digit-le f.step, digit-le f.reason, digit-le f.term_only, digit-le f.dump, digit-le f.remrec, digit-le f.logrec, digit-le f.fresdwa)
