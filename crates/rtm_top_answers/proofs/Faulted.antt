-- Which part of the input of `verify` a first fault is in.
use Rattle.std.proofs.Common.{◌≡◌, ℕ, ◌<◌, ◌≤◌, Bool, true, false, List, length, sym, ap, arith}
use Rattle.std.specs.Prelude.{if◌then◌else◌, nat_lt}
use Rattle.std.proofs.lemmas.Bool.Decides.{nat_tests}
use Rattle.rtm_cards.specs.Split.{deck_part}
use Rattle.rtm_top_answers.specs.Verify.{faulted_part}

short : (n : ℕ) → n ≤ 16777216 → nat_lt 16777216 n ≡ false
short n h = grind (arith, nat_tests)

long : (n : ℕ) → 16777216 < n → nat_lt 16777216 n ≡ true
long n h = grind (arith, nat_tests)

-- an input that isn't too long: in its deck
pub is_deck_part : (bytes : List ℕ) → length bytes ≤ 16777216 → deck_part bytes ≡ faulted_part bytes
is_deck_part bytes h = sym (ap (λ (b : Bool). if b then bytes else deck_part bytes) (short (length bytes) h))

-- one that is too long: in all of it
pub is_whole : (bytes : List ℕ) → 16777216 < length bytes → bytes ≡ faulted_part bytes
is_whole bytes h = sym (ap (λ (b : Bool). if b then bytes else deck_part bytes) (long (length bytes) h))
