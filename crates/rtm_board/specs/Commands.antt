-- Sets of commands: a number of 64 bits, in which the bit of a command's number stands where the command is in the set.
use Rattle.std.specs.Prelude.{◌≡◌, ℕ, ◌-◌, ◌^◌, ◌<◌, Bool, true, false, ◌==◌, bit_and, bit_or}
use Rattle.std.specs.Int.{bit_at}

-- the set without any command
abbrev pub no_commands : ℕ
no_commands = 0

-- the command is in the set
unfoldable pub has : ℕ → ℕ → Bool
has cmd set = bit_at set cmd == 1

-- the set with the command
abbrev pub with_one : ℕ → ℕ → ℕ
with_one cmd set = bit_or set (2 ^ cmd)

-- the set without the command, whose number is at most 63
abbrev pub without_one : ℕ → ℕ → ℕ
without_one cmd set = bit_and set (2 ^ 64 - 1 - 2 ^ cmd)

-- the commands of two sets
abbrev pub union_of : ℕ → ℕ → ℕ
union_of one other = bit_or one other

-- the command is in the set, and none of a lower number
pub record IsLeast (set cmd : ℕ) : Type 0 where
  pub here : has cmd set ≡ true
  pub none_before : (c : ℕ) → c < cmd → has c set ≡ false
