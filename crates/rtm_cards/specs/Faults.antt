-- The first fault of an input (this profile).
use Rattle.std.specs.Prelude.{◌≡◌, ℕ, ◌-◌, ◌<◌, ◌≤◌, nat_lt, List, length, Option, Some, None, if◌then◌else◌}
use Rattle.rtm_cards.specs.declared.fault.CutWhy.{CutWhy}
use Rattle.rtm_cards.specs.declared.fault.CutWhy.TheVariants.{TooLong}
use Rattle.rtm_cards.specs.declared.fault.CutFault.{CutFault}
use Rattle.rtm_cards.specs.Limits.{most_bytes}
use Rattle.rtm_cards.specs.Lines.{lines_of, line_at, number_at}
use Rattle.rtm_cards.specs.Rules.{fault_of}

-- No card breaks a rule.
abbrev pub NoCutFault : List (List ℕ) → Type 0
NoCutFault lines = (m : ℕ) → 0 < m → m ≤ length lines → fault_of m (line_at lines m) ≡ None

-- The card of that number is the least that breaks a rule, and this is the first that it breaks.
pub record FirstCutFault (lines : List (List ℕ)) (number : ℕ) (why : CutWhy) : Type 0 where
  pub counted : 0 < number
  pub there : number ≤ length lines
  pub broken : fault_of number (line_at lines number) ≡ Some why
  pub least : (m : ℕ) → 0 < m → m < number → fault_of m (line_at lines m) ≡ None

-- The bytes are few enough, and no card of theirs breaks a rule.
pub record HasNoFault (bytes : List ℕ) : Type 0 where
  pub size : length bytes ≤ most_bytes
  pub cards : NoCutFault (lines_of bytes)

-- Too many bytes are refused at the card that holds the first byte too many. Else the fault is that of the least card
-- that breaks a rule.
pub record IsFirstFault (bytes : List ℕ) (fault : CutFault) : Type 0 where
  pub by_size : most_bytes < length bytes → (fault.card ≡ number_at bytes most_bytes) × (fault.why ≡ TooLong)
  pub by_card : length bytes ≤ most_bytes → FirstCutFault (lines_of bytes) fault.card fault.why

-- how many cards stand before the fault, or in all; where there are too many bytes, no card is looked at
abbrev pub lines_before : List ℕ → Option CutFault → ℕ
lines_before bytes None = length (lines_of bytes)
lines_before bytes (Some fault) = if nat_lt most_bytes (length bytes) then 0 else fault.card - 1
