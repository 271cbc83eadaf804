-- What `read_all` answers (this profile).
use Rattle.std.specs.Prelude.{◌≡◌, ℕ, ◌+◌, ◌==◌, ◌<◌, ◌≤◌, List, length, take, count_by, Option, IfSome}
use Rattle.rtm_io.specs.Faults.{HasRisen}
use Rattle.rtm_io.specs.Stream.{Takes, IsAtEnd}
use Rattle.rtm_io.specs.declared.input.InFault.{InFault}
use Rattle.rtm_io.specs.declared.input.InFault.TheVariants.{Memory, Read, TooLong}

-- the number, from 1, of the line in which the byte with this index stands: a line feed, byte 10, ends a line
abbrev pub line_at : List ℕ → ℕ → ℕ
line_at bytes index = 1 + count_by (λ byte. byte == 10) (take index bytes)

-- the bytes are all that was left in the source, and not more than the limit; the source is at its end now
pub record GivesAll (limit : ℕ) (old new : Option (List ℕ)) (bytes : List ℕ) : Type 0 where
  pub all : IfSome old (λ left. bytes ≡ left)
  pub within : length bytes ≤ limit
  pub end : IsAtEnd new

-- more bytes than the limit were left; the first past it stands in this line, and was taken as the last
pub record IsTooLong (limit : ℕ) (old new : Option (List ℕ)) (line : ℕ) : Type 0 where
  pub longer : IfSome old (λ left. limit < length left)
  pub in_line : IfSome old (λ left. line ≡ line_at left limit)
  pub in_range : (1 ≤ line) × (line ≤ limit + 1)
  pub taken : Takes (limit + 1) old new

-- what each fault says; the two counts are the source's faults before the call and now
abbrev pub IsInFault : ℕ → Option (List ℕ) → Option (List ℕ) → ℕ → ℕ → InFault → Type 0
IsInFault limit old new before now Memory = now ≡ before
IsInFault limit old new before now Read = HasRisen before now
IsInFault limit old new before now (TooLong line) = IsTooLong limit old new line × (now ≡ before)

-- what each fault of a single read says, for which there is no limit
abbrev pub IsReadFault : ℕ → ℕ → InFault → Type 0
IsReadFault before now Memory = now ≡ before
IsReadFault before now Read = HasRisen before now
IsReadFault before now (TooLong line) = ⊥
