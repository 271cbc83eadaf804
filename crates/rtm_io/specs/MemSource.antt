-- What a source in memory is seen as, and what a read does to it (this profile).
use Rattle.std.specs.Prelude.{ℕ, List, drop}
use Rattle.rtm_io.specs.Faults.{next_count}

-- a source in memory, as a contract sees it
pub record SourceState : Type 0 where
  pub left : List ℕ  -- the bytes still to come
  pub fail : List ℕ  -- the numbers of the calls that fail, the first call being number 0
  pub calls : ℕ  -- how many calls there were, and so the number of the next
  pub faults : ℕ  -- how many of them failed

-- a source of these bytes that nobody has called
abbrev pub source_of : List ℕ → List ℕ → SourceState
source_of bytes fail = record { left = bytes; fail = fail; calls = 0; faults = 0 }

-- after a read that gave so many bytes
abbrev pub after_read : SourceState → ℕ → SourceState
after_read state n = record state { left = drop n state.left; calls = next_count state.calls }

-- after a read that failed
abbrev pub after_failed_read : SourceState → SourceState
after_failed_read state = record state { calls = next_count state.calls; faults = next_count state.faults }
