-- What a sink in memory is seen as, and what a write does to it (this profile).
use Rattle.std.specs.Prelude.{ℕ, ◌-◌, List, [], ◌++◌, length}
use Rattle.rtm_io.specs.Faults.{next_count}

-- a sink in memory, as a contract sees it
pub record SinkState : Type 0 where
  pub written : List ℕ  -- the bytes taken so far
  pub room : ℕ  -- how many bytes it takes in all
  pub fail : List ℕ  -- the numbers of the calls that fail, the first call being number 0
  pub calls : ℕ  -- how many calls there were, and so the number of the next
  pub faults : ℕ  -- how many of them failed

-- a sink with this room that nobody has called
abbrev pub sink_of : ℕ → List ℕ → SinkState
sink_of room fail = record { written = []; room = room; fail = fail; calls = 0; faults = 0 }

-- how many bytes it takes yet
abbrev pub room_left : SinkState → ℕ
room_left state = state.room - length state.written

-- after a write that took these bytes
abbrev pub after_write : SinkState → List ℕ → SinkState
after_write state bytes = record state { written = state.written ++ bytes; calls = next_count state.calls }

-- after a write that failed
abbrev pub after_failed_write : SinkState → SinkState
after_failed_write state = record state { calls = next_count state.calls; faults = next_count state.faults }
