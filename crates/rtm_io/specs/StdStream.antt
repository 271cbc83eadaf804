-- What a stream of std is seen as, with a count of its faults (this profile).
use Rattle.std.specs.Prelude.{ℕ}

-- a stream of std, as a contract sees it: a reader or a writer
pub record StreamState (Stream : Type 0) : Type 0 where
  pub stream : Stream
  pub faults : ℕ  -- how many of its calls failed
