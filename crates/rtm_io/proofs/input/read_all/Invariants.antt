use Rattle.std.proofs.Common.{◌≡◌, ℕ, List, ◌+◌, ◌-◌, ◌≤◌, ◌<◌, Option, vec_len}
use Rattle.rtm_io.specs.Stream.{Gives}
use Rattle.rtm_io.proofs.input.read_all.Given as goal

-- the bytes are what the source gave so far, one past the limit at most, and its count of faults stayed
pub record IsSoFar (limit : ℕ) (old new : Option (List ℕ)) (before now : ℕ) (len room : ℕ) (bytes : List ℕ) : Type 0 where
  pub within : len ≤ limit + 1
  pub some : 0 < room
  pub given : Gives old new bytes
  pub kept : now ≡ before

abbrev pub invariant-loop-bytes : goal.invariant-loop-bytes
invariant-loop-bytes g l =
    IsSoFar l.limit (g.S.Source.left l.fn.src) (g.S.Source.left l.src) (g.S.Source.faults l.fn.src) (g.S.Source.faults l.src) (vec_len l.bytes) (vec_len l.chunk) l.bytes.items

abbrev pub decreases-loop-bytes : goal.decreases-loop-bytes
decreases-loop-bytes g l = l.limit + 1 - vec_len l.bytes
