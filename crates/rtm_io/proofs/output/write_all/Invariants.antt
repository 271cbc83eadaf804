use Rattle.std.proofs.Common.{◌≡◌, ◌-◌, ◌≤◌, length, take}
use Rattle.rtm_io.specs.Stream.{Appends}
use Rattle.rtm_io.proofs.output.write_all.Given as goal

-- so far the front of the bytes was added, and no fault was counted
abbrev pub invariant-loop-done : goal.invariant-loop-done
invariant-loop-done g l =
    (l.done ≤ length l.bytes)
    × Appends (g.K.Sink.written l.fn.out) (g.K.Sink.written l.out) (take l.done l.bytes)
    × (g.K.Sink.faults l.out ≡ g.K.Sink.faults l.fn.out)

abbrev pub decreases-loop-done : goal.decreases-loop-done
decreases-loop-done g l = length l.bytes - l.done
