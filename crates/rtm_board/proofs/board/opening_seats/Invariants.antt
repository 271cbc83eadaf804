use Rattle.std.proofs.Common.{◌≡◌, ◌≤◌, map, vec_capacity}
use Rattle.std.specs.List.{range_with_len}
use Rattle.rtm_board.specs.View.{opening_seat}
use Rattle.rtm_board.proofs.board.opening_seats.Given as goal

abbrev pub invariant-loop-unit : goal.invariant-loop-unit
invariant-loop-unit l = (l.seats.items ≡ map (opening_seat l.targets) (range_with_len 0 l.unit)) × (l.units ≤ vec_capacity l.seats)
