use Rattle.std.proofs.Common.{◌≡◌, [], map, drop}
use Rattle.rtm_trace.specs.inner.Words.{put_names}
use Rattle.rtm_trace.proofs.names.unit_names.Given as goal

-- with the names that are left, these are all
abbrev pub invariant-loop-unit : goal.invariant-loop-unit
invariant-loop-unit l = put_names l.names.keys (map (λ u. u.name) (drop l.unit-index l.units)) ≡ put_names [] (map (λ u. u.name) l.units)
