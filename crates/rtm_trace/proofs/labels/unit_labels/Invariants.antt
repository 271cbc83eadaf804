use Rattle.std.proofs.Common.{◌≡◌, ◌++◌, map, drop}
use Rattle.rtm_trace.specs.inner.Labels.{unit_label}
use Rattle.rtm_trace.proofs.labels.unit_labels.Given as goal

-- with the labels of the units that are left, these are all
abbrev pub invariant-loop-unit : goal.invariant-loop-unit
invariant-loop-unit l = l.labels.items ++ map (unit_label l.back) (drop l.unit-index l.units) ≡ map (unit_label l.back) l.units
