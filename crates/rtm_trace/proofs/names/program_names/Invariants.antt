use Rattle.std.proofs.Common.{◌≡◌, [], map, drop}
use Rattle.rtm_trace.specs.inner.Words.{put_names}
use Rattle.rtm_trace.proofs.names.program_names.Given as goal

-- with the names that are left, these are all
abbrev pub invariant-loop-program : goal.invariant-loop-program
invariant-loop-program l = put_names l.names.keys (map (λ p. p.name) (drop l.program-index l.programs)) ≡ put_names [] (map (λ p. p.name) l.programs)
