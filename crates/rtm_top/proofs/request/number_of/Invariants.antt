use Rattle.std.proofs.Common.{◌≡◌, ℕ, ◌<◌, ◌≤◌}
use Rattle.std.specs.Prelude.{decimal}
use Rattle.rtm_top.proofs.request.number_of.Given as goal

-- It is none of the numbers so far.
abbrev pub invariant-numbers : goal.invariant-numbers
invariant-numbers l = (tasks : ℕ) → 1 ≤ tasks → tasks < l.number → l.text ≡ decimal tasks → ⊥
