use Rattle.std.proofs.Common.{◌≡◌, ◌++◌, take, drop}
use Rattle.rtm_text.specs.Cutting.{before, from_first}
use Rattle.rtm_text.proofs.scan.find.Given as goal

-- what is left is cut as the whole is
abbrev pub invariant-loop-i : goal.invariant-loop-i
invariant-loop-i l = (take l.i l.text ++ before l.stop (drop l.i l.text) ≡ before l.stop l.text) × (from_first l.stop (drop l.i l.text) ≡ from_first l.stop l.text)
