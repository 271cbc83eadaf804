use Rattle.std.proofs.Common.{◌≡◌, drop}
use Rattle.rtm_text.specs.Cutting.{skip_blanks}
use Rattle.rtm_text.proofs.scan.count_blanks.Given as goal

-- what is left begins with the rest of the blanks
abbrev pub invariant-loop-i : goal.invariant-loop-i
invariant-loop-i l = skip_blanks (drop l.i l.text) ≡ skip_blanks l.text
