use Rattle.std.proofs.Common.{◌≡◌, ◌^◌, ◌<◌, drop}
use Rattle.rtm_text.specs.Digits.{number_after}
use Rattle.rtm_text.proofs.digits.number_in.Given as goal

-- The number so far, with the digits to come, gives the whole number, and it fits the digits so far.
abbrev pub invariant-loop-byte : goal.invariant-loop-byte
invariant-loop-byte l = record {
  so_far : number_after l.base l.number (drop l.byte-index l.digits) ≡ number_after l.base 0 l.digits;
  bound : l.number < 16 ^ l.byte-index;
}
