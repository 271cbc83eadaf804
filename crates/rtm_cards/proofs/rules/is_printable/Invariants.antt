use Rattle.std.proofs.Common.{◌≡◌, ◌&&◌, drop}
use Rattle.std.specs.List.{list_all}
use Rattle.rtm_cards.specs.Rules.{is_printable}
use Rattle.rtm_cards.proofs.rules.is_printable.Given as goal

-- the bytes so far and those that are left are all
abbrev pub invariant-loop-byte : goal.invariant-loop-byte
invariant-loop-byte l = (l.good && list_all is_printable (drop l.byte-index l.card)) ≡ list_all is_printable l.card
