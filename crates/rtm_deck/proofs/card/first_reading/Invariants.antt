use Rattle.std.proofs.Common.{◌≡◌, drop, map}
use Rattle.rtm_cards.specs.Span.{text_of}
use Rattle.rtm_deck.specs.inner.Seen.{reading_by}
use Rattle.rtm_deck.proofs.card.first_reading.Given as goal

-- what is said by the forms that are left is said by all
abbrev pub invariant-loop-form : goal.invariant-loop-form
invariant-loop-form l = reading_by l.op (map (text_of l.bytes) l.operands) (drop l.form-index l.forms) ≡ reading_by l.op (map (text_of l.bytes) l.operands) l.forms
