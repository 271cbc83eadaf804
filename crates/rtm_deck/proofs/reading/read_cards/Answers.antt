use Rattle.std.proofs.Common.{◌≡◌, sym, subst}
use Rattle.rtm_deck.specs.inner.Reader.{Gives, deck_or_fault}
use Rattle.rtm_deck.proofs.Calls.Giving.{gives-value, gives-deck_or_fault}
use Rattle.rtm_deck.proofs.reading.read_cards.Goals as goal

pub returns-in-Err : goal.returns-in-Err
returns-in-Err c = gives-deck_or_fault (λ a b. a ≡ b) (λ a b. a ≡ b) c.in-Err.fault _ c.args.lines c.args.fault c.in-Err.ensures

pub returns-in-Ok : goal.returns-in-Ok
returns-in-Ok c = subst (λ y. Gives (λ a b. a ≡ b) c.deck_or_fault.result (deck_or_fault c.args.lines c.args.fault y)) (sym (gives-value c.in-Ok.scan _ c.in-Ok.ensures)) c.deck_or_fault.ensures
