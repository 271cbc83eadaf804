use Rattle.std.proofs.Common.{◌≡◌, [], ◌∷◌, ◌++◌, rules}
use Rattle.rtm_cards.specs.View.{CardSpans}
use Rattle.rtm_cards.specs.Cards.{IsCardOf}
use Rattle.rtm_cards.proofs.CardForm.{is_card, each_push}
use Rattle.rtm_cards.proofs.cut.put_card.Goals as goal

pub returns-clause-each : goal.returns-clause-each
returns-clause-each c = λ h.
    let card : CardSpans = c.in_ok-card.card in
    let pushed : c.push.new.self.items ≡ c.args.cards.now.items ++ card ∷ [] = search rules in
    let is : IsCardOf c.args.bytes.now card =
    is_card _ card _ c.args.line c.in_ok-card.ensures.text c.in_ok-card.ensures.spans c.in_ok-card.ensures.places c.requires.line c.requires.start c.requires.fine (cc) in
    rw pushed (each_push _ _ _ h is)
