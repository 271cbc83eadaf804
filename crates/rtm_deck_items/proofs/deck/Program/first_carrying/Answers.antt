use Rattle.std.proofs.Common.{◌≡◌, ◌∙◌, ◌<◌, length, ap, sym, subst}
use Rattle.std.specs.Prelude.{IfSome, position}
use Rattle.std.proofs.lemmas.Iterator.Adapters.{position_from-zero}
use Rattle.rtm_deck_items.specs.View.{ProgramView}
use Rattle.rtm_deck_items.specs.Reading.{carries}
use Rattle.rtm_deck_items.proofs.Lists.{position_below}
use Rattle.rtm_deck_items.proofs.deck.Program.first_carrying.Goals as goal

pub returns-clause-value : goal.returns-clause-value
returns-clause-value c =
    let label = c.args.label.now in
    c.copied.ensures
    ∙ (c.get.ensures.value
    ∙ (c.self.invariant label
    ∙ (sym (position_from-zero (carries label) c.self.inside.lines.items) ∙ ap (λ (p : ProgramView). position (carries label) p.lines) c.self.view_is)))

pub returns-clause-bound : goal.returns-clause-bound
returns-clause-bound c = subst (λ o. IfSome o (λ i. i < length c.args.self.now.lines)) (sym (returns-clause-value c)) (position_below (carries c.args.label.now) c.args.self.now.lines)
