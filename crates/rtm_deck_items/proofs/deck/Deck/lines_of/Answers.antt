use Rattle.std.proofs.Common.{◌≡◌, ◌∙◌, ap}
use Rattle.std.specs.Prelude.{slice_get}
use Rattle.rtm_deck_items.specs.Reading.{lines_in}
use Rattle.rtm_deck_items.proofs.FormFacts.{few_lines}
use Rattle.rtm_deck_items.proofs.deck.Deck.lines_of.Goals as goal

pub returns-clause-few : goal.returns-clause-few
returns-clause-few c =
    let same : c.lines_at.result.now ≡ lines_in (slice_get c.self.inside.programs.items c.args.prog) =
    c.lines_at.ensures ∙ ap (λ ps. lines_in (slice_get ps c.args.prog)) c.deref.ensures.value in
    let few = few_lines _ c.self.invariant c.args.prog in
    rw same few
