use Rattle.std.proofs.Common.{◌≡◌, ap}
use Rattle.std.specs.Prelude.{slice_get}
use Rattle.rtm_deck_items.specs.Reading.{lines_in}
use Rattle.rtm_deck_items.proofs.FormFacts.{few_lines}
use Rattle.rtm_deck_items.proofs.deck.Deck.label_at.Goals as goal

pub position_of-requires : goal.position_of-requires
position_of-requires c =
    let same : lines_in (slice_get c.deref.result.now c.args.prog) ≡ lines_in (slice_get c.self.inside.programs.items c.args.prog) =
    ap (λ ps. lines_in (slice_get ps c.args.prog)) c.deref.ensures.value in
    let few = few_lines _ c.self.invariant c.args.prog in
    rw same few
