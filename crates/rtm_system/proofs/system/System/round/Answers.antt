use Rattle.std.proofs.Common.{◌≡◌, ap, arith, length, ◌∙◌}
use Rattle.rtm_deck_items.specs.View.{DeckView}
use Rattle.rtm_model.specs.Advance.{world}
use Rattle.rtm_system.proofs.Rounds.{round_begins}
use Rattle.rtm_system.proofs.system.System.round.Goals as goal

pub units-init : goal.units-init
units-init c =
    let count : c.unit_count-count.result ≡ length c.args.self.now.deck.units = c.unit_count-count.ensures.count ∙ ap (λ (d : DeckView). length d.units) c.deck.ensures.value in
    round_begins c.args.self.now.deck (world c.args.self.now.deck c.args.self.now.trace) c.args.first c.unit_count-count.result _ c.requires count (omega arith)
