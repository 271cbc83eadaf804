use Rattle.std.proofs.Common.{◌≡◌, ◌≤◌, Some, arith, length, refl, subst, sym, ◌∙◌}
use Rattle.rtm_deck_items.specs.View.{DeckView}
use Rattle.rtm_model.specs.Legal.{end_of}
use Rattle.rtm_model.specs.Turns.{turn_after}
use Rattle.rtm_system.specs.Turned.{IsNext, turn_of}
use Rattle.rtm_system.specs.View.{SystemView}
use Rattle.rtm_crew.proofs.TurnLemmas.{all_left, all_made, next_turn, nobodys_turn}
use Rattle.rtm_crew.proofs.run.seq_run.Goals as goal

pub turns-init : goal.turns-init
turns-init g c = record { deck = refl; turn_in = omega arith; notes = c.requires.notes; so_far = all_left c.args.region.now.system c.requires.start }

pub turns-preserved : goal.turns-preserved
turns-preserved g c =
    let e = c.in-Ok.entry in
    let turn = c.turn_after-turn.result in
    let step = subst (λ (v : SystemView). turn_of v.deck v.trace c.turns.turn ≡ Some e) c.system.ensures.value c.in-Ok.ensures.which in
    let next = subst (λ (v : SystemView). IsNext v.deck v.trace e) c.system.ensures.value c.in-Ok.ensures.follows in
    let after = subst (λ (v : SystemView). turn ≡ turn_after v.deck c.turns.turn e.unit e.what) c.system-in-Ok.ensures.value c.turn_after-turn.ensures.next in
    let within = subst (λ (v : SystemView). turn ≤ length v.deck.units) c.system-in-Ok.ensures.value c.turn_after-turn.ensures.in_deck in
    record {
      deck = c.make_next.ensures.deck ∙ c.turns.invariant.deck;
      turn_in = subst (λ (d : DeckView). turn ≤ length d.units) (sym c.make_next.ensures.deck) within;
      notes = c.make_next.ensures.notes;
      so_far = next_turn c.turns.region.system c.make_next.new.self.system c.turns.turn turn e _ step next after c.make_next.ensures.trace c.make_next.ensures.deck c.turns.invariant.so_far;
    }

pub returns-in-Err-clause-trace : goal.returns-in-Err-clause-trace
returns-in-Err-clause-trace g c =
    let end = subst (λ (v : SystemView). end_of v.deck v.trace ≡ Some c.in-Err.end) c.system.ensures.value c.in-Err.ensures.end in
    all_made c.turns.region.system c.turns.turn _ (nobodys_turn c.turns.region.system c.turns.turn c.in-Err.end end) c.turns.invariant.so_far
