use Rattle.std.proofs.Common.{IsTrue, List, ap, arith, length, subst, ◌<◌, ◌^◌, ◌≡◌}
use Rattle.rtm_deck_items.specs.View.{DeckView}
use Rattle.rtm_deck_items.specs.WellFormed.{is_well_formed}
use Rattle.rtm_model.specs.declared.entry.Entry.{Entry}
use Rattle.rtm_crew_threads.proofs.Counts.{is_counted}
use Rattle.rtm_crew_threads.proofs.running.count_of.Goals as goal

pub overflow_cast-result : goal.overflow_cast-result
overflow_cast-result c =
    let form : IsTrue (is_well_formed c.args.system.now.deck) = subst (λ (d : DeckView). IsTrue (is_well_formed d)) c.deck.ensures.value c.keeps_its_form.ensures.well_formed in
    let few : length c.args.system.now.trace < 2 ^ 32 = is_counted c.args.system.now.deck c.args.system.now.trace form c.trace.ensures.legal in
    let same : length c.trace.result.now ≡ length c.args.system.now.trace = ap (λ (es : List Entry). length es) c.trace.ensures.value in
    omega (arith, few, same)
