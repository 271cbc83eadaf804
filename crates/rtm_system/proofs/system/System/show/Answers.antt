use Rattle.std.proofs.Common.{◌++◌, ap, ◌∙◌}
use Rattle.rtm_system.specs.Steps.{arrival_answer, entries_arrived}
use Rattle.rtm_system.specs.declared.arrived.Arrived.{Arrived}
use Rattle.rtm_system.proofs.Arrivals.{arrival_is_made}
use Rattle.rtm_system.proofs.Shown.{picked}
use Rattle.rtm_system.proofs.system.System.show.Goals as goal

pub returns-clause-trace : goal.returns-clause-trace
returns-clause-trace c =
    let d = c.args.self.now.deck in
    let trace = c.args.self.now.trace in
    let note = picked c.args.cmd c.in-Some.note c.args.notes.now c.pick.result c.requires.there c.in-Some.is c.pick.ensures.which in
    c.arrive-made.ensures.trace
    ∙ ap (λ (a : Arrived). trace ++ entries_arrived a) (c.arrive-made.ensures.answer ∙ ap (arrival_answer d trace) note ∙ arrival_is_made d trace c.args.cmd c.args.entry c.requires.next.room c.requires.arrival)
