use Rattle.std.proofs.Common.{length, sym, ◌∙◌}
use Rattle.rtm_model.specs.Advance.{world}
use Rattle.rtm_system.proofs.Arrives.{arrival_follows}
use Rattle.rtm_system.proofs.system.System.arrive.Goals as goal

pub add-requires-clause-follows : goal.add-requires-clause-follows
add-requires-clause-follows c =
    let d = c.args.self.now.deck in
    let trace = c.args.self.now.trace in
    arrival_follows d (world d trace) (length trace) c.cmd-cmd.result c.in-Some.entry (sym c.arrival.ensures ∙ c.in-Some.is)
