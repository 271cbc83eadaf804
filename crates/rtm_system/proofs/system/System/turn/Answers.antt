use Rattle.std.proofs.Common.{length, sym, ◌∙◌}
use Rattle.rtm_model.specs.Advance.{world}
use Rattle.rtm_system.proofs.Rounds.{full_limits, none_stalls, turn_follows, turn_made}
use Rattle.rtm_system.proofs.system.System.turn.Goals as goal

pub returns-in-None-clause-end : goal.returns-in-None-clause-end
returns-in-None-clause-end c =
    let d = c.args.self.now.deck in
    let trace = c.args.self.now.trace in
    none_stalls d (world d trace) (length trace) c.args.first (sym c.has_ended.ensures ∙ c.if-has_ended.false) c.requires (sym c.seq_step.ensures ∙ c.in-None.is)

pub returns-in-Some-clause-end : goal.returns-in-Some-clause-end
returns-in-Some-clause-end c =
    let d = c.args.self.now.deck in
    let trace = c.args.self.now.trace in
    full_limits d (world d trace) (length trace) c.args.first c.in-Some.field-0 (sym c.has_ended.ensures ∙ c.if-has_ended.false) c.requires (sym c.seq_step.ensures ∙ c.in-Some.is)
    (sym c.is_at_limit.ensures ∙ c.if-is_at_limit.true)

pub returns-in-Some-2-clause-which : goal.returns-in-Some-2-clause-which
returns-in-Some-2-clause-which c =
    let d = c.args.self.now.deck in
    let trace = c.args.self.now.trace in
    turn_made d (world d trace) (length trace) c.args.first c.in-Some.field-0 (sym c.has_ended.ensures ∙ c.if-has_ended.false) c.requires (sym c.seq_step.ensures ∙ c.in-Some.is)
    (sym c.is_at_limit.ensures ∙ c.if-is_at_limit.false)

pub returns-in-Some-2-clause-follows : goal.returns-in-Some-2-clause-follows
returns-in-Some-2-clause-follows c =
    turn_follows c.args.self.now.deck c.args.self.now.trace c.args.first c.in-Some.field-0 (returns-in-Some-2-clause-which c)

pub returns-in-Some-2-clause-in_deck : goal.returns-in-Some-2-clause-in_deck
returns-in-Some-2-clause-in_deck c =
    c.is_in_deck.ensures c.in-Some.field-0 (turn_follows c.args.self.now.deck c.args.self.now.trace c.args.first c.in-Some.field-0 (returns-in-Some-2-clause-which c))
