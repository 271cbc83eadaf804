use Rattle.std.proofs.Common.{length, sym, ◌∙◌}
use Rattle.rtm_model.specs.Advance.{world}
use Rattle.rtm_system.proofs.Going.{answers_limit, answers_made}
use Rattle.rtm_system.proofs.system.System.make.Goals as goal

pub returns-then-is_at_limit-clause-answer : goal.returns-then-is_at_limit-clause-answer
returns-then-is_at_limit-clause-answer c =
    answers_limit c.args.self.now.deck (world c.args.self.now.deck c.args.self.now.trace) (length c.args.self.now.trace) c.args.unit c.args.what
    (sym c.has_ended.ensures ∙ c.if-has_ended.false) c.requires.unit c.requires.next (sym c.is_at_limit.ensures ∙ c.if-is_at_limit.true)

pub returns-clause-answer : goal.returns-clause-answer
returns-clause-answer c =
    answers_made c.args.self.now.deck (world c.args.self.now.deck c.args.self.now.trace) (length c.args.self.now.trace) c.args.unit c.args.what
    (sym c.has_ended.ensures ∙ c.if-has_ended.false) c.requires.unit c.requires.next (sym c.is_at_limit.ensures ∙ c.if-is_at_limit.false)
