use Rattle.std.proofs.Common.{◌∙◌}
use Rattle.rtm_codes.proofs.Spellings.{code_in-spelled, read-found, read-none, read-in_range}
use Rattle.rtm_codes.proofs.text.read_code.Goals as goal

pub returns-clause-found : goal.returns-clause-found
returns-clause-found c = read-found c.args.text.now c.spelled_code.result c.spelled_code.ensures

pub returns-clause-only : goal.returns-clause-only
returns-clause-only c = λ code spelled. c.spelled_code.ensures ∙ code_in-spelled c.args.text.now code spelled

pub returns-clause-none : goal.returns-clause-none
returns-clause-none c = read-none c.args.text.now c.spelled_code.result c.spelled_code.ensures

pub returns-clause-in_range : goal.returns-clause-in_range
returns-clause-in_range c = read-in_range c.args.text.now c.spelled_code.result c.spelled_code.ensures
