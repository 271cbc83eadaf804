use Rattle.std.proofs.Common.{arith}
use Rattle.rtm_trace.proofs.Replies.{reply_found, reply_refused, reply_trace, reply_line}
use Rattle.rtm_trace.proofs.read.read_trace.Goals as goal

pub returns-clause-found : goal.returns-clause-found
returns-clause-found c = reply_found c.args.deck.now c.keeps_its_form.ensures.well_formed c.args.bytes.now (omega (arith, c.requires)) c.read_lines.result c.read_lines.ensures

pub returns-clause-refused : goal.returns-clause-refused
returns-clause-refused c = reply_refused c.args.deck.now c.keeps_its_form.ensures.well_formed c.args.bytes.now (omega (arith, c.requires)) c.read_lines.result c.read_lines.ensures

pub returns-clause-spelled : goal.returns-clause-spelled
returns-clause-spelled c = λ t h. reply_trace c.args.deck.now c.keeps_its_form.ensures.well_formed c.args.bytes.now (omega (arith, c.requires)) c.read_lines.result c.read_lines.ensures t h

pub returns-clause-bad : goal.returns-clause-bad
returns-clause-bad c = λ line h. reply_line c.args.deck.now c.keeps_its_form.ensures.well_formed c.args.bytes.now (omega (arith, c.requires)) c.read_lines.result c.read_lines.ensures line h
