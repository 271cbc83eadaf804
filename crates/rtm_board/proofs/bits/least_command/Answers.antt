use Rattle.std.proofs.Common.{arith}
use Rattle.rtm_board.proofs.Sets.{least}
use Rattle.rtm_board.proofs.bits.least_command.Goals as goal

pub returns-clause-least : goal.returns-clause-least
returns-clause-least c = least c.args.set (omega arith) c.ranges.set.fits
