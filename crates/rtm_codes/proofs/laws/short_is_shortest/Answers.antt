use Rattle.rtm_codes.proofs.Written.{short_of-shortest}
use Rattle.rtm_codes.proofs.laws.short_is_shortest.Goals as goal

pub returns : goal.returns
returns c = short_of-shortest
