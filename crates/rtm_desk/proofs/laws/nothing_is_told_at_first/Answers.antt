use Rattle.std.proofs.Common.{refl}
use Rattle.rtm_desk.proofs.laws.nothing_is_told_at_first.Goals as goal

pub returns : goal.returns
returns c = refl
